-- How long a move lasts, where it ends, and that only accepted writes and steps while busy change anything: what `../specs/Moves.antt` states.
use mathlib.Core.Path.{◌≡◌, refl, sym, ap, ◌∙◌}
use mathlib.Core.Bool.{Bool, true, false, cond, ◌&&◌, or-true}
use mathlib.Core.Logic.{◌⊎◌, inl, inr, ⊎_elim}
use Prim.Native.Nat.{ℕ, zero, suc, ◌+◌, ◌-◌, ◌*◌, ◌/◌, ◌%◌, ◌<◌, ◌≤◌, max}
use native.Mathlib.Omega.{arith}
use lib.Bits.{bit_and, bit_or, and_step, and_mask, and_shr, and_mod, or_shr, or_mod, and_zero_r}
use lib.Dec.{eqb, ltb}
use lib.ListN.{length, set, length-set}
use lib.Seq.{get_or-set_same, get_or-set_other}
use borrow.Author.Tests.{lt-ltb, le-ltb, ltb-true, ltb-false, eqb-true, eqb-false}
use Rattle.std.specs.Prelude.{Err, Ok, Result, ⊤}
use Rattle.plotter_registers.specs.declared.Position.{Position}
use Rattle.plotter_registers.specs.declared.Registers.{Registers}
use Rattle.plotter_registers.specs.declared.BadWrite.{BadWrite}
use Rattle.plotter_registers.specs.declared.BadWrite.TheVariants.{BadCommand}
use Rattle.plotter_registers.specs.Plotter.{busy, has_bit, byte_at, moving, obeyed, judged, stored, after_write, toward, closer, arrived, moved, step_of, same_position, with_byte}
use Rattle.plotter_registers.specs.Moves.{steps, apart, larger_distance, Move, destination, BusyUntil, PenArrives, TargetFixed, ChangedOnly}

-- bit 1 of a byte, by weight
bit-one : (b : ℕ) → bit_and b 2 ≡ (b / 2 % 2) * 2
bit-one b = and_step b 2 ∙ omega (arith, and_mask (b / 2) 1)

lowered : (b : ℕ) → bit_and (bit_and b 253) 2 ≡ 0
lowered b =
    bit-one (bit_and b 253) ∙ (ap (λ (n : ℕ). n % 2 * 2) (and_shr b 253 1) ∙ ap (λ (n : ℕ). n * 2) (and_mod (b / 2) 126 1 ∙ and_zero_r (b / 2 % 2)))

or-one : (m : ℕ) → m < 2 → bit_or m 1 ≡ 1
or-one zero h = refl
or-one (suc zero) h = refl
or-one (suc (suc m)) h = absurd (omega arith)

raised : (b : ℕ) → bit_and (bit_or b 2) 2 ≡ 2
raised b =
    bit-one (bit_or b 2) ∙ (ap (λ (n : ℕ). n % 2 * 2) (or_shr b 2 1) ∙ ap (λ (n : ℕ). n * 2) (or_mod (b / 2) 1 1 ∙ or-one (b / 2 % 2) (omega arith)))

-- one axis
near : (a t : ℕ) → apart (toward a t) t ≡ apart a t - 1
unfolding toward apart
near a t = by_cases (ltb a t) (ltb t a) refl refl
  where
    by_cases : (u v : Bool) → ltb a t ≡ u → ltb t a ≡ v → apart (cond (ltb a t) (a + 1) (cond (ltb t a) (a - 1) a)) t ≡ apart a t - 1
    by_cases true v p q = rw p (omega (arith, ltb-true a t p))
    by_cases false true p q = rw (p, q) (omega (arith, ltb-true t a q))
    by_cases false false p q = rw (p, q) (omega (arith, ltb-false a t p, ltb-false t a q))

both : (a b : Bool) → (a && b) ≡ true → (a ≡ true) × (b ≡ true)
both true b e = (refl, e)
both false b e = let z : ◌≡◌ {A = ℕ} 0 1 = cc in absurd (omega arith)

either : (a b : Bool) → (a && b) ≡ false → (a ≡ false) ⊎ (b ≡ false)
either true b e = inr e
either false b e = inl refl

at-end : (a t : ℕ) → eqb (toward a t) t ≡ true → apart a t ≤ 1
unfolding apart
at-end a t e = let h : toward a t ≡ t = eqb-true (toward a t) t e in omega (arith, near a t)

not-at-end : (a t : ℕ) → eqb (toward a t) t ≡ false → 2 ≤ apart a t
unfolding apart
not-at-end a t e = omega (arith, near a t, eqb-false (toward a t) t e)

-- both axes: the last step, and one before it
last : (p t : Position) → same_position (closer p t) t ≡ true → larger_distance p t ≤ 1
unfolding closer larger_distance
last p t e =
    let ends : (eqb (toward p.x t.x) t.x ≡ true) × (eqb (toward p.y t.y) t.y ≡ true) = both _ _ e in
    omega (arith, at-end p.x t.x ends.0, at-end p.y t.y ends.1)

more : (p t : Position) → same_position (closer p t) t ≡ false → max 1 (larger_distance p t) ≡ max 1 (larger_distance (closer p t) t) + 1
unfolding closer larger_distance
more p t e =
    let x : apart (toward p.x t.x) t.x ≡ apart p.x t.x - 1 = near p.x t.x in
    let y : apart (toward p.y t.y) t.y ≡ apart p.y t.y - 1 = near p.y t.y in
    rw (x, y)
    (⊎_elim (λ h. omega (arith, not-at-end p.x t.x h)) (λ h. omega (arith, not-at-end p.y t.y h))
    (either (eqb (toward p.x t.x) t.x) (eqb (toward p.y t.y) t.y) e))

arrived-idle : (r : Registers) → 1 < length r.bytes → busy (arrived r) ≡ false
unfolding arrived busy
arrived-idle r h = by_mask (has_bit 1 (byte_at 6 r)) refl
  where
    off : ◌≡◌ {A = ℕ} 1 7 → ⊥
    off e = omega arith

    by_mask : (m : Bool) → has_bit 1 (byte_at 6 r) ≡ m → busy (arrived r) ≡ false
    by_mask true e = rw e (rw (get_or-set_other (set r.bytes 1 (bit_and (byte_at 1 r) 253)) 7 1 _ 0 off, get_or-set_same r.bytes 1 _ 0, lowered))
    by_mask false e = rw e (rw (get_or-set_same r.bytes 1 _ 0, lowered))

pub arrived-keeps : (r : Registers) → ((arrived r).pen ≡ r.pen) × ((arrived r).target ≡ r.target)
unfolding arrived
arrived-keeps r = by_mask (has_bit 1 (byte_at 6 r)) refl
  where
    by_mask : (m : Bool) → has_bit 1 (byte_at 6 r) ≡ m → ((arrived r).pen ≡ r.pen) × ((arrived r).target ≡ r.target)
    by_mask true e = rw e (refl, refl)
    by_mask false e = rw e (refl, refl)

-- a step in each of its three cases
pub idle : (r : Registers) → busy r ≡ false → step_of r ≡ r
unfolding step_of
idle r e = rw e

pub arrives : (r : Registers) → busy r ≡ true → same_position (closer r.pen r.target) r.target ≡ true → step_of r ≡ arrived (moved r)
unfolding step_of moved
arrives r b e = rw (b, e)

pub goes_on : (r : Registers) → busy r ≡ true → same_position (closer r.pen r.target) r.target ≡ false → step_of r ≡ moved r
unfolding step_of moved
goes_on r b e = rw (b, e)

idle-steps : (n : ℕ) (r : Registers) → busy r ≡ false → steps n r ≡ r
unfolding steps
idle-steps zero r e = refl
idle-steps (suc n) r e = ap (steps n) (idle r e) ∙ idle-steps n r e

still-busy : (r : Registers) → busy (moved r) ≡ busy r
unfolding busy moved
still-busy r = refl

position-eq : (p q : Position) → same_position p q ≡ true → p ≡ q
position-eq p q e =
    let ends : (eqb p.x q.x ≡ true) × (eqb p.y q.y ≡ true) = both _ _ e in
    λ i. record { x = eqb-true p.x q.x ends.0 i; y = eqb-true p.y q.y ends.1 i }

shift : (n m : ℕ) → ltb n m ≡ ltb (suc n) (m + 1)
shift n m = by-test (ltb n m) refl
  where
    by-test : (u : Bool) → ltb n m ≡ u → ltb n m ≡ ltb (suc n) (m + 1)
    by-test true e = e ∙ sym (lt-ltb (suc n) (m + 1) (omega (arith, ltb-true n m e)))
    by-test false e = e ∙ sym (le-ltb (suc n) (m + 1) (omega (arith, ltb-false n m e)))

-- what holds of a busy state after n steps
pub record Moved (n : ℕ) (r : Registers) : Type 0 where
  pub lasts : busy (steps n r) ≡ ltb n (max 1 (larger_distance r.pen r.target))
  pub ends : max 1 (larger_distance r.pen r.target) ≤ n → (steps n r).pen ≡ r.target

ended : (n : ℕ) (r : Registers) → 1 < length r.bytes → busy r ≡ true → same_position (closer r.pen r.target) r.target ≡ true → Moved (suc n) r
unfolding steps moved
ended n r h b e =
    let here : steps n (step_of r) ≡ arrived (moved r) =
    ap (steps n) (arrives r b e) ∙ idle-steps n (arrived (moved r)) (arrived-idle (moved r) h) in
    record {
      lasts = ap busy here ∙ (arrived-idle (moved r) h ∙ sym (le-ltb (suc n) (max 1 (larger_distance r.pen r.target)) (omega (arith, last r.pen r.target e))));
      ends = λ k. ap (λ (s : Registers). s.pen) here ∙ ((arrived-keeps (moved r)).0 ∙ position-eq (closer r.pen r.target) r.target e);
    }

on : (n : ℕ) (r : Registers) → busy r ≡ true → same_position (closer r.pen r.target) r.target ≡ false → Moved n (moved r) → Moved (suc n) r
unfolding steps moved
on n r b e m =
    let here : steps n (step_of r) ≡ steps n (moved r) = ap (steps n) (goes_on r b e) in
    let far : max 1 (larger_distance r.pen r.target) ≡ max 1 (larger_distance (closer r.pen r.target) r.target) + 1 = more r.pen r.target e in
    record {
      lasts = ap busy here ∙ (m.lasts ∙ rw far (shift n (max 1 (larger_distance (closer r.pen r.target) r.target))));
      ends = λ k. ap (λ (s : Registers). s.pen) here ∙ m.ends (omega arith);
    }

by_end : (n : ℕ) (r : Registers) → 1 < length r.bytes → busy r ≡ true → Moved n (moved r) → (u : Bool) → same_position (closer r.pen r.target) r.target ≡ u → Moved (suc n) r
by_end n r h b m true e = ended n r h b e
by_end n r h b m false e = on n r b e m

from : (n : ℕ) (r : Registers) → 1 < length r.bytes → busy r ≡ true → Moved n r
unfolding steps moved
from zero r h b =
    record { lasts = b ∙ sym (lt-ltb 0 (max 1 (larger_distance r.pen r.target)) (omega arith)); ends = λ k. absurd (omega arith) }
from (suc n) r h b =
    by_end n r h b (from n (moved r) h (still-busy r ∙ b)) (same_position (closer r.pen r.target) r.target) refl

-- an accepted move is a busy state, with the pen where it was and the destination for a target
off : ◌≡◌ {A = ℕ} 1 0 → ⊥
off e = omega arith

begun : (r : Registers) (c : ℕ) (to : Position) → length r.bytes ≡ 8 → busy (with_byte 0 c (moving r to)) ≡ true
unfolding busy moving
begun r c to h =
    let long : 1 < length r.bytes = omega arith in
    rw (get_or-set_other (set r.bytes 1 (bit_or (bit_and (byte_at 1 r) 251) 2)) 0 1 c 0 off, get_or-set_same r.bytes 1 _ 0, raised)

accept : (r : Registers) (k v : ℕ) → judged r k v ≡ Ok tt → after_write r k v ≡ stored r k v
unfolding after_write
accept r k v e = rw e

begins : (r : Registers) (c : ℕ) → Move r c → after_write r 0 c ≡ with_byte 0 c (moving r (destination r c))
unfolding stored obeyed
begins r c m =
    accept r 0 c m.accepted ∙ ⊎_elim (λ e. rw e) (λ e. rw (e.0, e.1)) m.kind

begun-moves : (r : Registers) (c : ℕ) → Move r c → (n : ℕ) → Moved n (with_byte 0 c (moving r (destination r c)))
unfolding moving
begun-moves r c m n =
    from n (with_byte 0 c (moving r (destination r c))) (rw (length-set, length-set, m.eight) (omega arith)) (begun r c (destination r c) m.eight)

pub busy-until : BusyUntil
unfolding moving
busy-until r c m n = rw (begins r c m) (begun-moves r c m n).lasts

pub pen-arrives : PenArrives
unfolding moving
pen-arrives r c m n h = rw (begins r c m) ((begun-moves r c m n).ends h)

-- no command is accepted while busy
command-refused : (r : Registers) (v : ℕ) → busy r ≡ true → judged r 0 v ≡ Err BadCommand
unfolding judged
command-refused r v b = rw (b, or-true)

while-busy : (r : Registers) (k v : ℕ) → busy r ≡ true → judged r k v ≡ Ok tt → (u : Bool) → eqb k 0 ≡ u → u ≡ false
while-busy r k v b e false h = refl
while-busy r k v b e true h =
    let p : judged r k v ≡ Err BadCommand = rw (eqb-true k 0 h) (command-refused r v b) in
    let z : ◌≡◌ {A = ℕ} 0 1 = cc in
    absurd (omega arith)

byte-stored : (r : Registers) (k v : ℕ) → eqb k 0 ≡ false → (u : Bool) → eqb k 6 ≡ u → (stored r k v).target ≡ r.target
unfolding stored
byte-stored r k v h true e = rw (h, e)
byte-stored r k v h false e = rw (h, e)

write_keeps : (r : Registers) (k v : ℕ) → busy r ≡ true → (a : Result ⊤ BadWrite) → judged r k v ≡ a → (after_write r k v).target ≡ r.target
unfolding after_write
write_keeps r k v b (Ok tt) e =
    rw e (byte-stored r k v (while-busy r k v b e (eqb k 0) refl) (eqb k 6) refl)
write_keeps r k v b (Err x) e = rw e

step_keeps : (r : Registers) (b u : Bool) → busy r ≡ b → same_position (closer r.pen r.target) r.target ≡ u → (step_of r).target ≡ r.target
unfolding moved
step_keeps r false u e h = rw (idle r e)
step_keeps r true true e h = rw (arrives r e h) (arrived-keeps (moved r)).1
step_keeps r true false e h = rw (goes_on r e h)

pub target_fixed : TargetFixed
target_fixed r =
    (λ k v b. write_keeps r k v b (judged r k v) refl, step_keeps r (busy r) (same_position (closer r.pen r.target) r.target) refl refl)

refused : (r : Registers) (k v : ℕ) → (judged r k v ≡ Ok tt → ⊥) → (a : Result ⊤ BadWrite) → judged r k v ≡ a → after_write r k v ≡ r
unfolding after_write
refused r k v n (Ok tt) e = absurd (n e)
refused r k v n (Err x) e = rw e

pub changed-only : ChangedOnly
changed-only r = (λ k v n. refused r k v n (judged r k v) refl, idle r)
