-- What commands and steps leave as it is, and that pen and target stay on the sheet: the rest of what `../specs/Moves.antt` states.
use mathlib.Core.Path.{◌≡◌, refl, ◌∙◌}
use mathlib.Core.Bool.{Bool, true, false, cond, ◌||◌}
use Prim.Native.Nat.{ℕ, ◌+◌, ◌-◌, ◌<◌, ◌≤◌}
use native.Mathlib.Omega.{arith}
use lib.Dec.{eqb, ltb}
use lib.ListN.{set}
use lib.Seq.{get_or-set_other}
use borrow.Author.Tests.{ltb-true, ltb-false}
use Rattle.std.specs.Prelude.{Err, Ok, Result, ⊤}
use Rattle.plotter_registers.specs.declared.Position.{Position}
use Rattle.plotter_registers.specs.declared.Registers.{Registers}
use Rattle.plotter_registers.specs.declared.BadWrite.{BadWrite}
use Rattle.plotter_registers.specs.Plotter.{has_bit, byte_at, busy, goal, past_sheet, moving, obeyed, judged, stored, after_write, toward, closer, moved, arrived, same_position, step_of}
use Rattle.plotter_registers.specs.Moves.{BytesLeft, OnSheet, StaysOnSheet}
use Rattle.plotter_registers.proofs.Moving.{idle, arrives, goes_on, arrived-keeps}

-- ---- bytes
above : (j k : ℕ) → j < k → k ≡ j → ⊥
above j k h e = omega arith

obeyed-leaves : (r : Registers) (c k : ℕ) → 1 < k → (a b d u : Bool) → eqb c 1 ≡ a → eqb c 2 ≡ b → eqb c 3 ≡ d → past_sheet (goal r) ≡ u → byte_at k (obeyed r c) ≡ byte_at k r
unfolding obeyed moving
obeyed-leaves r c k h true b d u e f g i = rw e (get_or-set_other r.bytes 1 k _ 0 (above 1 k h))
obeyed-leaves r c k h false true d u e f g i = rw (e, f) (get_or-set_other r.bytes 1 k _ 0 (above 1 k h))
obeyed-leaves r c k h false false true u e f g i = rw (e, f, g) (get_or-set_other r.bytes 1 k _ 0 (above 1 k h))
obeyed-leaves r c k h false false false true e f g i = rw (e, f, g, i) (get_or-set_other r.bytes 1 k _ 0 (above 1 k h))
obeyed-leaves r c k h false false false false e f g i = rw (e, f, g, i) (get_or-set_other r.bytes 1 k _ 0 (above 1 k h))

command-leaves : (r : Registers) (v k : ℕ) → 1 < k → (a : Result ⊤ BadWrite) → judged r 0 v ≡ a → byte_at k (after_write r 0 v) ≡ byte_at k r
unfolding after_write stored
command-leaves r v k h (Ok tt) e =
    rw e (get_or-set_other (obeyed r v).bytes 0 k v 0 (above 0 k (omega arith)) ∙ obeyed-leaves r v k h (eqb v 1) (eqb v 2) (eqb v 3) (past_sheet (goal r)) refl refl refl refl)
command-leaves r v k h (Err x) e = rw e

arrived-leaves : (r : Registers) (k : ℕ) → 1 < k → k < 7 → (m : Bool) → has_bit 1 (byte_at 6 r) ≡ m → byte_at k (arrived r) ≡ byte_at k r
unfolding arrived
arrived-leaves r k h l true e = rw e (get_or-set_other (set r.bytes 1 _) 7 k _ 0 (λ p. omega arith) ∙ get_or-set_other r.bytes 1 k _ 0 (above 1 k h))
arrived-leaves r k h l false e = rw e (get_or-set_other r.bytes 1 k _ 0 (above 1 k h))

step-leaves : (r : Registers) (k : ℕ) → 1 < k → k < 7 → (b u : Bool) → busy r ≡ b → same_position (closer r.pen r.target) r.target ≡ u → byte_at k (step_of r) ≡ byte_at k r
unfolding moved
step-leaves r k h l false u e f = rw (idle r e)
step-leaves r k h l true true e f = rw (arrives r e f) (arrived-leaves (moved r) k h l (has_bit 1 (byte_at 6 r)) refl)
step-leaves r k h l true false e f = rw (goes_on r e f)

pub bytes_left : BytesLeft
bytes_left r k h =
    (λ v. command-leaves r v k h (judged r 0 v) refl, λ l. step-leaves r k h l (busy r) (same_position (closer r.pen r.target) r.target) refl refl)

-- ---- the sheet
toward-within : (a t m : ℕ) → a ≤ m → t ≤ m → toward a t ≤ m
unfolding toward
toward-within a t m p q = by_cases (ltb a t) (ltb t a) refl refl
  where
    by_cases : (u v : Bool) → ltb a t ≡ u → ltb t a ≡ v → cond (ltb a t) (a + 1) (cond (ltb t a) (a - 1) a) ≤ m
    by_cases true v e f = rw e (omega (arith, ltb-true a t e))
    by_cases false true e f = rw (e, f) (omega arith)
    by_cases false false e f = rw (e, f) p

closer-on : (p t : Position) → OnSheet p → OnSheet t → OnSheet (closer p t)
unfolding closer
closer-on p t h k = (toward-within p.x t.x 8410 h.0 k.0, toward-within p.y t.y 5940 h.1 k.1)

step-on : (r : Registers) → OnSheet r.pen → OnSheet r.target → (b u : Bool) → busy r ≡ b → same_position (closer r.pen r.target) r.target ≡ u
    → OnSheet (step_of r).pen × OnSheet (step_of r).target
unfolding moved
step-on r p t false u e f = rw (idle r e) (p, t)
step-on r p t true true e f = rw (arrives r e f, (arrived-keeps (moved r)).0, (arrived-keeps (moved r)).1) (closer-on r.pen r.target p t, t)
step-on r p t true false e f = rw (goes_on r e f) (closer-on r.pen r.target p t, t)

neither : (a b : Bool) → (a || b) ≡ false → (a ≡ false) × (b ≡ false)
neither true b e = let z : ◌≡◌ {A = ℕ} 0 1 = cc in absurd (omega arith)
neither false b e = (refl, e)

not-past : (p : Position) → past_sheet p ≡ false → OnSheet p
not-past p e =
    let both : (ltb 8410 p.x ≡ false) × (ltb 5940 p.y ≡ false) = neither _ _ e in
    (ltb-false 8410 p.x both.0, ltb-false 5940 p.y both.1)

obeyed-on : (r : Registers) (c : ℕ) → OnSheet r.pen → OnSheet r.target → (a b d u : Bool) → eqb c 1 ≡ a → eqb c 2 ≡ b → eqb c 3 ≡ d → past_sheet (goal r) ≡ u
    → OnSheet (obeyed r c).pen × OnSheet (obeyed r c).target
unfolding obeyed moving
obeyed-on r c p t true b d u e f g i = rw e (p, t)
obeyed-on r c p t false true d u e f g i = rw (e, f) (p, t)
obeyed-on r c p t false false true u e f g i = rw (e, f, g) (p, (omega arith, omega arith))
obeyed-on r c p t false false false true e f g i = rw (e, f, g, i) (p, t)
obeyed-on r c p t false false false false e f g i = rw (e, f, g, i) (p, not-past (goal r) i)

stored_on : (r : Registers) (k v : ℕ) → OnSheet r.pen → OnSheet r.target → (a b : Bool) → eqb k 0 ≡ a → eqb k 6 ≡ b → OnSheet (stored r k v).pen × OnSheet (stored r k v).target
unfolding stored
stored_on r k v p t true b e f = rw e (obeyed-on r v p t (eqb v 1) (eqb v 2) (eqb v 3) (past_sheet (goal r)) refl refl refl refl)
stored_on r k v p t false true e f = rw (e, f) (p, t)
stored_on r k v p t false false e f = rw (e, f) (p, t)

write-on : (r : Registers) (k v : ℕ) → OnSheet r.pen → OnSheet r.target → (a : Result ⊤ BadWrite) → judged r k v ≡ a → OnSheet (after_write r k v).pen × OnSheet (after_write r k v).target
unfolding after_write
write-on r k v p t (Ok tt) e = rw e (stored_on r k v p t (eqb k 0) (eqb k 6) refl refl)
write-on r k v p t (Err x) e = rw e (p, t)

pub stays-on-sheet : StaysOnSheet
stays-on-sheet = (
  ((omega arith, omega arith), (omega arith, omega arith)),
  λ r p t. (λ k v. write-on r k v p t (judged r k v) refl, step-on r p t (busy r) (same_position (closer r.pen r.target) r.target) refl refl),
)
