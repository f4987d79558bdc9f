-- What is kept of the ends of paths: at first nothing, then what the test makes of each. Assumes nothing.
use mathlib.Core.Path.{◌≡◌, refl, sym, ap, ◌∙◌}
use mathlib.Core.Bool.{Bool, true, false, cond}
use mathlib.Core.List.{List}
use Prim.Native.Nat.{ℕ, suc, ◌+◌, ◌-◌, ◌≤◌, ◌<◌}
use native.Mathlib.Omega.{arith}
use native.Mathlib.Nat.{mod-lt}
use borrow.Author.Tests.{eqb-true, eqb-false}
use lib.Dec.{T, eqb}
use lib.ListN.{length, get_or, set, replicate, length-set, get_or-replicate}
use lib.Seq.{get_or-set_same, get_or-set_other}
use lib.Ieee.{Float, nan, inf, fin, eq, binary64, fits, of_bits, to_bits}
use lib.Ieee.Bits.{of_bits-to_bits}
use Rattle.floats.specs.Numbers.{number}
use Rattle.floats.proofs.Tests.{eq_self}
use Rattle.geometry.specs.declared.vector.Vector.{Vector}
use Rattle.geometry.specs.Vectors.{vec}
use Rattle.rows.specs.Rows.{row, set_row}
use Rattle.rows.specs.Points.{point_of, point_row}
use Rattle.rows.proofs.Rows.{row_same, row_other, length-set_row}
use Rattle.draw_memory.specs.Memory.{outcome_of, next_place, same_number, same_point, recalled_from, recalled, Recalled, Remembered}
use Rattle.std.specs.Prelude.{Err, None, Ok, Option, Result, Some}
use Rattle.refusals.specs.declared.Refusal.{Refusal}

pub one-pattern : (a b : Float) → T (fits binary64 a) → T (fits binary64 b) → to_bits binary64 a ≡ to_bits binary64 b → a ≡ b
one-pattern a b f g e = sym (of_bits-to_bits binary64 a f) ∙ ap (of_bits binary64) e ∙ of_bits-to_bits binary64 b g

pub one-point : (a b : Vector) → a.x ≡ b.x → a.y ≡ b.y → a.z ≡ b.z → a ≡ b
one-point a b e f g = ap (λ (x : Float). vec x a.y a.z) e ∙ ap (λ (y : Float). vec b.x y a.z) f ∙ ap (λ (z : Float). vec b.x b.y z) g

-- ---- one and the same number
self-number : (x : Float) → eq x x ≡ number x
unfolding eq
self-number nan = refl
self-number (inf s) = eq_self (inf s) tt
self-number (fin s m e) = eq_self (fin s m e) tt

module _ (a b : Float) where
  pub same_not : eq a a ≡ false → false ≡ same_number a b
  unfolding same_number
  same_not h = rw (sym (self-number a) ∙ h)

  module _ (h : eq a a ≡ true) where
    pub same-not-2 : eq b b ≡ false → false ≡ same_number a b
    unfolding same_number
    same-not-2 k = rw (sym (self-number a) ∙ h, sym (self-number b) ∙ k)

    pub same-by-bits : eq b b ≡ true → eqb (to_bits binary64 a) (to_bits binary64 b) ≡ same_number a b
    unfolding same_number
    same-by-bits k = rw (sym (self-number a) ∙ h, sym (self-number b) ∙ k)

-- ---- the places one after the other: what is left of them tells what all tell
module _ (ends : List Float) (known : List ℕ) (v : Vector) (k : ℕ) (e : recalled_from ends known v (8 - k) k ≡ recalled ends known v) where
  pub recall-none : 8 ≤ k → 2 ≡ recalled ends known v
  unfolding recalled_from
  recall-none l = let z : 8 - k ≡ 0 = omega arith in rw z at e

  module _ (l : k < 8) (p : Vector) (ep : p ≡ point_of (row 3 k ends)) (t : Bool) (et : t ≡ same_point p v) where
    opened : cond t (get_or known k 0) (recalled_from ends known v (8 - (k + 1)) (k + 1)) ≡ recalled ends known v
    unfolding recalled_from
    opened =
        let z : 8 - k ≡ suc (8 - (k + 1)) = omega arith in
        rw (et, ep) (rw z at e)

    pub recall-found : t ≡ true → get_or known k 0 ≡ recalled ends known v
    recall-found h = rw h at opened

    pub recall-next : t ≡ false → recalled_from ends known v (8 - (k + 1)) (k + 1) ≡ recalled ends known v
    recall-next h = rw h at opened

pub recall-start : (ends : List Float) (known : List ℕ) (v : Vector) → recalled_from ends known v 8 0 ≡ recalled ends known v
unfolding recalled
recall-start ends known v = refl

-- ---- what is kept
pub outcome-dropped : (t : Result (Option Vector) Refusal) → outcome_of t ≡ 0 → t ≡ Ok None
unfolding outcome_of
outcome-dropped (Ok None) e = refl
outcome-dropped (Ok (Some v)) e = absurd (omega (arith, e))
outcome-dropped (Err k) e = absurd (omega (arith, e))

module _ (test : Vector → Result (Option Vector) Refusal) where
  pub known_start : (z : Float) → Remembered test (replicate 24 z) (replicate 9 2)
  known_start z = record {
    wide = refl;
    wide_known = refl;
    each = λ (k : ℕ) l h. absurd (omega (arith, get_or-replicate {A = ℕ} 9 k 2 0 (omega arith)));
  }

  module _ (ends : List Float) (known : List ℕ) (K : Remembered test ends known) (v : Vector) where
    pub known-told : (c : ℕ) → Recalled ends known v c → c < 2 → outcome_of (test v) ≡ c
    known-told c R h =
        let e = K.each R.place R.there (omega (arith, R.is)) in
        ap (λ (p : Vector). outcome_of (test p)) (sym R.same) ∙ e ∙ R.is

    module _ (c : ℕ) (is : c ≡ outcome_of (test v)) where
      pub known_more : (ends' : List Float) (known' : List ℕ) → ends' ≡ set_row 3 (next_place known) (point_row v) ends → known' ≡ set (set known (next_place known) c) 8 (next_place known + 1)
          → Remembered test ends' known'
      known_more ends' known' e f = record {
        wide = ap length e ∙ length-set_row 3 (next_place known) (point_row v) ends ∙ K.wide;
        wide_known = ap length f ∙ length-set (set known (next_place known) c) 8 (next_place known + 1) ∙ length-set known (next_place known) c ∙ K.wide_known;
        each = λ (k : ℕ) l. rw (e, f) (at k l);
      }
        where
          low : next_place known < 8
          low = mod-lt (get_or known 8 0) (omega arith)

          -- what is known of place k, before the ninth number is written
          first : (k : ℕ) → k < 8 → get_or (set (set known (next_place known) c) 8 (next_place known + 1)) k 0 ≡ get_or (set known (next_place known) c) k 0
          first k l = get_or-set_other (set known (next_place known) c) 8 k (next_place known + 1) 0 (λ g. omega (arith, g))

          Tells : List Float → List ℕ → ℕ → Type 0
          Tells xs ns k = get_or ns k 0 < 2 → outcome_of (test (point_of (row 3 k xs))) ≡ get_or ns k 0

          by : (k : ℕ) → k < 8 → (b : Bool) → (b ≡ true → k ≡ next_place known) → (b ≡ false → k ≡ next_place known → ⊥) → Tells (set_row 3 (next_place known) (point_row v) ends) (set known (next_place known) c) k
          by k l true y n = rw (y refl, row_same 3 (next_place known) (point_row v) ends refl (omega (arith, K.wide)), get_or-set_same known (next_place known) c 0 (omega (arith, K.wide_known))) (λ h. sym is)
          by k l false y n = rw (row_other 3 (next_place known) k (point_row v) ends refl (n refl), get_or-set_other known (next_place known) k c 0 (n refl)) (K.each k l)

          at : (k : ℕ) → k < 8 → Tells (set_row 3 (next_place known) (point_row v) ends) (set (set known (next_place known) c) 8 (next_place known + 1)) k
          at k l = rw (first k l) (by k l (eqb k (next_place known)) (eqb-true k (next_place known)) (eqb-false k (next_place known)))
