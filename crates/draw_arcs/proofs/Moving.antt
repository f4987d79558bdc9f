-- The placings that the code holds: one more, and a point moved by one after the other. Assumes nothing.
use mathlib.Core.Path.{◌≡◌, refl, sym, ◌∙◌}
use mathlib.Core.List.{List, [], ◌∷◌}
use Prim.Native.Nat.{ℕ, zero, suc, ◌+◌, ◌-◌, ◌≤◌, ◌<◌}
use native.Mathlib.Nat.{le_of_suc-le-suc, not-suc-le-zero}
use native.Mathlib.Numerals.{add-one}
use native.Mathlib.Omega.{arith}
use lib.ListN.{length, drop, get_or, set, drop_of_length-le}
use lib.Seq.{drop-cons}
use Rattle.geometry.specs.declared.vector.Vector.{Vector}
use Rattle.matrix.specs.Matrices.{mul_position}
use Rattle.matrix.specs.declared.Matrix.{Matrix}
use Rattle.draw_arcs.specs.Stances.{moved_by}

drop-set : (l : List Matrix) (i : ℕ) (m : Matrix) → i < length l → drop i (set l i m) ≡ m ∷ drop (suc i) l
drop-set [] i m h = absurd (not-suc-le-zero h)
drop-set (x ∷ xs) zero m h = refl
drop-set (x ∷ xs) (suc i) m h = drop-set xs i m (le_of_suc-le-suc h)

pub one_more : (l : List Matrix) (k : ℕ) (m : Matrix) → 1 ≤ k → k ≤ length l → drop (k - 1) (set l (k - 1) m) ≡ m ∷ drop k l
one_more l k m p h = let e : suc (k - 1) ≡ k = omega (arith, p) in drop-set l (k - 1) m (omega (arith, p, h)) ∙ rw e

-- the point p, moved by the placings from i on, is where v comes to
pub record Moving (l : List Matrix) (n : ℕ) (v : Vector) (p : Vector) (i : ℕ) : Type 0 where
  pub rest : moved_by (drop i l) p ≡ moved_by (drop n l) v

module _ (l : List Matrix) (n : ℕ) (v : Vector) where
  pub moving-start : Moving l n v v n
  moving-start = record { rest = refl }

  module _ (p : Vector) (i : ℕ) (h : Moving l n v p i) where
    pub moving-turn : i < length l → (d : Matrix) {q : Vector} → q ≡ mul_position (get_or l i d) p → Moving l n v q (i + 1)
    unfolding moved_by
    moving-turn low d eq = record { rest = rw (add-one, eq) (sym (rw (drop-cons l i d low)) ∙ h.rest) }

    pub moving-end : length l ≤ i → p ≡ moved_by (drop n l) v
    unfolding moved_by
    moving-end e = sym (rw (drop_of_length-le l {i = i} e)) ∙ h.rest
