-- The loop over the points: those before i are moved, the others as they were. Assumes nothing.
use mathlib.Core.Path.{◌≡◌, refl, sym, ap, ◌∙◌}
use mathlib.Core.List.{List, [], ◌∷◌, ◌++◌, map, map-append}
use Prim.Native.Nat.{ℕ, ◌+◌, ◌*◌, ◌≤◌, ◌<◌}
use native.Mathlib.Numerals.{add-one}
use native.Mathlib.Omega.{arith}
use lib.ListN.{length, take, drop, length-map}
use lib.Seq.{sets-eq, length-sets, take_at, drop_at, drop-drop}
use lib.Ieee.{Float}
use Rattle.geometry.specs.declared.vector.Vector.{Vector}
use Rattle.matrix.specs.Matrices.{mul_position}
use Rattle.matrix.specs.declared.Matrix.{Matrix}
use Rattle.rows.specs.Rows.{row, set_row, view, flat}
use Rattle.rows.specs.Points.{points, point_of, point_row}
use Rattle.rows.proofs.Rows.{length-view, length-flat, view-more, flat_append}
use Rattle.rows.proofs.Backs.{point-back}
use Rattle.path_transform.specs.Transform.{transformed}

pub record Moving (m : Matrix) (xs₀ : List Float) (n : ℕ) (xs : List Float) (i : ℕ) : Type 0 where
  pub same : length xs ≡ length xs₀
  pub upto : i ≤ n
  pub fits : n * 3 ≤ length xs
  pub is : xs ≡ transformed m i xs₀

module _ (m : Matrix) (xs₀ : List Float) (n : ℕ) where
  done : ℕ → List Float
  done i = flat point_row (map (mul_position m) (points i xs₀))

  length-done : (i : ℕ) → length (done i) ≡ i * 3
  unfolding done
  length-done i = length-flat 3 point_of point_row (λ b. refl) (map (mul_position m) (points i xs₀)) ∙ ap (λ (k : ℕ). k * 3) (length-map (points i xs₀) (mul_position m) ∙ length-view 3 point_of i xs₀)

  pub moving-start : n * 3 ≤ length xs₀ → Moving m xs₀ n xs₀ 0
  unfolding transformed view flat
  moving-start h = record { same = refl; upto = omega arith; fits = h; is = refl }

  module _ (xs : List Float) (i : ℕ) (h : Moving m xs₀ n xs i) where
    is-now : xs ≡ done i ++ drop (i * 3) xs₀
    unfolding transformed done
    is-now = h.is

    before : take (i * 3) xs ≡ done i
    before = ap (take (i * 3)) is-now ∙ take_at (done i) (drop (i * 3) xs₀) (i * 3) (length-done i)

    after : drop (i * 3) xs ≡ drop (i * 3) xs₀
    after = ap (drop (i * 3)) is-now ∙ drop_at (done i) (drop (i * 3) xs₀) (i * 3) (length-done i)

    pub moving-turn : (p q : Vector) (ys : List Float) → i < n → p ≡ point_of (row 3 i xs) → q ≡ mul_position m p → ys ≡ set_row 3 i (point_row q) xs → Moving m xs₀ n ys (i + 1)
    unfolding transformed done flat
    moving-turn p q ys l ep eq ey =
        let fit : i * 3 + 3 ≤ length xs = omega (arith, h.fits) in
        let s : ys ≡ take (i * 3) xs ++ point_row q ++ drop (i * 3 + 3) xs = ey ∙ sets-eq (point_row q) xs (i * 3) fit in
        let r : point_of (row 3 i xs) ≡ point_of (row 3 i xs₀) = ap (λ (t : List Float). point_of (take 3 t)) after in
        let e : q ≡ mul_position m (point_of (row 3 i xs₀)) = eq ∙ ap (mul_position m) (ep ∙ r) in
        let d : drop (i * 3 + 3) xs ≡ drop ((i + 1) * 3) xs₀ = sym (drop-drop 3 (i * 3) xs) ∙ ap (drop 3) after ∙ drop-drop 3 (i * 3) xs₀ ∙ (let k : i * 3 + 3 ≡ (i + 1) * 3 = omega arith in ap (λ (j : ℕ). drop j xs₀) k) in
        let g : done (i + 1) ≡ done i ++ point_row q
        = rw (add-one, view-more 3 point_of i xs₀, map-append, flat_append 3 point_of point_row (λ b. refl) point-back (map (mul_position m) (points i xs₀)) (mul_position m (point_of (row 3 i xs₀)) ∷ []), ← e) in
        record {
          same = ap length ey ∙ length-sets xs (i * 3) (point_row q) ∙ h.same;
          upto = omega arith;
          fits = rw (ey, length-sets) h.fits;
          is = s ∙ rw (before, d) (ap (λ (t : List Float). t ++ drop ((i + 1) * 3) xs₀) (sym g));
        }

    pub moving-end : n ≤ i → xs ≡ transformed m n xs₀
    moving-end l = let e : i ≡ n = omega (arith, h.upto) in h.is ∙ ap (λ (k : ℕ). transformed m k xs₀) e
