-- Points from one place on, moved in a part of a slice. Assumes nothing.
use mathlib.Core.Path.{◌≡◌, refl, sym, ap, ap₂, ◌∙◌}
use mathlib.Core.List.{List, ◌++◌, map, append-nil}
use Prim.Native.Nat.{ℕ, ◌+◌, ◌-◌, ◌*◌, ◌≤◌, ◌<◌}
use native.Mathlib.Omega.{arith}
use lib.ListN.{length, take, drop, length-map, drop_of_length-le}
use lib.Seq.{take_all, take_at, drop_at, length-take-le}
use lib.Ieee.{Float}
use Rattle.geometry.specs.declared.vector.Vector.{Vector}
use Rattle.matrix.specs.Matrices.{mul_position}
use Rattle.matrix.specs.declared.Matrix.{Matrix}
use Rattle.rows.specs.Rows.{flat}
use Rattle.rows.specs.Points.{points, point_of, point_row}
use Rattle.rows.proofs.Rows.{view-take, view-flat}
use Rattle.paths.proofs.Parts.{length-points}
use Rattle.path_append.proofs.Joining.{view-add, view-both}
use Rattle.path_transform.specs.Transform.{transformed}

pub moved_none : (m : Matrix) (vs : List Vector) (n : ℕ) → length vs ≤ n → vs ≡ take n vs ++ map (mul_position m) (drop n vs)
moved_none m vs n h = sym (ap₂ (λ (a b : List Vector). a ++ map (mul_position m) b) (take_all n vs h) (drop_of_length-le vs h) ∙ append-nil vs)

-- the first k points of a slice whose first k points were moved
pub transformed-points : (m : Matrix) (k : ℕ) (xs : List Float) → points k (transformed m k xs) ≡ map (mul_position m) (points k xs)
unfolding transformed
transformed-points m k xs =
    let e : length (map (mul_position m) (points k xs)) ≡ k = length-map (points k xs) (mul_position m) ∙ length-points k xs in
    ap (λ (j : ℕ). points j (flat point_row (map (mul_position m) (points k xs)) ++ drop (k * 3) xs)) (sym e)
    ∙ view-flat 3 point_of point_row (λ _. refl) (λ _. refl) (map (mul_position m) (points k xs)) (drop (k * 3) xs)

module _ (m : Matrix) (xs : List Float) (n end : ℕ) (low : n < end) (fit : end * 3 ≤ length xs) where
  split : points end xs ≡ points n xs ++ points (end - n) (drop (n * 3) xs)
  split = (let e : end ≡ n + (end - n) = omega arith in ap (λ (j : ℕ). points j xs) e) ∙ view-add 3 point_of n (end - n) xs

  -- the rest of a slice, moved, stands behind the first n points
  pub moved-part : (ys : List Float) → ys ≡ take (n * 3) xs ++ transformed m (end - n) (drop (n * 3) xs)
      → points end ys ≡ take n (points end xs) ++ map (mul_position m) (drop n (points end xs))
  moved-part ys e =
      let f : length (take (n * 3) xs) ≡ n * 3 = length-take-le (n * 3) xs (omega arith) in
      let a : points end ys ≡ points n (take (n * 3) xs) ++ points (end - n) (transformed m (end - n) (drop (n * 3) xs))
      = (let q : end ≡ n + (end - n) = omega arith in ap₂ points q e) ∙ view-both 3 point_of n (end - n) (take (n * 3) xs) (transformed m (end - n) (drop (n * 3) xs)) f in
      let b : points n (take (n * 3) xs) ≡ points n xs = view-take 3 point_of n xs (omega arith) in
      let c = transformed-points m (end - n) (drop (n * 3) xs) in
      let t : take n (points end xs) ≡ points n xs = ap (take n) split ∙ take_at (points n xs) (points (end - n) (drop (n * 3) xs)) n (length-points n xs) in
      let d : drop n (points end xs) ≡ points (end - n) (drop (n * 3) xs) = ap (drop n) split ∙ drop_at (points n xs) (points (end - n) (drop (n * 3) xs)) n (length-points n xs) in
      a ∙ ap₂ (λ (u v : List Vector). u ++ v) b c ∙ sym (ap₂ (λ (u v : List Vector). u ++ map (mul_position m) v) t d)
