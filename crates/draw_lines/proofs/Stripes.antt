-- The stripes of a cube that are left. Assumes nothing.
use mathlib.Core.Path.{◌≡◌}
use mathlib.Core.List.{List, ◌++◌, append-nil}
use Prim.Native.Nat.{ℕ, suc, ◌+◌, ◌-◌, ◌≤◌, ◌<◌}
use native.Mathlib.Nat.{sub-zero}
use native.Mathlib.Numerals.{add-one}
use native.Mathlib.Omega.{arith}
use Rattle.geometry.specs.declared.vector.Vector.{Vector}
use Rattle.draw_lines.specs.Cubes.{stripe, stripes_from, paths_striped}

module _ (a b : Vector) (stripes : ℕ) where
  -- those from i on, up to the last
  abbrev pub stripes_left : ℕ → List (List Vector)
  stripes_left i = stripes_from a b stripes (suc stripes - i) i

  pub stripes-start : stripes_left 0 ≡ paths_striped a b stripes
  unfolding paths_striped
  stripes-start = rw sub-zero

  pub stripes-turn : (i : ℕ) → i < stripes → stripes_left i ≡ stripe a b stripes i ++ stripes_left (i + 1)
  unfolding stripes_from
  stripes-turn i h =
      let e : suc stripes - i ≡ suc (suc stripes - (i + 1)) = omega arith in
      rw (e, add-one)

  pub stripes-last : (i : ℕ) → stripes ≤ i → i ≤ stripes → stripes_left i ≡ stripe a b stripes stripes
  unfolding stripes_from
  stripes-last i h g =
      let e : i ≡ stripes = omega arith in
      let k : suc stripes - stripes ≡ 1 = omega arith in
      rw (e, k) (append-nil (stripe a b stripes stripes))
