-- What a whole root with a rest is: the contracts of the functions inside. Definitions only.
use Rattle.std.specs.Prelude.{◌≡◌, ℕ, ◌+◌, ◌*◌, ◌≤◌, ℤ, pos, ◌-ℤ◌}
use Rattle.sqrt.specs.Root.{nearest_root}

-- q is the whole part of the root of n, and rest is n less the square of q
pub record FloorRoot (n q rest : ℕ) : Type 0 where
  pub sum : q * q + rest ≡ n
  pub small : rest ≤ 2 * q

-- q is the whole part of the root of n or one less, and rest is n less the square of q
pub record LowRoot (n q rest : ℕ) : Type 0 where
  pub sum : q * q + rest ≡ n
  pub small : rest ≤ 4 * q + 3

-- r is the whole number nearest to the root of n, and rest is n less the square of r
pub record NearestRoot (n r : ℕ) (rest : ℤ) : Type 0 where
  pub root : r ≡ nearest_root n
  pub left : rest ≡ pos n -ℤ pos (r * r)
