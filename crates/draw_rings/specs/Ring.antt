-- When a point of a ring's own plane lies on the ring.
use Rattle.std.specs.Prelude.{ℕ, ◌+◌, ◌*◌, ◌^◌, ◌≤◌, T, Float}
use Rattle.std.specs.Float.Ieee.Scale.{finite}
use Rattle.std.specs.Float.Ieee.Positive.{num, den}
use Rattle.sqrt.specs.Nearest.{square}

-- The exact u² + v² and r², as fractions with the same denominator: a finite f64 is num / den in size.
abbrev pub distance_num : Float → Float → Float → ℕ
distance_num r u v = (square (num u * den v) + square (num v * den u)) * square (den r)

abbrev pub radius_num : Float → Float → Float → ℕ
radius_num r u v = square (num r) * square (den u * den v)

-- u² + v² is within r² * 2 ^ -48 of r², all three finite
pub record OnRing (r u v : Float) : Type 0 where
  pub r_finite : T (finite r)
  pub u_finite : T (finite u)
  pub v_finite : T (finite v)
  pub inside : distance_num r u v * 2 ^ 48 ≤ radius_num r u v * (2 ^ 48 + 1)
  pub outside : radius_num r u v * 2 ^ 48 ≤ distance_num r u v * 2 ^ 48 + radius_num r u v
