-- What "the f64 nearest the exact root" says, from whole numbers alone, by comparing squares. A finite f64 is the fraction num / den, with its sign beside it.
use Rattle.std.specs.Prelude.{ℕ, ◌+◌, ◌-◌, ◌*◌, ◌<◌, cond, T, Float}
use Rattle.std.specs.Float.{binary64}
use Rattle.std.specs.Float.Ieee.{lt, le, fits}
use Rattle.std.specs.Float.Ieee.Scale.{finite}
use Rattle.std.specs.Float.Ieee.Positive.{num, den}
use Rattle.floats.specs.Arith.{zero_f}

abbrev pub square : ℕ → ℕ
square n = n * n

-- y + r as a fraction, for an r from zero on; 0 where the sum is below zero
abbrev pub sum_num : Float → Float → ℕ
sum_num y r = cond (lt y zero_f) (num r * den y - num y * den r) (num r * den y + num y * den r)

abbrev pub sum_den : Float → Float → ℕ
sum_den y r = den y * den r

-- r is strictly nearer to the root of x than y is: the root lies on r's side of their mean, which is sum_num y r / (2 * sum_den y r). The mean's square is
-- compared with x, the denominators multiplied out. Where neither y < r nor r < y, the two are the same number.
pub record Nearer (x y r : Float) : Type 0 where
  pub below : T (lt y r) → square (sum_num y r) * den x < 4 * num x * square (sum_den y r)
  pub above : T (lt r y) → 4 * num x * square (sum_den y r) < square (sum_num y r) * den x

-- r is the finite f64 nearest to the root of x, and no other is as near, below zero or above
pub record NearestOfAll (x r : Float) : Type 0 where
  pub held : T (fits binary64 r)
  pub bounded : T (finite r)
  pub nonneg : T (le zero_f r)
  pub nearer : (y : Float) → T (fits binary64 y) → T (finite y) → Nearer x y r
