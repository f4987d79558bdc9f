-- Rust's `min`, `max` and `abs` on f64, and the tests of document 01 on a single number.
use Rattle.std.specs.Prelude.{Bool, true, false, cond, ◌&&◌, ◌||◌, zero, suc, Float}
use Rattle.std.specs.Float.{nan, inf, fin}
use Rattle.std.specs.Float.Ieee.{is_nan, lt, le, neg}
use Rattle.floats.specs.Arith.{zero_f, million}

-- The lesser and the greater; a NaN is passed over. Of two equal values, zeros of either sign among them, the first: document 01 leaves that sign free.
unfoldable pub min_of : Float → Float → Float
min_of x y = cond (is_nan x || lt y x) y x

unfoldable pub max_of : Float → Float → Float
max_of x y = cond (is_nan x || lt x y) y x

-- the magnitude: the sign cleared
unfoldable pub abs_of : Float → Float
abs_of nan = nan
abs_of (inf s) = inf false
abs_of (fin s zero e) = zero_f
abs_of (fin s (suc m) e) = fin false (suc m) e

-- not a NaN
abbrev pub number : Float → Bool
number nan = false
number (inf s) = true
number (fin s m e) = true

-- finite and of magnitude at most 1,000,000, as numbers 5 and 7 to 9 of document 01 ask: a NaN is not
unfoldable pub within : Float → Bool
within x = le (neg million) x && le x million
