-- Cosine and sine of whole degrees, read from the constant table: as whole numbers in units of 2^-53, and as f64s. Places are counted round: a and a + 360 have the same entry.
use Rattle.std.specs.Prelude.{List, map, ℕ, ◌+◌, ◌*◌, ◌%◌, ℤ, pos, Float, get_or}
use Rattle.std.specs.Float.{binary64}
use Rattle.std.specs.Float.Ieee.{of_int}
use Rattle.floats.specs.Arith.{◌⊗◌, bits}
use Rattle.degrees.specs.Table.{degree_table}

unfoldable pub cosine_units : ℕ → ℤ
cosine_units a = get_or degree_table (2 * (a % 360)) (pos 0)

unfoldable pub sine_units : ℕ → ℤ
sine_units a = get_or degree_table (2 * (a % 360) + 1) (pos 0)

-- so many units of 2^-53 as an f64: times 2^-53
unfoldable pub from_units : ℤ → Float
from_units z = of_int binary64 z ⊗ bits 0x3ca0_0000_0000_0000

abbrev pub cosine_of : ℕ → Float
cosine_of a = from_units (cosine_units a)

abbrev pub sine_of : ℕ → Float
sine_of a = from_units (sine_units a)

-- all of them, in the table's order
unfoldable pub float_table : List Float
float_table = map from_units degree_table
