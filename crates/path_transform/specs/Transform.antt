-- Points moved by a matrix, in place (`transform` of path.rs).
use Rattle.std.specs.Prelude.{List, map, ◌++◌, ℕ, ◌*◌, drop, Float}
use Rattle.matrix.specs.Matrices.{mul_position}
use Rattle.matrix.specs.declared.Matrix.{Matrix}
use Rattle.rows.specs.Rows.{flat}
use Rattle.rows.specs.Points.{points, point_row}

-- the first n points of a slice moved; what is after them stays
unfoldable pub transformed : Matrix → ℕ → List Float → List Float
transformed m n xs = flat point_row (map (mul_position m) (points n xs)) ++ drop (n * 3) xs
