-- Document 01's limits on several numbers at once: finite, or finite and of magnitude at most 1,000,000.
use Rattle.std.specs.Prelude.{Bool, ◌&&◌, Float}
use Rattle.std.specs.Float.Ieee.Scale.{finite}
use Rattle.floats.specs.Numbers.{within}
use Rattle.geometry.specs.declared.vector.Vector.{Vector}
use Rattle.geometry.specs.declared.ray.Ray.{Ray}
use Rattle.geometry.specs.declared.bounding_box.BBox.{BBox}
use Rattle.matrix.specs.declared.Matrix.{Matrix}

unfoldable pub within_point : Vector → Bool
within_point v = within v.x && (within v.y && within v.z)

unfoldable pub within_box : BBox → Bool
within_box b = within_point b.min && within_point b.max

unfoldable pub within_ray : Ray → Bool
within_ray r = within_point r.origin && within_point r.direction

-- four numbers, as a row of a matrix has them
unfoldable pub within_four : Float → Float → Float → Float → Bool
within_four a b c d = within a && (within b && (within c && within d))

unfoldable pub within_matrix : Matrix → Bool
within_matrix m =
    within_four m.x00 m.x01 m.x02 m.x03
    && (within_four m.x10 m.x11 m.x12 m.x13
    && (within_four m.x20 m.x21 m.x22 m.x23
    && within_four m.x30 m.x31 m.x32 m.x33))

unfoldable pub finite_four : Float → Float → Float → Float → Bool
finite_four a b c d = finite a && (finite b && (finite c && finite d))

unfoldable pub finite_matrix : Matrix → Bool
finite_matrix m =
    finite_four m.x00 m.x01 m.x02 m.x03
    && (finite_four m.x10 m.x11 m.x12 m.x13
    && (finite_four m.x20 m.x21 m.x22 m.x23
    && finite_four m.x30 m.x31 m.x32 m.x33))
