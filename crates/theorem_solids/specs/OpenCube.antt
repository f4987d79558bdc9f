-- Document 01's worked cut, and the same with the true distance (document 02, vi).
use Rattle.std.specs.Prelude.{◌≡◌, Ok}
use Rattle.floats.specs.Arith.{bits, zero_f, half_f, one_f, two_f}
use Rattle.geometry.specs.Vectors.{vec}
use Rattle.geometry.specs.Rays.{ray_of}
use Rattle.geometry.specs.Hits.{hit_at}
use Rattle.geometry.specs.Boxes.{minus_one}
use Rattle.geometry.specs.declared.ray.Ray.{Ray}
use Rattle.solids.specs.declared.solid.Solid.TheVariants.{Cube}
use Rattle.scene.specs.declared.entry.Op.{Op}
use Rattle.scene.specs.declared.entry.Op.TheVariants.{Difference, TrueDifference}
use Rattle.scene_shape.specs.Shapes.{Shape, simple, cut, shape_hit}

-- the cube from −1 to 1 less the box (−0.5, −0.5, 0) to (0.5, 0.5, 2)
abbrev open_cube : Op → Shape
open_cube o =
    cut o (simple (Cube (vec minus_one minus_one minus_one) (vec one_f one_f one_f)))
    (simple (Cube (vec (bits 0xbfe0_0000_0000_0000) (bits 0xbfe0_0000_0000_0000) zero_f) (vec half_f half_f two_f)))

-- the ray down from (0, 0, 5)
abbrev from_above : Ray
from_above = ray_of (vec zero_f zero_f (bits 0x4014_0000_0000_0000)) (vec zero_f zero_f minus_one)

-- The surface is 5 away. Operation 1 answers the t of the last ray, 0.99 after two restarts, and operation 3 the distance: 5.
pub record WorkedCuts : Type 0 where
  pub last : shape_hit (open_cube Difference) from_above ≡ Ok (hit_at (bits 0x3fef_ae14_7ae1_47ae))
  pub whole : shape_hit (open_cube TrueDifference) from_above ≡ Ok (hit_at (bits 0x4014_0000_0000_0000))
