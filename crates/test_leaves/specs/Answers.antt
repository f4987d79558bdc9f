-- What the calls on a solid answer: 0, or document 01's number 3 where the kind is none of 1 to 5, 8 and 9, and then +0 and false.
use Rattle.std.specs.Prelude.{Bool, false, ℕ, Float, None, Option, Some}
use Rattle.floats.specs.Arith.{zero_f}
use Rattle.geometry.specs.Vectors.{vec}
use Rattle.geometry.specs.Boxes.{box_of}
use Rattle.geometry.specs.declared.vector.Vector.{Vector}
use Rattle.geometry.specs.declared.ray.Ray.{Ray}
use Rattle.geometry.specs.declared.hit.Hit.{Hit}
use Rattle.geometry.specs.declared.bounding_box.BBox.{BBox}
use Rattle.solids.specs.Solids.{hit_of, solid_box, contains_of}
use Rattle.solids.specs.declared.solid.Solid.{Solid}

unfoldable pub simple_answer : Option Solid → ℕ
simple_answer (Some x) = 0
simple_answer None = 3

unfoldable pub told_hit : Option Solid → Ray → Hit
told_hit (Some x) r = hit_of x r
told_hit None r = record { t = zero_f; ok = false }

unfoldable pub simple_box : Option Solid → BBox
simple_box (Some x) = solid_box x
simple_box None = box_of (vec zero_f zero_f zero_f) (vec zero_f zero_f zero_f)

unfoldable pub told_contains : Option Solid → Vector → Float → Bool
told_contains (Some x) p f = contains_of x p f
told_contains None p f = false
