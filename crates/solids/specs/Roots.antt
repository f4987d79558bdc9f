-- The roots of a quadratic, as cylinder.rs and cone.rs compute them.
use Rattle.std.specs.Prelude.{Bool, cond, Float}
use Rattle.std.specs.Float.Ieee.{neg}
use Rattle.floats.specs.Arith.{◌⊕◌, ◌⊖◌, ◌⊗◌, ◌⊘◌, two_f}
use Rattle.sqrt.specs.Root.{sqrt_of}
use Rattle.geometry.specs.Hits.{hit_at, no_hit}
use Rattle.geometry.specs.Boxes.{ordered}
use Rattle.geometry.specs.declared.bounding_box.Span.{Span}
use Rattle.geometry.specs.declared.hit.Hit.{Hit}

-- of a t² + b t + c with the discriminant q, swapped where the first exceeds the second, which is never at a NaN
unfoldable pub roots_of : Float → Float → Float → Span
roots_of a b q = ordered ((neg b ⊕ sqrt_of q) ⊘ (two_f ⊗ a)) ((neg b ⊖ sqrt_of q) ⊘ (two_f ⊗ a))

-- the first of two roots that is on the solid, as near and far say of each
unfoldable pub first_hit : Span → Bool → Bool → Hit
first_hit t near far = cond near (hit_at t.tmin) (cond far (hit_at t.tmax) no_hit)
