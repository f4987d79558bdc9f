-- What the solid at an entry answers by itself, with no tree and no other solid.
use Rattle.std.specs.Prelude.{ℕ, Bool, cond, Float, Err, Ok, Result}
use Rattle.geometry.specs.declared.vector.Vector.{Vector}
use Rattle.geometry.specs.declared.ray.Ray.{Ray}
use Rattle.refusals.specs.declared.Refusal.TheVariants.{View}
use Rattle.limits.specs.Limits.{within_ray}
use Rattle.scene_shape.specs.Shapes.{solid_of, shape_hit, shape_contains}
use Rattle.check_scene.specs.Checks.{check_of, struck_after}
use Rattle.scene.specs.Scenes.{Scene}
use Rattle.geometry.specs.declared.hit.Hit.{Hit}
use Rattle.refusals.specs.declared.Refusal.{Refusal}

-- numbers 2 to 8 and 14, then document 01's own returned distance of the solid at entry i: the t that its hit gives this ray, a miss's included; 11 where it has none
unfoldable pub own_hit : Scene → ℕ → Ray → Result Hit Refusal
own_hit s i r = struck_after (check_of s) (cond (within_ray r) (shape_hit (solid_of s.numbers s.marks i) r) (Err View))

unfoldable pub contained_after : Result ℕ Refusal → Bool → Result Bool Refusal
contained_after (Ok n) b = Ok b
contained_after (Err k) b = Err k

-- numbers 2 to 7 and 14, then whether the solid at entry i, widened by f, contains p
unfoldable pub own_contains : Scene → ℕ → Vector → Float → Result Bool Refusal
own_contains s i p f = contained_after (check_of s) (shape_contains (solid_of s.numbers s.marks i) p f)
