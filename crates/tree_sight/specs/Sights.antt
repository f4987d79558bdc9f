-- The eye test (`visible` of scene.rs).
use Rattle.std.specs.Prelude.{◌≡◌, cond, Float, Err, Ok, Result}
use Rattle.std.specs.Float.Ieee.{eq, le}
use Rattle.floats.specs.Arith.{zero_f}
use Rattle.geometry.specs.Vectors.{sub_v, div_scalar, distance_of}
use Rattle.geometry.specs.Rays.{ray_of}
use Rattle.geometry.specs.declared.vector.Vector.{Vector}
use Rattle.geometry.specs.declared.ray.Ray.{Ray}
use Rattle.refusals.specs.declared.Refusal.{Refusal}
use Rattle.tree_sight.specs.declared.Sight.{Sight}
use Rattle.tree_sight.specs.declared.Sight.TheVariants.{Visible, Hidden}
use Rattle.tree_walk.specs.declared.Nearest.{Nearest}

-- document 01's ray of the eye test: from the point along eye − point, normalised. Its length is the computed distance.
unfoldable pub eye_ray : Vector → Vector → Ray
eye_ray eye point = ray_of point (div_scalar (sub_v eye point) (distance_of eye point))

-- yes exactly if hit t >= length
unfoldable pub by_distance : Result Nearest Refusal → Float → Result Sight Refusal
by_distance (Ok b) distance = cond (le distance b.hit.t) (Ok Visible) (Ok Hidden)
by_distance (Err n) distance = Err n

-- document 01's visible, where `nearest` gives the nearest hit of a ray: computed length 0 gives yes
unfoldable pub sees : (Ray → Result Nearest Refusal) → Vector → Vector → Result Sight Refusal
sees nearest eye point = cond (eq (distance_of eye point) zero_f) (Ok Visible) (by_distance (nearest (eye_ray eye point)) (distance_of eye point))

-- document 01's answered, of the eye test: it meets no refusal
abbrev pub Answered : Result Sight Refusal → Type 0
Answered s = (n : Refusal) → s ≡ Err n → ⊥
