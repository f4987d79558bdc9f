-- Rays (ray.rs).
use Rattle.std.specs.Prelude.{Float}
use Rattle.geometry.specs.Vectors.{add_v, mul_scalar}
use Rattle.geometry.specs.declared.vector.Vector.{Vector}
use Rattle.geometry.specs.declared.ray.Ray.{Ray}

abbrev pub ray_of : Vector → Vector → Ray
ray_of o d = record { origin = o; direction = d }

unfoldable pub position : Ray → Float → Vector
position r t = add_v r.origin (mul_scalar r.direction t)
