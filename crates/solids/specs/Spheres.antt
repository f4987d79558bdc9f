-- Spheres (sphere.rs), by centre and radius: the Rust's formulas, in its order of operations.
use Rattle.std.specs.Prelude.{Bool, cond, Float}
use Rattle.std.specs.Float.Ieee.{lt, le, neg}
use Rattle.floats.specs.Arith.{◌⊕◌, ◌⊖◌, ◌⊗◌, zero_f, hundredth}
use Rattle.sqrt.specs.Root.{sqrt_of}
use Rattle.geometry.specs.Vectors.{sub_v, add_scalar, sub_scalar, dot, length_of}
use Rattle.geometry.specs.Hits.{hit_at, no_hit}
use Rattle.geometry.specs.Boxes.{box_of}
use Rattle.geometry.specs.declared.vector.Vector.{Vector}
use Rattle.geometry.specs.declared.ray.Ray.{Ray}
use Rattle.geometry.specs.declared.hit.Hit.{Hit}
use Rattle.geometry.specs.declared.bounding_box.BBox.{BBox}

unfoldable pub sphere_box : Vector → Float → BBox
sphere_box center radius = box_of (sub_scalar center radius) (add_scalar center radius)

unfoldable pub sphere_contains : Vector → Float → Vector → Float → Bool
sphere_contains center radius v f = le (length_of (sub_v v center)) (radius ⊕ f)

-- the nearer root where it is above 1e-2, else the farther; none where the ray only touches
unfoldable pub sphere_hit : Vector → Float → Ray → Hit
sphere_hit center radius r =
    let to = sub_v r.origin center in
    let b = dot to r.direction in
    let c = dot to to ⊖ radius ⊗ radius in
    let d = b ⊗ b ⊖ c in
    let t1 = neg b ⊖ sqrt_of d in
    let t2 = neg b ⊕ sqrt_of d in
    cond (lt zero_f d) (cond (lt hundredth t1) (hit_at t1) (cond (lt hundredth t2) (hit_at t2) no_hit)) no_hit
