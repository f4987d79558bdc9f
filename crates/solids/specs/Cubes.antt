-- Cubes (cube.rs), by least and greatest corner: the Rust's formulas, in its order of operations.
use Rattle.std.specs.Prelude.{Bool, true, false, cond, ◌&&◌, ◌||◌, Float}
use Rattle.std.specs.Float.Ieee.{lt, le}
use Rattle.floats.specs.Arith.{◌⊕◌, ◌⊖◌, thousandth}
use Rattle.geometry.specs.Vectors.{sub_v, div_v, min_v, max_v, min_component, max_component}
use Rattle.geometry.specs.Hits.{hit_at, no_hit}
use Rattle.geometry.specs.declared.vector.Vector.{Vector}
use Rattle.geometry.specs.declared.ray.Ray.{Ray}
use Rattle.geometry.specs.declared.hit.Hit.{Hit}

-- x is farther than f from the room between low and high, which a NaN never is
unfoldable pub outside : Float → Float → Float → Float → Bool
outside low high x f = lt x (low ⊖ f) || lt (high ⊕ f) x

unfoldable pub cube_contains : Vector → Vector → Vector → Float → Bool
cube_contains min max v f =
    cond (outside min.x max.x v.x f) false
    (cond (outside min.y max.y v.y f) false
    (cond (outside min.z max.z v.z f) false true))

-- entered at t0 and left at t1, by `min` and `max`, which pass over a NaN: left at t1 where the ray starts inside, else entered at t0
unfoldable pub cube_hit : Vector → Vector → Ray → Hit
cube_hit min max r =
    let n = div_v (sub_v min r.origin) r.direction in
    let f = div_v (sub_v max r.origin) r.direction in
    let t0 = max_component (min_v n f) in
    let t1 = min_component (max_v n f) in
    cond (lt t0 thousandth && lt thousandth t1) (hit_at t1)
    (cond (le thousandth t0 && lt t0 t1) (hit_at t0) no_hit)
