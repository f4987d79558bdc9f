-- Triangles (triangle.rs), by their corners.
use Rattle.std.specs.Prelude.{not, cond, ◌&&◌, ◌||◌}
use Rattle.std.specs.Float.Ieee.{lt, le, neg}
use Rattle.floats.specs.Arith.{◌⊕◌, ◌⊗◌, ◌⊘◌, zero_f, one_f, EPS}
use Rattle.geometry.specs.Vectors.{sub_v, dot, cross, min_v, max_v}
use Rattle.geometry.specs.Hits.{hit_at, no_hit}
use Rattle.geometry.specs.Boxes.{box_of}
use Rattle.geometry.specs.declared.vector.Vector.{Vector}
use Rattle.geometry.specs.declared.ray.Ray.{Ray}
use Rattle.geometry.specs.declared.hit.Hit.{Hit}
use Rattle.geometry.specs.declared.bounding_box.BBox.{BBox}

unfoldable pub triangle_box : Vector → Vector → Vector → BBox
triangle_box v1 v2 v3 = box_of (min_v (min_v v1 v2) v3) (max_v (max_v v1 v2) v3)

-- Document 01's triangle: Möller–Trumbore with an EPS band. Of origin + d direction = v1 + u e1 + v e2, where e1 and e2 are the edges from v1,
-- Cramer's rule gives u, v and d, each over det = e1 · (direction × e2). A miss where det lies in the band about 0, where the point is
-- beyond an edge, and where d is below EPS. The Rust writes these products out, in the order that dot and cross have.
unfoldable pub triangle_hit : Vector → Vector → Vector → Ray → Hit
triangle_hit v1 v2 v3 r =
    let e1 = sub_v v2 v1 in
    let e2 = sub_v v3 v1 in
    let p = cross r.direction e2 in
    let det = dot e1 p in
    let inv = one_f ⊘ det in
    let t = sub_v r.origin v1 in
    let u = dot t p ⊗ inv in
    let q = cross t e1 in
    let v = dot r.direction q ⊗ inv in
    let d = dot e2 q ⊗ inv in
    cond (lt (neg EPS) det && lt det EPS) no_hit
    (cond (not (le zero_f u && le u one_f)) no_hit
    (cond (lt v zero_f || lt one_f (u ⊕ v)) no_hit
    (cond (lt d EPS) no_hit (hit_at d))))
