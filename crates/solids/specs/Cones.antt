-- Cones (cone.rs), by radius and height: the Rust's formulas, in its order of operations.
use Rattle.std.specs.Prelude.{Bool, cond, ◌&&◌, Float}
use Rattle.std.specs.Float.Ieee.{lt, le, neg}
use Rattle.floats.specs.Arith.{◌⊕◌, ◌⊖◌, ◌⊗◌, ◌⊘◌, zero_f, two_f, four_f, millionth}
use Rattle.geometry.specs.Vectors.{vec}
use Rattle.geometry.specs.Rays.{position}
use Rattle.geometry.specs.Hits.{no_hit}
use Rattle.geometry.specs.Boxes.{box_of}
use Rattle.geometry.specs.declared.ray.Ray.{Ray}
use Rattle.geometry.specs.declared.hit.Hit.{Hit}
use Rattle.geometry.specs.declared.bounding_box.BBox.{BBox}
use Rattle.solids.specs.Roots.{first_hit, roots_of}

unfoldable pub cone_box : Float → Float → BBox
cone_box radius height = box_of (vec (neg radius) (neg radius) zero_f) (vec radius radius height)

-- the root t is beyond 1e-6, and the ray is there strictly between base and tip
unfoldable pub on_cone : Float → Ray → Float → Bool
on_cone height ray t =
    let p = position ray t in
    lt millionth t && (lt zero_f p.z && lt p.z height)

-- the first root on the cone: document 01's cone, which has no base
unfoldable pub cone_hit : Float → Float → Ray → Hit
cone_hit radius height ray =
    let o = ray.origin in
    let d = ray.direction in
    let slope = radius ⊘ height in
    let k = slope ⊗ slope in
    let a = d.x ⊗ d.x ⊕ d.y ⊗ d.y ⊖ k ⊗ d.z ⊗ d.z in
    let b = two_f ⊗ (d.x ⊗ o.x ⊕ d.y ⊗ o.y ⊖ k ⊗ d.z ⊗ (o.z ⊖ height)) in
    let c = o.x ⊗ o.x ⊕ o.y ⊗ o.y ⊖ k ⊗ (o.z ⊖ height) ⊗ (o.z ⊖ height) in
    let q = b ⊗ b ⊖ four_f ⊗ a ⊗ c in
    let t = roots_of a b q in
    cond (le q zero_f) no_hit (first_hit t (on_cone height ray t.tmin) (on_cone height ray t.tmax))
