-- Cylinders (cylinder.rs), by radius and the z of both ends: the Rust's formulas, in its order of operations.
use Rattle.std.specs.Prelude.{Bool, false, cond, ◌&&◌, Float}
use Rattle.std.specs.Float.Ieee.{lt, le, neg}
use Rattle.floats.specs.Arith.{◌⊕◌, ◌⊖◌, ◌⊗◌, zero_f, two_f, four_f, millionth}
use Rattle.geometry.specs.Vectors.{vec, length_of}
use Rattle.geometry.specs.Hits.{no_hit}
use Rattle.geometry.specs.Boxes.{box_of}
use Rattle.geometry.specs.declared.vector.Vector.{Vector}
use Rattle.geometry.specs.declared.ray.Ray.{Ray}
use Rattle.geometry.specs.declared.hit.Hit.{Hit}
use Rattle.geometry.specs.declared.bounding_box.BBox.{BBox}
use Rattle.solids.specs.Roots.{first_hit, roots_of}

unfoldable pub cylinder_box : Float → Float → Float → BBox
cylinder_box radius z0 z1 = box_of (vec (neg radius) (neg radius) z0) (vec radius radius z1)

unfoldable pub cylinder_contains : Float → Float → Float → Vector → Float → Bool
cylinder_contains radius z0 z1 v f =
    cond (lt (radius ⊕ f) (length_of (vec v.x v.y zero_f))) false
    (le (z0 ⊖ f) v.z && le v.z (z1 ⊕ f))

-- the root t is beyond 1e-6, and z, the ray's z there, strictly between the ends
unfoldable pub on_tube : Float → Float → Float → Float → Bool
on_tube z0 z1 t z = lt millionth t && (lt z0 z && lt z z1)

-- the first root on the tube: document 01's tube, which has no ends
unfoldable pub cylinder_hit : Float → Float → Float → Ray → Hit
cylinder_hit radius z0 z1 ray =
    let o = ray.origin in
    let d = ray.direction in
    let a = d.x ⊗ d.x ⊕ d.y ⊗ d.y in
    let b = two_f ⊗ o.x ⊗ d.x ⊕ two_f ⊗ o.y ⊗ d.y in
    let c = o.x ⊗ o.x ⊕ o.y ⊗ o.y ⊖ radius ⊗ radius in
    let q = b ⊗ b ⊖ four_f ⊗ a ⊗ c in
    let t = roots_of a b q in
    let near = on_tube z0 z1 t.tmin (o.z ⊕ t.tmin ⊗ d.z) in
    let far = on_tube z0 z1 t.tmax (o.z ⊕ t.tmax ⊗ d.z) in
    cond (lt q zero_f) no_hit (first_hit t near far)
