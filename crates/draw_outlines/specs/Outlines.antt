-- The outline of a round solid (document 02 (vii)), seen from an eye in its own coordinates: rings, then lines.
use Rattle.std.specs.Prelude.{cond, List, [], ◌∷◌, Float}
use Rattle.std.specs.Float.Ieee.{lt, le}
use Rattle.floats.specs.Arith.{◌⊕◌, ◌⊖◌, ◌⊗◌, ◌⊘◌, zero_f, one_f}
use Rattle.sqrt.specs.Root.{sqrt_of}
use Rattle.geometry.specs.Vectors.{vec, add_v, sub_v, mul_scalar, div_scalar, cross, length_of, min_axis}
use Rattle.geometry.specs.declared.vector.Vector.{Vector}
use Rattle.solids.specs.declared.solid.Solid.{Solid}
use Rattle.solids.specs.declared.solid.Solid.TheVariants.{Sphere, Cylinder, Cone, Cube, Triangle, ClosedCylinder, ClosedCone}
use Rattle.draw_arcs.specs.declared.Frame.{Frame}
use Rattle.draw_arcs.specs.Stances.{Placement}
use Rattle.draw_rings.specs.Spheres.{sphere_ring, sphere_reach}
use Rattle.draw_arcs.specs.Rings.{frame_of, level_at, ring_of}

-- ---- tangents: (a, b) is the eye in the own plane, e = a² + b², c the right side of ax + by = cr, and q the root of e − c²
unfoldable pub eye_square : Vector → Float
eye_square eye = eye.x ⊗ eye.x ⊕ eye.y ⊗ eye.y

unfoldable pub tangent_root : Float → Float → Float
tangent_root e c = sqrt_of (e ⊖ c ⊗ c)

-- (r(ca − qb)/e, r(cb + qa)/e)
unfoldable pub first_tangent : Float → Float → Float → Float → Vector → Float → Vector
first_tangent r c q e eye z = vec (r ⊗ (c ⊗ eye.x ⊖ q ⊗ eye.y) ⊘ e) (r ⊗ (c ⊗ eye.y ⊕ q ⊗ eye.x) ⊘ e) z

-- (r(ca + qb)/e, r(cb − qa)/e)
unfoldable pub second_tangent : Float → Float → Float → Float → Vector → Float → Vector
second_tangent r c q e eye z = vec (r ⊗ (c ⊗ eye.x ⊕ q ⊗ eye.y) ⊘ e) (r ⊗ (c ⊗ eye.y ⊖ q ⊗ eye.x) ⊘ e) z

-- ---- a cylinder: both rings, z0's first; if e > radius² also the upright lines, from z0
unfoldable pub uprights : Float → Float → Vector → Float → Float → List (List Vector)
uprights r e eye z0 z1 =
    let q = tangent_root e r in
    (first_tangent r r q e eye z0 ∷ first_tangent r r q e eye z1 ∷ []) ∷ (second_tangent r r q e eye z0 ∷ second_tangent r r q e eye z1 ∷ []) ∷ []

unfoldable pub cylinder_outline : Placement → Float → Float → Float → List (List Vector)
cylinder_outline t r z0 z1 =
    let e = eye_square t.args.eye in
    ring_of t (level_at z0) r ∷ ring_of t (level_at z1) r ∷ cond (le e (r ⊗ r)) [] (uprights r e t.args.eye z0 z1)

-- ---- a cone: the base ring; if e > c² also the lines to the apex
unfoldable pub cone_side : Float → Float → Vector → Float
cone_side r h eye = r ⊗ (one_f ⊖ eye.z ⊘ h)

unfoldable pub slopes : Float → Float → Float → Vector → Float → List (List Vector)
slopes r c e eye h =
    let q = tangent_root e c in
    (first_tangent r c q e eye zero_f ∷ vec zero_f zero_f h ∷ []) ∷ (second_tangent r c q e eye zero_f ∷ vec zero_f zero_f h ∷ []) ∷ []

unfoldable pub cone_outline : Placement → Float → Float → List (List Vector)
cone_outline t r h =
    let e = eye_square t.args.eye in
    let c = cone_side r h t.args.eye in
    ring_of t (level_at zero_f) r ∷ cond (le e (c ⊗ c)) [] (slopes r c e t.args.eye h)

-- ---- a sphere at distance h > radius: one ring. "Normalised" is over the computed length, whatever that is: where h is infinite the ring is of NaNs.
unfoldable pub unit_of : Vector → Vector
unit_of v = div_scalar v (length_of v)

-- along w, so far from the eye; its axes are u, w cross w's `min_axis` normalised, and w cross u
unfoldable pub facing : Vector → Vector → Float → Frame
facing eye w reach =
    let u = unit_of (cross w (min_axis w)) in
    frame_of (add_v eye (mul_scalar w reach)) u (cross w u)

unfoldable pub sphere_outline : Placement → Vector → Float → List (List Vector)
sphere_outline t center r =
    let d = sub_v center t.args.eye in
    let h = length_of d in
    cond (lt r h) (ring_of t (facing t.args.eye (unit_of d) (sphere_reach r h)) (sphere_ring r h) ∷ []) []

-- ---- the outline of a solid: round ones have one, kinds 8 and 9 those of 2 and 3
unfoldable pub outline_of : Placement → Solid → List (List Vector)
outline_of t (Sphere center radius) = sphere_outline t center radius
outline_of t (Cylinder radius z0 z1) = cylinder_outline t radius z0 z1
outline_of t (Cone radius height) = cone_outline t radius height
outline_of t (Cube min max) = []
outline_of t (Triangle v1 v2 v3) = []
outline_of t (ClosedCylinder radius z0 z1) = cylinder_outline t radius z0 z1
outline_of t (ClosedCone radius height) = cone_outline t radius height
