-- Document 02's promise on rings (request (vii)), of the paths that an outline has and that step 1 of a draw adds: "For a ring radius of at least 0.001,
-- each ring point's exact squared distance from the centre, worked out in the ring's own plane, is within radius² × 2^-48 of radius²".
-- Proved: proofs/Lost.antt, proofs/Rings.antt, proofs/Scenes.antt.
use Rattle.std.specs.Prelude.{◌≡◌, false, cond, ℕ, ◌<◌, T, Float, Ok, Some}
use mathlib.Core.List.{List, [], ◌∷◌, ◌++◌, map, Memᴰ}
use Rattle.std.specs.Float.Ieee.{lt, le}
use Rattle.std.specs.Float.Ieee.Scale.{finite}
use Rattle.floats.specs.Arith.{◌⊕◌, ◌⊖◌, ◌⊗◌, ◌⊘◌, zero_f, one_f, thousandth}
use Rattle.sqrt.specs.Root.{sqrt_of}
use Rattle.geometry.specs.Vectors.{vec, add_v, sub_v, mul_scalar, div_scalar, cross, length_of, min_axis}
use Rattle.geometry.specs.Boxes.{clip_box, contains}
use Rattle.geometry.specs.declared.vector.Vector.{Vector}
use Rattle.matrix.specs.Matrices.{mul_position, mul_position_w}
use Rattle.matrix.specs.declared.Matrix.{Matrix}
use Rattle.limits.specs.Limits.{within_point}
use Rattle.paths.specs.Paths.{Paths}
use Rattle.solids.specs.declared.solid.Solid.{Solid}
use Rattle.solids.specs.declared.solid.Solid.TheVariants.{Sphere, Cylinder, Cone, Cube, Triangle, ClosedCylinder, ClosedCone}
use Rattle.scene.specs.Entries.{own_entry}
use Rattle.scene.specs.Scenes.{Scene, entries_of}
use Rattle.scene.specs.declared.entry.Entry.TheVariants.{Simple}
use Rattle.check_scene.specs.Checks.{check_of}
use Rattle.draw_rings.specs.Pieces.{east, north, west, south, AllOn}
use Rattle.draw_arcs.specs.declared.Frame.{Frame}
use Rattle.draw_arcs.specs.Stances.{Placement}
use Rattle.draw_arcs.specs.Rings.{frame_of, level_at, ring_point}
use Rattle.draw_lines.specs.Pushing.{add_paths}
use Rattle.draw_collect.specs.Lined.{lined}
use Rattle.draw_collect.specs.Collect.{LineRoom, collected}
use Rattle.draw_outlines.specs.Outlines.{outline_of}

-- ---- what an outline has, seen from an eye in the solid's own coordinates
-- a ring: its centre and axes, and its radius
pub record Circle : Type 0 where
  pub frame : Frame
  pub radius : Float

abbrev pub level_ring : Float → Float → Circle
level_ring r z = record { frame = level_at z; radius = r }

-- the rings, z0's first; a sphere has one only at a distance h > radius, of radius r × root(h² − r²) / h at (h² − r²) / h from the eye along w, the unit
-- vector to its centre, with the axes w cross w's `min_axis`, normalised, and w cross the first
unfoldable pub rings_seen : Vector → Solid → List Circle
rings_seen eye (Sphere center radius) =
    let d = sub_v center eye in
    let h = length_of d in
    let k = h ⊗ h ⊖ radius ⊗ radius in
    let w = div_scalar d h in
    let u = div_scalar (cross w (min_axis w)) (length_of (cross w (min_axis w))) in
    cond (lt radius h) (record { frame = frame_of (add_v eye (mul_scalar w (k ⊘ h))) u (cross w u); radius = radius ⊗ sqrt_of k ⊘ h } ∷ []) []
rings_seen eye (Cylinder radius z0 z1) = level_ring radius z0 ∷ level_ring radius z1 ∷ []
rings_seen eye (Cone radius height) = level_ring radius zero_f ∷ []
rings_seen eye (Cube min max) = []
rings_seen eye (Triangle v1 v2 v3) = []
rings_seen eye (ClosedCylinder radius z0 z1) = level_ring radius z0 ∷ level_ring radius z1 ∷ []
rings_seen eye (ClosedCone radius height) = level_ring radius zero_f ∷ []

-- the lines at the tangent points of an eye (a, b) in the own plane, of the tangent condition ax + by = cr: "(r(ca − qb)/e, r(cb + qa)/e) and
-- (r(ca + qb)/e, r(cb − qa)/e)", where q is the root of e − c²; from height z to where `end` says, and none where e <= c²
unfoldable pub tangent_lines : Float → Float → Vector → Float → (Vector → Vector) → List (List Vector)
tangent_lines r c eye z end =
    let a = eye.x in
    let b = eye.y in
    let e = a ⊗ a ⊕ b ⊗ b in
    let q = sqrt_of (e ⊖ c ⊗ c) in
    let first = vec (r ⊗ (c ⊗ a ⊖ q ⊗ b) ⊘ e) (r ⊗ (c ⊗ b ⊕ q ⊗ a) ⊘ e) z in
    let second = vec (r ⊗ (c ⊗ a ⊕ q ⊗ b) ⊘ e) (r ⊗ (c ⊗ b ⊖ q ⊗ a) ⊘ e) z in
    cond (le e (c ⊗ c)) [] ((first ∷ end first ∷ []) ∷ (second ∷ end second ∷ []) ∷ [])

-- upright from z0 of a cylinder, where c is r; to the apex of a cone, where c = r(1 − eye z / height)
abbrev pub upright_lines : Vector → Float → Float → Float → List (List Vector)
upright_lines eye r z0 z1 = tangent_lines r r eye z0 (λ (p : Vector). vec p.x p.y z1)

abbrev pub apex_lines : Vector → Float → Float → List (List Vector)
apex_lines eye r height = tangent_lines r (r ⊗ (one_f ⊖ eye.z ⊘ height)) eye zero_f (λ (p : Vector). vec zero_f zero_f height)

unfoldable pub lines_seen : Vector → Solid → List (List Vector)
lines_seen eye (Sphere center radius) = []
lines_seen eye (Cylinder radius z0 z1) = upright_lines eye radius z0 z1
lines_seen eye (Cone radius height) = apex_lines eye radius height
lines_seen eye (Cube min max) = []
lines_seen eye (Triangle v1 v2 v3) = []
lines_seen eye (ClosedCylinder radius z0 z1) = upright_lines eye radius z0 z1
lines_seen eye (ClosedCone radius height) = apex_lines eye radius height

-- ---- the path of a ring
-- vectors (u, v) from (radius, 0) through the ends of the four quarters, and back
pub record Around (r : Float) (pairs : List Vector) : Type 0 where
  pub first : List Vector
  pub second : List Vector
  pub third : List Vector
  pub fourth : List Vector
  pub is : pairs ≡ east r ∷ (first ++ (north r ∷ (second ++ (west r ∷ (third ++ (south r ∷ (fourth ++ (east r ∷ []))))))))

-- a point without a finite coordinate
pub record Nowhere (p : Vector) : Type 0 where
  pub x_not : T (finite p.x) → ⊥
  pub y_not : T (finite p.y) → ⊥
  pub z_not : T (finite p.z) → ⊥

-- no sheet has it: placed anywhere it is such a point again; handed to a chop it meets 9; and no screen matrix shows it in the clip box
pub record OnNoSheet (p : Vector) : Type 0 where
  pub placed : (m : Matrix) → Nowhere (mul_position m p)
  pub meets_nine : within_point p ≡ false
  pub clipped : (m : Matrix) → contains clip_box (mul_position_w m p) ≡ false

abbrev pub NowhereOnSheets : Type 0
NowhereOnSheets = (p : Vector) → Nowhere p → OnNoSheet p

-- The points are centre + u × first axis + v × second, for vectors (u, v) of the ring's own plane. With a radius from 0.001 on each of these lies on the
-- ring. Where the radius is not finite, as a sphere's may be whose eye was taken back very far, no point of the path has a finite coordinate.
pub record RingPath (c : Circle) (l : List Vector) : Type 0 where
  pub pairs : List Vector
  pub is : l ≡ map (ring_point c.frame) pairs
  pub around : Around c.radius pairs
  pub on : T (le thousandth c.radius) → T (finite c.radius) → AllOn c.radius pairs
  pub else_nowhere : (T (finite c.radius) → ⊥) → (p : Vector) → Memᴰ p l → Nowhere p

-- one path for each ring, in order
pub data RingPaths : List Circle → List (List Vector) → Type 0 where
  none : RingPaths [] []
  more : {c : Circle} {cs : List Circle} {l : List Vector} {ls : List (List Vector)} → RingPath c l → RingPaths cs ls → RingPaths (c ∷ cs) (l ∷ ls)

-- ---- the outline: rings precede lines
-- `added`: of a solid with neither handed-in lines nor stripes step 1 of a draw adds these paths and no other
pub record RoundOutline (t : Placement) (s : Solid) : Type 0 where
  pub rings : List (List Vector)
  pub ring_paths : RingPaths (rings_seen t.args.eye s) rings
  pub are : outline_of t s ≡ rings ++ lines_seen t.args.eye s
  pub added : (w : LineRoom) (p : Paths) → collected t w (lined s []) p ≡ add_paths w.points w.starts (rings ++ lines_seen t.args.eye s) p

-- Of a scene that the check accepts, each solid's outline, wherever it stands: number 5 bounds the radius.
abbrev pub AcceptedRound : Type 0
AcceptedRound =
    (s : Scene) (d : ℕ) → check_of s ≡ Ok d → (i : ℕ) → i < entries_of s → (x : Solid) → own_entry s.numbers s.marks i ≡ Some (Simple x)
    → (t : Placement) → RoundOutline t x
