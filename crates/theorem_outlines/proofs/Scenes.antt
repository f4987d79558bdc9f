-- The outlines of an accepted scene keep the promise. Assumes nothing.
use mathlib.Core.Path.{◌≡◌, refl, sym, ap, subst}
use mathlib.Core.Bool.{Bool, true, false, cond, ◌&&◌, and-eq-true_iff}
use mathlib.Core.List.{List, [], ◌∷◌, ◌++◌}
use lib.Dec.{T}
use lib.Ieee.{Float, lt}
use Rattle.floats.specs.Arith.{zero_f}
use Rattle.geometry.specs.Vectors.{sub_v, length_of}
use Rattle.geometry.specs.declared.vector.Vector.{Vector}
use Rattle.solids.specs.declared.solid.Solid.{Solid}
use Rattle.solids.specs.declared.solid.Solid.TheVariants.{Sphere, Cylinder, Cone, Cube, Triangle, ClosedCylinder, ClosedCone}
use Rattle.limits.specs.Limits.{within_point}
use Rattle.check_measures.specs.Measures.{is_radius, cylinder_measured, cone_measured, solid_measured}
use Rattle.check_sound.proofs.Passing.{accepted-passes}
use Rattle.check_sound.proofs.Fair.{Measured, radius-of}
use Rattle.check_sound.proofs.InOrder.{own-measured}
use Rattle.draw_rings.specs.Spheres.{sphere_ring, sphere_reach}
use Rattle.draw_rings.proofs.Spheres.{sphere-ring}
use Rattle.draw_arcs.specs.Stances.{Placement}
use Rattle.draw_arcs.specs.Rings.{level_at, ring_of}
use Rattle.paths.specs.Paths.{Paths}
use Rattle.draw_lines.specs.Pushing.{add_paths}
use Rattle.draw_shown.specs.Shown.{or_outline}
use Rattle.draw_collect.specs.Lined.{lined}
use Rattle.draw_collect.specs.Collect.{LineRoom, collected}
use Rattle.draw_outlines.specs.Outlines.{eye_square, tangent_root, first_tangent, second_tangent, uprights, cylinder_outline, cone_side, slopes, cone_outline, unit_of, facing, sphere_outline, outline_of}
use Rattle.theorem_outlines.specs.Rings.{Circle, level_ring, rings_seen, tangent_lines, upright_lines, apex_lines, lines_seen, RingPath, RingPaths, none, more, RoundOutline, AcceptedRound}
use Rattle.theorem_outlines.proofs.Rings.{ring-path, level-narrow}

both : (a : Bool) {b : Bool} → (a && b) ≡ true → (a ≡ true) × (b ≡ true)
both a {b} e = (and-eq-true_iff a b).0 e

module _ (t : Placement) where
  eye : Vector
  eye = t.args.eye

  added-so : (s : Solid) (ls : List (List Vector)) → outline_of t s ≡ ls → (w : LineRoom) (p : Paths) → collected t w (lined s []) p ≡ add_paths w.points w.starts ls p
  unfolding collected or_outline
  added-so s ls e w p = ap (λ (ps : List (List Vector)). add_paths w.points w.starts ps p) e

  level-path : (r z : Float) → is_radius r ≡ true → RingPath (level_ring r z) (ring_of t (level_at z) r)
  level-path r z h = ring-path t (level_at z) r (λ _. level-narrow r (radius-of r h).bounded)

  -- ---- a cylinder, a cone
  cylinder-round : (s : Solid) (r z0 z1 : Float) → outline_of t s ≡ cylinder_outline t r z0 z1 → rings_seen eye s ≡ level_ring r z0 ∷ level_ring r z1 ∷ []
      → lines_seen eye s ≡ upright_lines eye r z0 z1 → cylinder_measured r z0 z1 ≡ true → RoundOutline t s
  unfolding cylinder_measured cylinder_outline uprights tangent_lines eye_square tangent_root first_tangent second_tangent eye
  cylinder-round s r z0 z1 out rings lines h =
      let m = (both (is_radius r) h).0 in
      let e : outline_of t s ≡ (ring_of t (level_at z0) r ∷ ring_of t (level_at z1) r ∷ []) ++ lines_seen eye s = rw lines out in
      record {
        rings = ring_of t (level_at z0) r ∷ ring_of t (level_at z1) r ∷ [];
        ring_paths = rw rings (more (level-path r z0 m) (more (level-path r z1 m) none));
        are = e;
        added = added-so s _ e;
      }

  cone-round : (s : Solid) (r k : Float) → outline_of t s ≡ cone_outline t r k → rings_seen eye s ≡ level_ring r zero_f ∷ []
      → lines_seen eye s ≡ apex_lines eye r k → cone_measured r k ≡ true → RoundOutline t s
  unfolding cone_measured cone_outline cone_side slopes tangent_lines eye_square tangent_root first_tangent second_tangent eye
  cone-round s r k out rings lines h =
      let e : outline_of t s ≡ (ring_of t (level_at zero_f) r ∷ []) ++ lines_seen eye s = rw lines out in
      record {
        rings = ring_of t (level_at zero_f) r ∷ [];
        ring_paths = rw rings (more (level-path r zero_f (both (is_radius r) h).0) none);
        are = e;
        added = added-so s _ e;
      }

  -- ---- a sphere
  some-ring : (far : Bool) (c : Circle) (l : List Vector) → (far ≡ true → RingPath c l) → RingPaths (cond far (c ∷ []) []) (cond far (l ∷ []) [])
  some-ring true c l h = more (h refl) none
  some-ring false c l h = none

  ring-alone : (far : Bool) (l : List Vector) → cond far (l ∷ []) [] ≡ cond far (l ∷ []) [] ++ []
  ring-alone true l = refl
  ring-alone false l = refl

  sphere-round : (center : Vector) (r : Float) → is_radius r ≡ true → RoundOutline t (Sphere center r)
  unfolding outline_of sphere_outline rings_seen lines_seen unit_of facing sphere_ring sphere_reach
  sphere-round center r m =
      let d = sub_v center t.args.eye in
      let h = length_of d in
      let f = facing t.args.eye (unit_of d) (sphere_reach r h) in
      let R = radius-of r m in
      let ring = ring_of t f (sphere_ring r h) in
      record {
        rings = cond (lt r h) (ring ∷ []) [];
        ring_paths = some-ring (lt r h) _ ring (λ e. ring-path t f (sphere_ring r h) (sphere-ring r h R.bounded R.nonneg (subst T (sym e) tt)));
        are = ring-alone (lt r h) ring;
        added = added-so (Sphere center r) _ (ring-alone (lt r h) ring);
      }

  -- ---- a cube, a triangle
  bare-round : (s : Solid) → outline_of t s ≡ [] → rings_seen eye s ≡ [] → lines_seen eye s ≡ [] → RoundOutline t s
  unfolding eye
  bare-round s out rings lines = let e : outline_of t s ≡ [] ++ lines_seen eye s = rw lines out in record { rings = []; ring_paths = rw rings none; are = e; added = added-so s _ e }

  measured-round : (s : Solid) → solid_measured s ≡ true → RoundOutline t s
  unfolding solid_measured outline_of rings_seen lines_seen eye
  measured-round (Sphere c r) h = sphere-round c r (both (within_point c) h).1
  measured-round (Cylinder r z0 z1) h = cylinder-round (Cylinder r z0 z1) r z0 z1 refl refl refl h
  measured-round (Cone r k) h = cone-round (Cone r k) r k refl refl refl h
  measured-round (Cube a b) h = bare-round _ refl refl refl
  measured-round (Triangle a b c) h = bare-round _ refl refl refl
  measured-round (ClosedCylinder r z0 z1) h = cylinder-round (ClosedCylinder r z0 z1) r z0 z1 refl refl refl h
  measured-round (ClosedCone r k) h = cone-round (ClosedCone r k) r k refl refl refl h

pub accepted-round : AcceptedRound
accepted-round s d a i h x e t = measured-round t x (subst Measured e (own-measured s (accepted-passes s d a) i h))
