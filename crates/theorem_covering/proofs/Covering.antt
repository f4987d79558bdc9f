-- Hiding, of scenes and of the public calls on them: the proofs.
use Prim.Native.Nat.{ℕ, ◌*◌, ◌<◌, ◌≤◌}
use mathlib.Core.Path.{◌≡◌, refl, sym, ap, subst, ◌∙◌}
use mathlib.Core.Logic.{◌⊎◌, inl, inr}
use mathlib.Core.List.{List, [], ◌∷◌}
use native.Mathlib.Omega.{arith}
use lib.ListN.{length}
use lib.Ieee.{Float}
use Rattle.geometry.specs.Limits.{Within}
use Rattle.geometry.specs.declared.vector.Vector.{Vector}
use Rattle.geometry.specs.declared.ray.Ray.{Ray}
use Rattle.scene_shape.specs.Shapes.{Shape, shape_box, shape_hit, solid_of}
use Rattle.tree_nodes.proofs.Members.{below-built}
use Rattle.lists.specs.Lists.{Member}
use Rattle.check_parts.specs.Drawn.{drawn}
use Rattle.scene.specs.Scenes.{Scene, entries_of}
use Rattle.check_scene.specs.Checks.{check_of}
use Rattle.check_scene.proofs.Accepted.{accepted-numbers}
use Rattle.theorem_solids.specs.Same.{SameSolid}
use Rattle.theorem_solids.proofs.Same.{same_solid}
use Rattle.tree_walk.specs.Walks.{nothing, walk_rows}
use Rattle.tree_walk.proofs.Visits.{best-same, visit-from}
use Rattle.tree_sight.specs.Sights.{eye_ray, sees, Answered}
use Rattle.tree_sight.specs.declared.Sight.{Sight}
use Rattle.tree_sight.specs.declared.Sight.TheVariants.{Visible, Hidden}
use Rattle.theorem_hiding.proofs.Hiding.{covered-is-hidden, named-falls-short, nothing-is-hidden}
use Rattle.query_scene.specs.Queries.{scene_tree, own_hits, visible_of, occluder_of}
use Rattle.query_scene.proofs.Names.{hidden-named}
use Rattle.theorem_covering.specs.Scenes.{CoversPoint, Short, BuiltRows}
use Rattle.theorem_covering.specs.Covering.{CoveredPointHidden, HiddenPointShort, NearestNamed, HiddenPointNamed}
use Rattle.theorem_covering.proofs.Trees.{scene-tree}
use Rattle.theorem_covering.proofs.Rows.{accepted-scene, walk-tree, walk-nothing, sees-tree, sees-nothing, intersect-walks, visible-sees, occluder-hides}
use Rattle.std.specs.Prelude.{Err, Ok, Result, Some}
use Rattle.refusals.specs.declared.Refusal.{Refusal}

some-drawn : (l : List ℕ) (i : ℕ) → Member i l → 0 < length l
some-drawn [] i m = absurd m
some-drawn (x ∷ l) i m = omega arith

pub covered-point-hidden : CoveredPointHidden
covered-point-hidden solid eye point covers premise s draws nodeBoxes nodeMarks order R answered =
    let acc = accepted-scene s nodeBoxes nodeMarks order R in
    let some = some-drawn (drawn s.marks) draws.0 draws.1 in
    let e = visible-sees s acc.0 acc.1 nodeBoxes nodeMarks order eye point answered ∙ sees-tree s nodeBoxes nodeMarks order R some eye point in
    e
    ∙ covered-is-hidden Shape shape_box shape_hit solid eye point covers premise (solid_of s.numbers s.marks) (drawn s.marks) _ (scene-tree s acc.0 acc.1 some) draws
    (subst Answered e answered)

-- ---- the eye test says no: it is answered
abbrev is_hidden : Result Sight Refusal → ℕ
is_hidden (Ok Visible) = 0
is_hidden (Ok Hidden) = 1
is_hidden (Err k) = 0

no-answers : (a : Result Sight Refusal) → a ≡ Ok Hidden → Answered a
no-answers a h k e = let q : is_hidden (Err k) ≡ is_hidden (Ok Hidden) = ap is_hidden (sym e ∙ h) in omega (arith, q)

visible-not : ◌≡◌ {A = Result Sight Refusal} (Ok Visible) (Ok Hidden) → ⊥
visible-not e = let q : is_hidden (Ok Visible) ≡ is_hidden (Ok Hidden) = ap is_hidden e in omega (arith, q)

module _ (s : Scene) (nodeBoxes : List Float) (nodeMarks order : List ℕ) (R : BuiltRows s nodeBoxes nodeMarks order) (eye point : Vector) (eye-in : Within eye) (point-in : Within point) where
  seen : visible_of s nodeBoxes nodeMarks order eye point ≡ Ok Hidden → visible_of s nodeBoxes nodeMarks order eye point ≡ sees (λ (r : Ray). walk_rows (own_hits s r) r nodeBoxes nodeMarks order) eye point
  seen h = let acc = accepted-scene s nodeBoxes nodeMarks order R in visible-sees s acc.0 acc.1 nodeBoxes nodeMarks order eye point (no-answers _ h)

  not_hidden : drawn s.marks ≡ [] → visible_of s nodeBoxes nodeMarks order eye point ≡ Ok Hidden → ⊥
  not_hidden none h = visible-not (sym (seen h ∙ sees-nothing s nodeBoxes nodeMarks order R none eye point ∙ nothing-is-hidden eye point eye-in point-in) ∙ h)

  named-of-tree : 0 < length (drawn s.marks) → visible_of s nodeBoxes nodeMarks order eye point ≡ Ok Hidden
      → (i : ℕ) × (occluder_of s nodeBoxes nodeMarks order eye point ≡ Ok (Some i)) × Member i (drawn s.marks) × Short (solid_of s.numbers s.marks i) eye point
  named-of-tree some h =
      let acc = accepted-scene s nodeBoxes nodeMarks order R in
      let z = named-falls-short Shape shape_box shape_hit eye point eye-in point-in (solid_of s.numbers s.marks) (drawn s.marks) _ (scene-tree s acc.0 acc.1 some)
      (sym (seen h ∙ sees-tree s nodeBoxes nodeMarks order R some eye point) ∙ h) in
      let w = walk-tree s nodeBoxes nodeMarks order R some (eye_ray eye point) ∙ z.1 in
      let n = hidden-named (λ (r : Ray). walk_rows (own_hits s r) r nodeBoxes nodeMarks order) eye point z.0 w (sym (seen h) ∙ h) in
      (z.0.entry, occluder-hides s acc.0 acc.1 nodeBoxes nodeMarks order eye point (no-answers _ h) ∙ n, z.2, z.3)

pub hidden-point-named : HiddenPointNamed
hidden-point-named eye point eye-in point-in s nodeBoxes nodeMarks order R hidden = go (drawn s.marks) refl
  where
    go : (l : List ℕ) → drawn s.marks ≡ l
        → (i : ℕ) × (occluder_of s nodeBoxes nodeMarks order eye point ≡ Ok (Some i)) × Member i (drawn s.marks) × Short (solid_of s.numbers s.marks i) eye point
    go [] none = absurd (not_hidden s nodeBoxes nodeMarks order R eye point eye-in point-in none hidden)
    go (i ∷ l) some = named-of-tree s nodeBoxes nodeMarks order R eye point eye-in point-in (rw some (omega arith)) hidden

pub hidden-point-short : HiddenPointShort
hidden-point-short eye point eye-in point-in s nodeBoxes nodeMarks order R hidden =
    let z = hidden-point-named eye point eye-in point-in s nodeBoxes nodeMarks order R hidden in
    (solid_of s.numbers s.marks z.0, (z.0, z.2, refl), z.3)

pub nearest-named : NearestNamed
nearest-named s nodeBoxes nodeMarks order R r b e = go (drawn s.marks) refl
  where
    w : walk_rows (own_hits s r) r nodeBoxes nodeMarks order ≡ Ok b
    w = intersect-walks s nodeBoxes nodeMarks order R r b e

    go : (l : List ℕ) → drawn s.marks ≡ l → (b ≡ nothing) ⊎ (Member b.entry (drawn s.marks) × (own_hits s r b.entry ≡ Ok b.hit))
    go [] none = inl (best-same (sym w ∙ walk-nothing s nodeBoxes nodeMarks order R none r))
    go (i ∷ l) more =
        let acc = accepted-scene s nodeBoxes nodeMarks order R in
        let some : 0 < length (drawn s.marks) = rw more (omega arith) in
        elim (visit-from (own_hits s r) r (scene_tree s) 0 nothing b (sym (walk-tree s nodeBoxes nodeMarks order R some r) ∙ w)) [
          | inl z ↦ inl z
          | inr z ↦ inr (below-built (λ (j : ℕ). shape_box (solid_of s.numbers s.marks j)) (scene_tree s) (drawn s.marks) (scene-tree s acc.0 acc.1 some).built b.entry z.0, z.1)
        ]

-- The same solid in two scenes covers the same points, whatever its index: entry i of s, with 16 numbers an entry, and entry j of an accepted s'.
pub covers-alike : (s s' : Scene) (i j : ℕ) → SameSolid s.numbers s.marks s'.numbers s'.marks i j → entries_of s * 16 ≤ length s.numbers → (n : ℕ) → check_of s' ≡ Ok n
    → (eye point : Vector) → CoversPoint (solid_of s.numbers s.marks i) eye point → CoversPoint (solid_of s'.numbers s'.marks j) eye point
covers-alike s s' i j same long n is eye point covers =
    subst (λ (x : Shape). CoversPoint x eye point) (same_solid s.numbers s.marks s'.numbers s'.marks long (omega (arith, accepted-numbers s' n is)) i j same) covers
