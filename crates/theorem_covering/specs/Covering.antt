-- Hiding, of scenes and of the public calls on them: what demand 3 rests on. The demand itself is `Demand3` (theorem_demand3/specs/Demand3.antt).
use Rattle.std.specs.Prelude.{ℕ, ◌≡◌, ◌⊎◌, List, Float, Ok, Some}
use Rattle.geometry.specs.Limits.{Within}
use Rattle.geometry.specs.declared.vector.Vector.{Vector}
use Rattle.geometry.specs.declared.ray.Ray.{Ray}
use Rattle.lists.specs.Lists.{Member}
use Rattle.scene_shape.specs.Shapes.{Shape, solid_of}
use Rattle.check_parts.specs.Drawn.{drawn}
use Rattle.scene.specs.Scenes.{Scene}
use Rattle.tree_walk.specs.Walks.{nothing}
use Rattle.tree_walk.specs.declared.Nearest.{Nearest}
use Rattle.tree_sight.specs.Sights.{Answered}
use Rattle.tree_sight.specs.declared.Sight.TheVariants.{Hidden}
use Rattle.theorem_hiding.specs.Covers.{PremiseWithin}
use Rattle.query_scene.specs.Queries.{own_hits, intersect_of, visible_of, occluder_of}
use Rattle.theorem_covering.specs.Scenes.{CoversPoint, Short, DrawsSolid, BuiltRows}

-- A point that a solid covers is hidden in every scene that draws the solid, whatever else it draws and in whatever order: where the scene is answered, the eye test
-- on the rows that the build left says no. The premise: point and eye pass 8 and 9, the computed distance isn't 0, no component of the normalised direction is -0.
abbrev pub CoveredPointHidden : Type 0
CoveredPointHidden =
    (solid : Shape) (eye point : Vector) → CoversPoint solid eye point → PremiseWithin eye point
    → (s : Scene) → DrawsSolid s solid → (nodeBoxes : List Float) (nodeMarks order : List ℕ) → BuiltRows s nodeBoxes nodeMarks order
    → Answered (visible_of s nodeBoxes nodeMarks order eye point) → visible_of s nodeBoxes nodeMarks order eye point ≡ Ok Hidden

-- No point is hidden unless some solid that the scene draws has an own returned distance that falls short of the eye.
abbrev pub HiddenPointShort : Type 0
HiddenPointShort =
    (eye point : Vector) → Within eye → Within point → (s : Scene) (nodeBoxes : List Float) (nodeMarks order : List ℕ) → BuiltRows s nodeBoxes nodeMarks order
    → visible_of s nodeBoxes nodeMarks order eye point ≡ Ok Hidden → (solid : Shape) × DrawsSolid s solid × Short solid eye point

-- Request (i), of every hit: on the rows that a build left, the nearest hit of a ray is the one that the entry which it names gives by itself, and the scene draws that entry; or it is
-- no hit, and names none.
abbrev pub NearestNamed : Type 0
NearestNamed =
    (s : Scene) (nodeBoxes : List Float) (nodeMarks order : List ℕ) → BuiltRows s nodeBoxes nodeMarks order → (r : Ray) (b : Nearest) → intersect_of s nodeBoxes nodeMarks order r ≡ Ok b
    → (b ≡ nothing) ⊎ (Member b.entry (drawn s.marks) × (own_hits s r b.entry ≡ Ok b.hit))

-- Request (i), of the eye test: where a point is hidden, the entry named is one that the scene draws, and its own returned distance falls short of the eye.
abbrev pub HiddenPointNamed : Type 0
HiddenPointNamed =
    (eye point : Vector) → Within eye → Within point → (s : Scene) (nodeBoxes : List Float) (nodeMarks order : List ℕ) → BuiltRows s nodeBoxes nodeMarks order
    → visible_of s nodeBoxes nodeMarks order eye point ≡ Ok Hidden
    → (i : ℕ) × (occluder_of s nodeBoxes nodeMarks order eye point ≡ Ok (Some i)) × Member i (drawn s.marks) × Short (solid_of s.numbers s.marks i) eye point
