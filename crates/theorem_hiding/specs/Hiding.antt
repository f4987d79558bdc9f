-- Demand 3 on hiding, for every type of solids, whatever their boxes and hits, every scene of them, and every tree that is built of it.
use Rattle.std.specs.Prelude.{◌≡◌, List, ℕ, Ok, Result}
use Rattle.geometry.specs.Limits.{Within}
use Rattle.geometry.specs.declared.vector.Vector.{Vector}
use Rattle.geometry.specs.declared.ray.Ray.{Ray}
use Rattle.geometry.specs.declared.bounding_box.BBox.{BBox}
use Rattle.tree_nodes.specs.Trees.{Tree}
use Rattle.lists.specs.Lists.{Member}
use Rattle.tree_walk.specs.Walks.{nothing, visit}
use Rattle.tree_walk.specs.declared.Nearest.{Nearest}
use Rattle.tree_sight.specs.Sights.{eye_ray, sees, Answered}
use Rattle.tree_sight.specs.declared.Sight.TheVariants.{Visible, Hidden}
use Rattle.theorem_hiding.specs.Covers.{ShortBy, CoversBy, Holds, TreeOf, sees_past, PremiseWithin}
use Rattle.geometry.specs.declared.hit.Hit.{Hit}
use Rattle.refusals.specs.declared.Refusal.{Refusal}

-- A point that a solid covers is hidden in every scene that holds the solid, whatever else the scene holds and in whatever order, where the scene is answered.
abbrev pub CoveredIsHidden : Type 1
CoveredIsHidden =
    (S : Type 0) (box : S → BBox) (hit : S → Ray → Result Hit Refusal) (s : S) (eye point : Vector) → CoversBy box hit s eye point → PremiseWithin eye point
    → (solid : ℕ → S) (entries : List ℕ) (tree : Tree ℕ) → TreeOf box solid entries tree → Holds solid entries s
    → Answered (sees_past hit solid tree eye point) → sees_past hit solid tree eye point ≡ Ok Hidden

-- Where a point is hidden, the entry that the walk names is one of the scene's whose own returned distance falls short of the eye.
abbrev pub NamedFallsShort : Type 1
NamedFallsShort =
    (S : Type 0) (box : S → BBox) (hit : S → Ray → Result Hit Refusal) (eye point : Vector) → Within eye → Within point
    → (solid : ℕ → S) (entries : List ℕ) (tree : Tree ℕ) → TreeOf box solid entries tree → sees_past hit solid tree eye point ≡ Ok Hidden
    → (b : Nearest) × (visit (λ (i : ℕ). hit (solid i) (eye_ray eye point)) (eye_ray eye point) tree 0 nothing ≡ Ok b) × Member b.entry entries × ShortBy hit (solid b.entry) eye point

-- No point is hidden unless some solid of the scene has an own returned distance that falls short of the eye.
abbrev pub HiddenFallsShort : Type 1
HiddenFallsShort =
    (S : Type 0) (box : S → BBox) (hit : S → Ray → Result Hit Refusal) (eye point : Vector) → Within eye → Within point
    → (solid : ℕ → S) (entries : List ℕ) (tree : Tree ℕ) → TreeOf box solid entries tree
    → sees_past hit solid tree eye point ≡ Ok Hidden → (s : S) × Holds solid entries s × ShortBy hit s eye point

-- A scene without solids hides nothing.
abbrev pub NothingIsHidden : Type 0
NothingIsHidden =
    (eye point : Vector) → Within eye → Within point → sees (λ (r : Ray). Ok nothing) eye point ≡ Ok Visible
