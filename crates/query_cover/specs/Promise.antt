-- Request (x)'s promise, of the public calls.
use Rattle.std.specs.Prelude.{ℕ, ◌≡◌, cond, List, T, Float, Err, Ok, Result}
use Rattle.std.specs.Float.Ieee.{lt}
use Rattle.geometry.specs.Vectors.{distance_of}
use Rattle.geometry.specs.declared.hit.Hit.{Hit}
use Rattle.geometry.specs.declared.vector.Vector.{Vector}
use Rattle.geometry.specs.declared.ray.Ray.{Ray}
use Rattle.refusals.specs.declared.Refusal.{Refusal}
use Rattle.refusals.specs.declared.Refusal.TheVariants.{View, Point}
use Rattle.limits.specs.Limits.{within_point}
use Rattle.scene.specs.Scenes.{Scene}
use Rattle.check_scene.specs.Checks.{check_of}
use Rattle.tree_walk.specs.Walks.{walk_rows}
use Rattle.tree_sight.specs.Sights.{eye_ray, sees}
use Rattle.tree_sight.specs.declared.Sight.{Sight}
use Rattle.tree_sight.specs.declared.Sight.TheVariants.{Hidden}
use Rattle.tree_cover.specs.Agreeing.{SameOrHidden, or_short, or_hidden}
use Rattle.query_scene.specs.Queries.{own_hits, seen_after, visible_of}
use Rattle.query_cover.specs.Covered.{covered_of}

-- On every scene, rows of any contents, eye and point: wherever `visible` answers, `covered` gives the same yes or no; where it meets a number, `covered` meets the same, or says no. The
-- number comes only after a solid that falls short then (`EndsAtTheFirst` of crate tree_cover).
abbrev pub CoveredLikeVisible : Type 0
CoveredLikeVisible = (s : Scene) (boxes : List Float) (marks order : List ℕ) (eye point : Vector) → SameOrHidden (covered_of s boxes marks order eye point) (visible_of s boxes marks order eye point)

-- It says no only where the own distance of some entry of the scene falls short of the eye.
abbrev pub CoveredOnlyIfShort : Type 0
CoveredOnlyIfShort =
    (s : Scene) (boxes : List Float) (marks order : List ℕ) (eye point : Vector) → covered_of s boxes marks order eye point ≡ Ok Hidden
    → (i : ℕ) × (h : Hit) × (own_hits s (eye_ray eye point) i ≡ Ok h) × T (lt h.t (distance_of eye point))

-- `visible_of`, were each solid that falls short of the eye to refuse with k
unfoldable pub visible_but_for : Refusal → Scene → List Float → List ℕ → List ℕ → Vector → Vector → Result Sight Refusal
visible_but_for k s boxes marks order eye point =
    seen_after (check_of s)
    (cond (within_point eye)
    (cond (within_point point) (sees (λ (r : Ray). walk_rows (λ (i : ℕ). or_short k (distance_of eye point) (own_hits s r i)) r boxes marks order) eye point) (Err Point))
    (Err View))

-- "and that is its only departure": `covered` says no exactly where that would meet k, and answers as it does elsewhere, on every input.
abbrev pub OnlyDeparture : Type 0
OnlyDeparture = (k : Refusal) (s : Scene) (boxes : List Float) (marks order : List ℕ) (eye point : Vector) → or_hidden k (covered_of s boxes marks order eye point) ≡ visible_but_for k s boxes marks order eye point
