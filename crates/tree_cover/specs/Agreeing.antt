-- Request (x)'s promise, of the walk on rows of any contents: it is the full walk, ended by the first solid that falls short.
use Rattle.std.specs.Prelude.{◌≡◌, cond, List, ℕ, T, Float, Err, Ok, Result}
use Rattle.std.specs.Float.Ieee.{lt, le}
use Rattle.geometry.specs.Vectors.{distance_of}
use Rattle.geometry.specs.declared.vector.Vector.{Vector}
use Rattle.geometry.specs.declared.hit.Hit.{Hit}
use Rattle.geometry.specs.declared.ray.Ray.{Ray}
use Rattle.geometry.specs.Limits.{Within}
use Rattle.refusals.specs.declared.Refusal.{Refusal}
use Rattle.tree_walk.specs.Walks.{nothing, walk_rows}
use Rattle.tree_sight.specs.Sights.{eye_ray, sees}
use Rattle.tree_sight.specs.declared.Sight.{Sight}
use Rattle.tree_sight.specs.declared.Sight.TheVariants.{Visible, Hidden}
use Rattle.tree_cover.specs.Seeking.{seek_rows, covered_by}
use Rattle.tree_cover.specs.declared.Sought.{Sought}
use Rattle.tree_cover.specs.declared.Sought.TheVariants.{Open, Covered}
use Rattle.tree_walk.specs.declared.Nearest.{Nearest}

-- ---- which solid is the first
-- a hit, or k where it falls short
unfoldable pub or_short : Refusal → Float → Result Hit Refusal → Result Hit Refusal
or_short k far (Ok h) = cond (lt h.t far) (Err k) (Ok h)
or_short k far (Err n) = Err n

-- what a walk found, or k where it is covered
unfoldable pub or_covered : Refusal → Result Sought Refusal → Result Nearest Refusal
or_covered k (Ok (Open b)) = Ok b
or_covered k (Ok Covered) = Err k
or_covered k (Err n) = Err n

-- Were each solid that falls short to refuse with a number, the full walk would meet that number exactly where this one says covered, and agree with it elsewhere: so this walk meets
-- solids and numbers in the full walk's order, up to the first solid that falls short, and a number of the full walk that it does not meet comes only after that solid.
abbrev pub EndsAtTheFirst : Type 0
EndsAtTheFirst =
    (k : Refusal) (far : Float) (hit : ℕ → Result Hit Refusal) (r : Ray) (boxes : List Float) (marks order : List ℕ)
    → or_covered k (seek_rows far hit r boxes marks order) ≡ walk_rows (λ (i : ℕ). or_short k far (hit i)) r boxes marks order

-- ---- what the full walk finds
-- open: the same best, which does not fall short; covered: a best that does, or a number; refused: the same number
abbrev pub Agrees : Float → Result Sought Refusal → Result Nearest Refusal → Type 0
Agrees far (Ok (Open b)) f = (f ≡ Ok b) × T (le far b.hit.t)
Agrees far (Ok Covered) (Ok b) = T (lt b.hit.t far)
Agrees far (Ok Covered) (Err n) = Unit
Agrees far (Err n) f = f ≡ Err n

-- wherever the length is at most the best before any solid is tried
abbrev pub SeekAgrees : Type 0
SeekAgrees =
    (far : Float) (hit : ℕ → Result Hit Refusal) (r : Ray) (boxes : List Float) (marks order : List ℕ) → T (le far nothing.hit.t)
    → Agrees far (seek_rows far hit r boxes marks order) (walk_rows hit r boxes marks order)

-- ---- the eye test
-- Wherever the full walk answers, the same yes or no; where it meets a number, that number, or no.
abbrev pub SameOrHidden : Result Sight Refusal → Result Sight Refusal → Type 0
SameOrHidden (Ok Visible) full = full ≡ Ok Visible
SameOrHidden (Ok Hidden) (Ok Visible) = ⊥
SameOrHidden (Ok Hidden) (Ok Hidden) = Unit
SameOrHidden (Ok Hidden) (Err n) = Unit
SameOrHidden (Err n) full = full ≡ Err n

abbrev pub CoveredAgrees : Type 0
CoveredAgrees =
    (hits : Ray → ℕ → Result Hit Refusal) (boxes : List Float) (marks order : List ℕ) (eye point : Vector) → Within eye → Within point
    → SameOrHidden (covered_by (λ (d : Float) (r : Ray). seek_rows d (hits r) r boxes marks order) eye point) (sees (λ (r : Ray). walk_rows (hits r) r boxes marks order) eye point)

-- It says no only where some solid's own distance falls short.
abbrev pub NoOnlyIfShort : Type 0
NoOnlyIfShort =
    (hits : Ray → ℕ → Result Hit Refusal) (boxes : List Float) (marks order : List ℕ) (eye point : Vector)
    → covered_by (λ (d : Float) (r : Ray). seek_rows d (hits r) r boxes marks order) eye point ≡ Ok Hidden
    → (i : ℕ) × (h : Hit) × (hits (eye_ray eye point) i ≡ Ok h) × T (lt h.t (distance_of eye point))

-- the eye test's answer, or k where it says no
unfoldable pub or_hidden : Refusal → Result Sight Refusal → Result Sight Refusal
or_hidden k (Ok Visible) = Ok Visible
or_hidden k (Ok Hidden) = Err k
or_hidden k (Err n) = Err n

-- `EndsAtTheFirst` of the eye test: were each solid that falls short to refuse with a number, the full eye test would meet that number exactly where this one says no, and agree with it elsewhere.
abbrev pub CoveredEnds : Type 0
CoveredEnds =
    (k : Refusal) (hits : Ray → ℕ → Result Hit Refusal) (boxes : List Float) (marks order : List ℕ) (eye point : Vector) → Within eye → Within point
    → or_hidden k (covered_by (λ (d : Float) (r : Ray). seek_rows d (hits r) r boxes marks order) eye point)
    ≡ sees (λ (r : Ray). walk_rows (λ (i : ℕ). or_short k (distance_of eye point) (hits r i)) r boxes marks order) eye point
