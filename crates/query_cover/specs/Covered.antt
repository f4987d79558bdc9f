-- Request (x), is it covered at all, of a scene: of one point, and of many.
use Rattle.std.specs.Prelude.{ℕ, ◌*◌, ◌/◌, ◌≡◌, Bool, cond, List, length, eqb, leb, Float, Err, Ok, Result, ⊤}
use Rattle.geometry.specs.declared.vector.Vector.{Vector}
use Rattle.geometry.specs.declared.ray.Ray.{Ray}
use Rattle.rows.specs.Rows.{view, padded}
use Rattle.rows.specs.Points.{point_of}
use Rattle.refusals.specs.Refusals.{number_of}
use Rattle.refusals.specs.declared.Refusal.TheVariants.{Lengths, View, Point, Room}
use Rattle.limits.specs.Limits.{within_point}
use Rattle.scene.specs.Scenes.{Scene}
use Rattle.check_scene.specs.Checks.{check_of}
use Rattle.tree_sight.specs.declared.Sight.{Sight}
use Rattle.tree_sight.specs.declared.Sight.TheVariants.{Visible, Hidden}
use Rattle.tree_cover.specs.Seeking.{seek_rows, covered_by}
use Rattle.tree_cover.specs.declared.Sought.{Sought}
use Rattle.query_scene.specs.Queries.{own_hits, seen_after}
use Rattle.refusals.specs.declared.Refusal.{Refusal}

-- ---- one point
-- number 9, then the eye test by the walk that stops
unfoldable pub covered_past : (Float → Ray → Result Sought Refusal) → Vector → Vector → Result Sight Refusal
covered_past seek eye point = cond (within_point point) (covered_by seek eye point) (Err Point)

-- numbers 2 to 7 and 14, then 8 of the eye and 9 of the point, as `visible_of` has them, then the walk that stops on the rows that are handed in
unfoldable pub covered_of : Scene → List Float → List ℕ → List ℕ → Vector → Vector → Result Sight Refusal
covered_of s boxes marks order eye point =
    seen_after (check_of s)
    (cond (within_point eye) (covered_past (λ (d : Float) (r : Ray). seek_rows d (own_hits s r) r boxes marks order) eye point) (Err View))

-- ---- many points
-- the byte that tells an answer: 1 yes, 2 no, or the number of the point's refusal, 9, 11 or 12; 0 is no answer
unfoldable pub byte_of : Result Sight Refusal → ℕ
byte_of (Ok Visible) = 1
byte_of (Ok Hidden) = 2
byte_of (Err k) = number_of k

-- those of the first n points of a slice
unfoldable pub bytes_past : (Float → Ray → Result Sought Refusal) → Vector → ℕ → List Float → List ℕ
bytes_past seek eye n tested = view 3 (λ (p : List Float). byte_of (covered_past seek eye (point_of p))) n tested

-- Number 2 of a points' slice of this size, then the scene's verdict, numbers 2 to 7 and 14, then 8, where ok is false, then 13: there is a place for each point. No point refuses the others.
unfoldable pub batch_if : Result ℕ Refusal → Bool → ℕ → ℕ → Result ⊤ Refusal
batch_if (Err k) ok size room = cond (eqb (size / 3 * 3) size) (Err k) (Err Lengths)
batch_if (Ok n) ok size room =
    cond (eqb (size / 3 * 3) size)
    (cond ok (cond (leb (size / 3) room) (Ok tt) (Err Room)) (Err View))
    (Err Lengths)

-- 8 of the eye
abbrev pub batch_by : Result ℕ Refusal → Vector → ℕ → ℕ → Result ⊤ Refusal
batch_by v eye = batch_if v (within_point eye)

-- n, or none after a refusal
unfoldable pub if_answered : Result ⊤ Refusal → ℕ → ℕ
if_answered (Ok tt) n = n
if_answered (Err k) n = 0

-- what the call answers, and how it leaves the slice: the byte of each point tells what `covered_of` answers of it, then zeros; zeros throughout after a refusal
pub record AllTold (s : Scene) (boxes : List Float) (marks order : List ℕ) (eye : Vector) (tested : List Float) (told₀ : List ℕ) (r : Result ⊤ Refusal) (told : List ℕ) : Type 0 where
  pub answer : r ≡ batch_by (check_of s) eye (length tested) (length told₀)
  pub bytes_are : told ≡ padded 0 (length told₀) (view 3 (λ (p : List Float). byte_of (covered_of s boxes marks order eye (point_of p))) (if_answered r (length tested / 3)) tested)
