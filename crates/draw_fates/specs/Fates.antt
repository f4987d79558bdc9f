-- What becomes of a point at step 4 of a draw, with the name of who hides it: the filter's whole question.
use Rattle.std.specs.Prelude.{ℕ, ◌+◌, ◌/◌, ◌≡◌, cond, List, length, Float, Err, None, Ok, Option, Result, Some, ⊤}
use Rattle.geometry.specs.Boxes.{clip_box, contains}
use Rattle.geometry.specs.declared.vector.Vector.{Vector}
use Rattle.geometry.specs.declared.ray.Ray.{Ray}
use Rattle.matrix.specs.Matrices.{mul_position_w}
use Rattle.matrix.specs.declared.Matrix.{Matrix}
use Rattle.rows.specs.Rows.{view, padded}
use Rattle.rows.specs.Points.{point_of}
use Rattle.refusals.specs.Refusals.{number_of}
use Rattle.refusals.specs.declared.Refusal.TheVariants.{Point}
use Rattle.limits.specs.Limits.{within_point}
use Rattle.scene.specs.Scenes.{Scene}
use Rattle.check_scene.specs.Checks.{check_of}
use Rattle.tree_walk.specs.Walks.{walk_rows}
use Rattle.query_scene.specs.Queries.{own_hits, hides}
use Rattle.query_cover.specs.Covered.{batch_if, if_answered}
use Rattle.view.specs.Views.{view_ok}
use Rattle.view.specs.declared.View.{View}
use Rattle.draw_fates.specs.declared.Fate.{Fate}
use Rattle.draw_fates.specs.declared.Fate.TheVariants.{Clipped, Visible, Hidden}
use Rattle.refusals.specs.declared.Refusal.{Refusal}

-- what the eye test with a name makes of a point
unfoldable pub by_name : Result (Option ℕ) Refusal → Result Fate Refusal
by_name (Ok None) = Ok Visible
by_name (Ok (Some i)) = Ok (Hidden i)
by_name (Err k) = Err k

-- as `clip_filter` has it: the clip box first; a point in it is judged by number 9, and then put to the eye test, `named`, in world coordinates
unfoldable pub fate_by : Matrix → (Vector → Result (Option ℕ) Refusal) → Vector → Result Fate Refusal
fate_by matrix named p = cond (contains clip_box (mul_position_w matrix p)) (cond (within_point p) (by_name (named p)) (Err Point)) (Ok Clipped)

-- of a scene, on the rows of a tree that are handed in
unfoldable pub fate_of : Scene → List Float → List ℕ → List ℕ → View → Vector → Result Fate Refusal
fate_of s boxes marks order v = fate_by v.matrix (hides (λ (r : Ray). walk_rows (own_hits s r) r boxes marks order) v.eye)

-- ---- many points
-- The word that tells it: FFFFFFFF visible, FFFFFFFE clipped away, FFFFFF00 (all hexadecimal) and the number that is met, or the entry that hides the point.
unfoldable pub fate_word : Result Fate Refusal → ℕ
fate_word (Ok Clipped) = 4294967294
fate_word (Ok Visible) = 4294967295
fate_word (Ok (Hidden i)) = i
fate_word (Err k) = 4294967040 + number_of k

-- those of the first n points of a slice
unfoldable pub words_by : Matrix → (Vector → Result (Option ℕ) Refusal) → ℕ → List Float → List ℕ
words_by matrix named n tested = view 3 (λ (p : List Float). fate_word (fate_by matrix named (point_of p))) n tested

-- What the call answers, and how it leaves the slice: number 2 of the points, then the scene's verdict, then 8 of the view, then 13. The word of each point tells what becomes of it, then zeros; zeros throughout after a refusal.
pub record AllFates (s : Scene) (boxes : List Float) (marks order : List ℕ) (v : View) (tested : List Float) (told₀ : List ℕ) (r : Result ⊤ Refusal) (told : List ℕ) : Type 0 where
  pub answer : r ≡ batch_if (check_of s) (view_ok v) (length tested) (length told₀)
  pub words_are : told ≡ padded 0 (length told₀) (view 3 (λ (p : List Float). fate_word (fate_of s boxes marks order v (point_of p))) (if_answered r (length tested / 3)) tested)
