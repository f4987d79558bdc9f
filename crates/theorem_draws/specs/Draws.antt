-- What a draw does, wherever it is answered, from the code to the sheet. `what-a-draw-does` (proofs/Draws.antt) is a value of the last record here.
-- Demand 3 (theorem_demand3/specs/Demand3.antt) speaks of the points that a draw's step 4 is handed; this page says what becomes of them.
--   Drawing             draw/specs/Drawing.antt: the six steps of an answered draw, each with its result: `lines` are put to step 4, `passed` is
--                       left by it, `left` by step 5
--   Put, ClippedIn,     specs/Sheets.antt: the point is put to step 4; step 4 clips it away, passes it, drops it as hidden
--   PassedIn, HiddenIn
--   clip_filter, kept_of  draw_clip/specs/Clip.antt, theorem_filters/specs/Kept.antt: step 4's test of a point; what a test keeps of all points, in order
--   runs_of, Unbroken    theorem_filters/specs/Cutting.antt: lines cut at each point that a test does not keep; neighbours that stem from neighbours
use Rattle.std.specs.Prelude.{ℕ, ◌≡◌, ◌⊎◌, false, List, map, Float}
use Rattle.std.specs.Prelude.{Ok, Option, Result}
use Rattle.geometry.specs.declared.vector.Vector.{Vector}
use Rattle.matrix.specs.Matrices.{mul_position, mul_position_w}
use Rattle.lists.specs.Lists.{Member}
use Rattle.scene.specs.Scenes.{Scene}
use Rattle.tree_sight.specs.declared.Sight.TheVariants.{Visible}
use Rattle.query_scene.specs.Queries.{build_of}
use Rattle.paths.specs.Paths.{Paths, paths_of, with_points}
use Rattle.paths.specs.Ends.{held, Finished}
use Rattle.view.specs.Views.{viewport}
use Rattle.view.specs.declared.View.{View}
use Rattle.draw_clip.specs.Clip.{clip_filter}
use Rattle.theorem_filters.specs.Kept.{kept_of}
use Rattle.theorem_filters.specs.Cutting.{runs_of, After, Unbroken}
use Rattle.theorem_filters.specs.Passing.{LeftAfterClipping}
use Rattle.draw_render.specs.Render.{Places, stepping}
use Rattle.draw.specs.Draw.{draw_with}
use Rattle.draw.specs.Drawing.{seen_in, Drawing}
use Rattle.theorem_draws.specs.Sheets.{Put, ClippedIn, PassedIn, HiddenIn}
use Rattle.refusals.specs.declared.Refusal.{Refusal}

-- step 4's test of a point, and the paths that it is handed, that it leaves, and that step 5 leaves
abbrev pub test_in : Scene → View → Vector → Result (Option Vector) Refusal
test_in s v = clip_filter v.matrix (seen_in s v.eye)

abbrev pub paths_in : Paths → List (List Vector)
paths_in p = paths_of p.vertices p.starts

-- what stands on a sheet at x: a point that was put to step 4, left after clipping and seen, as it is projected and mapped
pub record Seen {t : Float} {s : Scene} {v : View} {w : Places} {q : Paths} (D : Drawing t s v w q) (x : Vector) : Type 0 where
  pub point : Vector
  pub put : Put D point
  pub left : LeftAfterClipping v.matrix point
  pub seen : seen_in s v.eye point ≡ Ok Visible
  pub lands : x ≡ mul_position (viewport v.width v.height) (mul_position_w v.matrix point)

pub record OfADraw {t : Float} {s : Scene} {v : View} {w : Places} {q : Paths} (D : Drawing t s v w q) : Type 0 where
  -- The public build is answered too, with as many places.
  pub builds : build_of s w.nodes w.order ≡ Ok D.nodes
  -- Each point put to step 4 is clipped away, or passed, or dropped as hidden: there is no fourth way. Step 4 leaves the points that it passes, as they
  -- are projected, in order.
  pub each_point : (point : Vector) → Put D point → ClippedIn s v point ⊎ (PassedIn s v point ⊎ HiddenIn s v point)
  pub leaves : D.passed.vertices ≡ kept_of (test_in s v) (paths_in D.lines)
  -- Path by path: each line is cut at every point that is clipped away or hidden, and the runs between that have points are the paths. So the pen never
  -- runs across a dropped point: two neighbours in a path that step 4 leaves were neighbours in a line put to it. Between them nothing is tested.
  pub cuts : paths_in D.passed ≡ with_points (runs_of (test_in s v) (paths_in D.lines))
  pub unbroken : (path : List Vector) → Member path (paths_in D.passed) → (x y : Vector) → After path x y → Unbroken (test_in s v) (paths_in D.lines) x y
  -- At step 0 nothing is simplified; what step > 0 does is demand 3's.
  pub unsimplified : stepping v ≡ false → D.left ≡ D.passed
  -- The sheet, path by path: what is left, each point mapped by the viewport matrix. No point stands on it that was not seen.
  pub sheet : paths_in q ≡ map (map (mul_position (viewport v.width v.height))) (paths_in D.left)
  pub all_seen : (path : List Vector) → Member path (paths_in q) → (x : Vector) → Member x path → Seen D x

-- By their `ensures` draw_with, and draw with the threshold 1e-4, leave in the slices what `draw_with` answers (theorem_demand1/specs/Demand1.antt).
pub record WhatADrawDoes : Type 0 where
  -- Where the answer is so many points and paths, the draw has been through the six steps, and the slices hold its sheet.
  pub six_steps : (t : Float) (s : Scene) (v : View) (w : Places) (n m : ℕ) (xs : List Float) (ss : List ℕ) (i j : ℕ)
      → Finished (draw_with t s v w) n m xs ss (Ok (i, j)) → Drawing t s v w (held i xs j ss)
  pub of_a_draw : {t : Float} {s : Scene} {v : View} {w : Places} {q : Paths} (D : Drawing t s v w q) → OfADraw D
