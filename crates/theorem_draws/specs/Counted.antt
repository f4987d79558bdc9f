-- How many places the result of a draw needs, by the counts of a preview (document 02 (viii)): as many points as it counts, and one start more than it counts
-- paths. A path takes a start when it is opened and gives it back if it gets no point, so the last one that vanishes needs that one more.
use Rattle.std.specs.Prelude.{ℕ, ◌≤◌, ◌<◌, ◌≡◌, length, Float}
use Rattle.std.specs.Prelude.{Ok}
use Rattle.scene.specs.Scenes.{Scene}
use Rattle.paths.specs.Paths.{Paths}
use Rattle.view.specs.declared.View.{View}
use Rattle.draw_render.specs.Render.{Places}
use Rattle.draw.specs.Draw.{draw_with}

-- the same places but for those of the result
abbrev pub with_result : Places → ℕ → ℕ → Places
with_result w points starts = record { lines = w.lines; nodes = w.nodes; order = w.order; points = points; starts = starts }

-- Where a draw is answered, it is answered alike with that many places for the result, or more.
abbrev pub CountsSuffice : Type 0
CountsSuffice =
    (t : Float) (s : Scene) (v : View) (w : Places) (q : Paths) → draw_with t s v w ≡ Ok q
    → (points starts : ℕ) → length q.vertices ≤ points → length q.starts < starts → draw_with t s v (with_result w points starts) ≡ Ok q
