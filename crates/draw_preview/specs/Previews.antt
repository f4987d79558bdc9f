-- Document 02's preview: the counts, or the number, that a draw on a copy would give, where the slices of the result are known by their lengths alone.
use Rattle.std.specs.Prelude.{List, ℕ, Float, Result}
use Rattle.paths.specs.Ends.{counted}
use Rattle.scene.specs.Scenes.{Scene}
use Rattle.view.specs.declared.View.{View}
use Rattle.draw_render.specs.Render.{Places}
use Rattle.draw_counts.specs.Blanks.{blank, blank_starts}
use Rattle.draw.specs.Draw.{draw_with, draw_with_in}
use Rattle.refusals.specs.declared.Refusal.{Refusal}

-- the preview of a scene for a view, with the threshold t, in these places
abbrev pub preview_of : Float → Scene → View → Places → Result (ℕ × ℕ) Refusal
preview_of t s v w = counted (draw_with t s v w)

-- the preview of the slices that are handed in: a draw with result slices of these lengths, counted
abbrev pub preview_in : Float → List Float → List ℕ → List Float → List ℕ → List ℕ → View → ℕ → ℕ → List Float → List ℕ → List Float → List ℕ → List Float → List ℕ → List ℕ → Result (ℕ × ℕ) Refusal
preview_in t numbers marks points starts owners view out begins work workStarts chopped choppedStarts nodeBoxes nodeMarks order =
    counted (draw_with_in t numbers marks points starts owners view (blank out) (blank_starts begins) work workStarts chopped choppedStarts nodeBoxes nodeMarks order)
