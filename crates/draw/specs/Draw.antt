-- Document 01's draw of a scene: refusals 2 to 8 and 14, and then the drawing. Its threshold of simplification is document 02's.
use Rattle.std.specs.Prelude.{cond, ◌&&◌, List, ℕ, ◌*◌, ◌/◌, length, take, drop, Float, Err, Ok, Result}
use Rattle.floats.specs.Arith.{ten_thousandth}
use Rattle.scene.specs.Entries.{own_entry}
use Rattle.refusals.specs.declared.Refusal.TheVariants.{View as BadView}
use Rattle.scene_shape.specs.Shapes.{shape_box}
use Rattle.check_parts.specs.Drawn.{drawn}
use Rattle.check_scene.specs.Checks.{check_of}
use Rattle.scene.specs.Scenes.{Scene, scene_of}
use Rattle.paths.specs.Paths.{Paths}
use Rattle.path_rdp.specs.Rdp.{threshold_ok}
use Rattle.view.specs.Views.{view_ok}
use Rattle.view.specs.declared.View.{View}
use Rattle.draw_collect.specs.Lined.{Lined, bare, read_lined, own_lines}
use Rattle.draw_render.specs.Render.{Places, rendered, rendered_part}
use Rattle.draw_render.specs.Slices.{places_in}
use Rattle.refusals.specs.declared.Refusal.{Refusal}

-- the drawn value at entry i of a scene, each placing with its own inverse
abbrev pub lined_in : Scene → ℕ → Lined
lined_in s = read_lined 8 (own_entry s.numbers s.marks) (own_lines s.marks s.points s.starts s.owners)

-- the drawing of these drawn values, each with its own box
unfoldable pub render : Float → View → Places → (ℕ → Lined) → List ℕ → Result Paths Refusal
render t v w lined ids = rendered t v w lined (λ (i : ℕ). shape_box (bare (lined i))) ids

unfoldable pub drawn_after : Result ℕ Refusal → Result Paths Refusal → Result Paths Refusal
drawn_after (Ok n) a = a
drawn_after (Err k) a = Err k

-- document 02's draw that takes the threshold, t; number 8 is met by the view or by the threshold
unfoldable pub draw_with : Float → Scene → View → Places → Result Paths Refusal
draw_with t s v w = drawn_after (check_of s) (cond (view_ok v && threshold_ok t) (render t v w (lined_in s) (drawn s.marks)) (Err BadView))

-- document 02's draw by default: coarser sheets, with 1e-4
abbrev pub draw_of : Scene → View → Places → Result Paths Refusal
draw_of = draw_with ten_thousandth

-- the draw with the lines of some entries only, `part`, while all drawn entries hide: numbers 2 to 8 and 14 are the whole scene's
unfoldable pub draw_part : Float → Scene → View → Places → List ℕ → Result Paths Refusal
draw_part t s v w part =
    drawn_after (check_of s) (cond (view_ok v && threshold_ok t) (rendered_part t v w (lined_in s) (λ (i : ℕ). shape_box (bare (lined_in s i))) (drawn s.marks) part) (Err BadView))

-- those of the drawn entries number first, first + 1 and so on, `many` of them, as far as there are any
abbrev pub draw_range : Float → Scene → View → Places → ℕ → ℕ → Result Paths Refusal
draw_range t s v w first many = draw_part t s v w (take many (drop first (drawn s.marks)))

-- a draw of the slices that are handed in, in the places of those that are lent: `work` and its starts are eight equal vectors
abbrev pub draw_with_in : Float → List Float → List ℕ → List Float → List ℕ → List ℕ → View → List Float → List ℕ → List Float → List ℕ → List Float → List ℕ → List Float → List ℕ → List ℕ → Result Paths Refusal
draw_with_in t numbers marks points starts owners view out begins work workStarts chopped choppedStarts nodeBoxes nodeMarks order =
    draw_with t (scene_of numbers marks points starts owners) view (places_in (length work / 24 * 3) (length workStarts / 8) chopped choppedStarts nodeBoxes nodeMarks order out begins)

abbrev pub draw_in : List Float → List ℕ → List Float → List ℕ → List ℕ → View → List Float → List ℕ → List Float → List ℕ → List Float → List ℕ → List Float → List ℕ → List ℕ → Result Paths Refusal
draw_in = draw_with_in ten_thousandth

abbrev pub draw_range_in : Float → ℕ → ℕ → List Float → List ℕ → List Float → List ℕ → List ℕ → View → List Float → List ℕ → List Float → List ℕ → List Float → List ℕ → List Float → List ℕ → List ℕ → Result Paths Refusal
draw_range_in t first many numbers marks points starts owners view out begins work workStarts chopped choppedStarts nodeBoxes nodeMarks order =
    draw_range t (scene_of numbers marks points starts owners) view (places_in (length work / 24 * 3) (length workStarts / 8) chopped choppedStarts nodeBoxes nodeMarks order out begins) first many
