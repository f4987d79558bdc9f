-- The lines that a draw puts to step 4: its steps 1 and 2 on some of the drawn entries.
use Rattle.std.specs.Prelude.{cond, List, ℕ, ◌*◌, ◌/◌, length, take, drop, Float, Err, Result}
use Rattle.refusals.specs.declared.Refusal.TheVariants.{View as BadView}
use Rattle.check_parts.specs.Drawn.{drawn}
use Rattle.check_scene.specs.Checks.{check_of}
use Rattle.scene.specs.Scenes.{Scene, scene_of}
use Rattle.paths.specs.Answers.{next}
use Rattle.paths.specs.Paths.{Paths, no_paths}
use Rattle.path_copy.specs.Copies.{copied_paths}
use Rattle.view.specs.Views.{view_ok, args_of}
use Rattle.view.specs.declared.View.{View}
use Rattle.draw_collect.specs.Lined.{Lined}
use Rattle.draw_collect.specs.Collect.{LineRoom, chopped_lines, collected_all}
use Rattle.draw_collect.specs.Slices.{room_of}
use Rattle.draw_render.specs.Render.{stepping}
use Rattle.draw.specs.Draw.{lined_in, drawn_after}
use Rattle.refusals.specs.declared.Refusal.{Refusal}

-- step 2: a chop where the step is above 0; at step 0 the lines are copied, as a draw puts them as they are
unfoldable pub chopped_or_copied : View → ℕ → ℕ → Paths → Result Paths Refusal
chopped_or_copied v room startRoom p = cond (stepping v) (chopped_lines (args_of v) room startRoom p) (copied_paths room startRoom p)

-- steps 1 and 2 on the lines of some solids, `part`
unfoldable pub lines_in_room : View → LineRoom → (ℕ → Lined) → List ℕ → Result Paths Refusal
lines_in_room v w lined part = next (collected_all (args_of v) w lined part no_paths) (chopped_or_copied v w.chopped w.begins)

-- the call: numbers 2 to 8 and 14 are the whole scene's, and then the lines of some entries
unfoldable pub entry_lines : Scene → View → LineRoom → List ℕ → Result Paths Refusal
entry_lines s v w part = drawn_after (check_of s) (cond (view_ok v) (lines_in_room v w (lined_in s) part) (Err BadView))

-- those of the drawn entries number first, first + 1 and so on, `many` of them as far as there are any, of the slices that are handed in, in the places of those that are lent
abbrev pub entry_lines_in : ℕ → ℕ → List Float → List ℕ → List Float → List ℕ → List ℕ → View → List Float → List ℕ → List Float → List ℕ → Result Paths Refusal
entry_lines_in first many numbers marks points starts owners view out begins work workStarts =
    entry_lines (scene_of numbers marks points starts owners) view (room_of (length work / 24 * 3) (length workStarts / 8) out begins) (take many (drop first (drawn marks)))
