-- The outline of one solid as a call of its own, for a host that compares or hands in what step 1 of a draw adds.
use Rattle.std.specs.Prelude.{cond, List, ℕ, ◌/◌, ◌%◌, ltb, eqb, length, Float, Err, None, Option, Result, Some}
use Rattle.geometry.specs.declared.vector.Vector.{Vector}
use Rattle.matrix.specs.declared.Matrix.{Matrix}
use Rattle.refusals.specs.declared.Refusal.TheVariants.{Lengths, Values, Parts, View as BadView}
use Rattle.rows.specs.Rows.{view}
use Rattle.rows.specs.Entries.{numbers_of}
use Rattle.scene.specs.Entries.{matrix_of}
use Rattle.paths.specs.Paths.{Paths, no_paths}
use Rattle.view.specs.Views.{view_ok, args_of}
use Rattle.view.specs.declared.View.{View}
use Rattle.view.specs.declared.RenderArgs.{RenderArgs}
use Rattle.path_chop.specs.Chop.{screen_of}
use Rattle.draw_lines.specs.Pushing.{add_paths}
use Rattle.draw_arcs.specs.Stances.{Placement}
use Rattle.draw_outlines.specs.Outlines.{outline_of}
use Rattle.refusals.specs.declared.Refusal.{Refusal}
use Rattle.solids.specs.declared.solid.Solid.{Solid}

-- the first n matrices of a slice, 16 numbers each by rows
abbrev pub matrices_in : ℕ → List Float → List Matrix
matrices_in n xs = view 16 (λ (r : List Float). matrix_of (numbers_of r)) n xs

-- by the eye in the solid's own coordinates and its placings, innermost first
unfoldable pub placement_at : RenderArgs → Vector → List Matrix → Placement
placement_at a eye ms = record { args = record { screen = a.screen; eye = eye; width = a.width; height = a.height; step = a.step }; screen = screen_of a; placings = ms }

-- 3 where it is no solid, 4 where more than 7 placings would nest it deeper than 8, 8 for the view, then 13
unfoldable pub outline_at : Option Solid → Vector → List Matrix → View → ℕ → ℕ → Result Paths Refusal
outline_at (Some s) eye ms v room startRoom =
    cond (ltb 7 (length ms)) (Err Parts)
    (cond (view_ok v) (add_paths room startRoom (outline_of (placement_at (args_of v) eye ms) s) no_paths) (Err BadView))
outline_at None eye ms v room startRoom = Err Values

-- 2 where the placings' numbers are no whole matrices
unfoldable pub outline_call : Option Solid → Vector → List Float → View → ℕ → ℕ → Result Paths Refusal
outline_call s eye xs v room startRoom = cond (eqb (length xs % 16) 0) (outline_at s eye (matrices_in (length xs / 16) xs) v room startRoom) (Err Lengths)
