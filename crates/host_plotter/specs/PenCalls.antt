-- What the call of a pick tells of each case of the core's answer.
use Rattle.std.specs.Prelude.{◌≡◌, Bool, true, false, List, ℕ, length, Err, None, Ok, Option, Result, Some}
use Rattle.geometry.specs.declared.vector.Vector.{Vector}
use Rattle.paths.specs.declared.Range.{Range}
use Rattle.plotter_pens.specs.Pens.{LentDrawing, pick_of, pick_number, marks_after}
use Rattle.plotter_pens.specs.declared.Choice.{Choice}
use Rattle.plotter_pens.specs.declared.Choice.TheVariants.{Yard, Lines}
use Rattle.refusals.specs.declared.Refusal.{Refusal}

-- whether the path is one of the dimension lines
unfoldable pub in_lines : Result (Option Choice) Refusal → Bool
in_lines (Ok (Some (Yard k r))) = false
in_lines (Ok (Some (Lines k r))) = true
in_lines (Ok None) = false
in_lines (Err x) = false

-- its place among the paths of its drawing
unfoldable pub path_told : Result (Option Choice) Refusal → ℕ
path_told (Ok (Some (Yard k r))) = k
path_told (Ok (Some (Lines k r))) = k
path_told (Ok None) = 0
path_told (Err x) = 0

-- where it lies among the points of its drawing
unfoldable pub range_told : Result (Option Choice) Refusal → Range
range_told (Ok (Some (Yard k r))) = r
range_told (Ok (Some (Lines k r))) = r
range_told (Ok None) = record { from = 0; end = 0 }
range_told (Err x) = record { from = 0; end = 0 }

-- what the call answers and leaves
pub record PickTold (yard lines : LentDrawing) (marks : List ℕ) (pen : Vector) (number : ℕ) (after : List ℕ) (ofLines : Bool) (path from end : ℕ) : Type 0 where
  pub number_is : number ≡ pick_number (pick_of yard lines marks pen)
  pub marks_are : after ≡ marks_after (length yard.starts) marks (pick_of yard lines marks pen)
  pub lines_is : ofLines ≡ in_lines (pick_of yard lines marks pen)
  pub path_is : path ≡ path_told (pick_of yard lines marks pen)
  pub from_is : from ≡ (range_told (pick_of yard lines marks pen)).from
  pub end_is : end ≡ (range_told (pick_of yard lines marks pen)).end
