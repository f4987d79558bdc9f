-- What the call of a pick tells. Assumes nothing.
use mathlib.Core.Path.{◌≡◌, ap, ◌∙◌}
use mathlib.Core.Bool.{Bool}
use mathlib.Core.List.{List}
use Prim.Native.Nat.{ℕ}
use lib.ListN.{length}
use Rattle.geometry.specs.declared.vector.Vector.{Vector}
use Rattle.paths.specs.declared.Range.{Range}
use Rattle.plotter_pens.specs.Pens.{LentDrawing, pick_number, marks_after, Picked}
use Rattle.plotter_pens.specs.declared.Choice.{Choice}
use Rattle.host_plotter.specs.PenCalls.{in_lines, path_told, range_told, PickTold}
use Rattle.std.specs.Prelude.{Option, Result}
use Rattle.refusals.specs.declared.Refusal.{Refusal}

pub pick-told : (yard lines : LentDrawing) (marks : List ℕ) (pen : Vector) (c : Result (Option Choice) Refusal) (after : List ℕ) → Picked yard lines marks pen c after
    → (r : Range) → r ≡ range_told c → (l : Bool) → l ≡ in_lines c → (k : ℕ) → k ≡ path_told c → (n : ℕ) → n ≡ pick_number c
    → PickTold yard lines marks pen n after l k r.from r.end
pick-told yard lines marks pen c after h r er l el k ek n en =
    let told = er ∙ ap range_told h.answer in
    record {
      number_is = en ∙ ap pick_number h.answer;
      marks_are = h.marks_are ∙ ap (marks_after (length yard.starts) marks) h.answer;
      lines_is = el ∙ ap in_lines h.answer;
      path_is = ek ∙ ap path_told h.answer;
      from_is = ap (λ (x : Range). x.from) told;
      end_is = ap (λ (x : Range). x.end) told;
    }
