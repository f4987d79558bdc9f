use lib.ListN.{length}
use Prim.Native.Nat.{◌-◌}
use Rattle.rows.specs.Rows.{flat}
use Rattle.paths.specs.Ends.{all_points}
use Rattle.draw_lines.proofs.Owning.{ownLeft}
use Rattle.text_canonical.specs.Canonical.{line_text}
use Rattle.text_drawing.proofs.Adding.{Writing, writing_start}
use Rattle.text_items.proofs.Lines.{lines-turn, lines_end}
use borrow.Author.Rules.{rules}
use Rattle.text_items.proofs.put_lines.Given as goal

abbrev pub invariant-loop-j : goal.invariant-loop-j
invariant-loop-j l = Writing (flat line_text (ownLeft l.i (all_points l.points) l.starts l.owners 0)) l.initial.text l.initial.d l.text l.d (flat line_text (ownLeft l.i (all_points l.points) l.starts l.owners l.j))
