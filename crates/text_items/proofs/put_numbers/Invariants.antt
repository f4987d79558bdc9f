use lib.ListN.{length, drop}
use lib.Ieee.{nan}
use Prim.Native.Nat.{◌-◌}
use Rattle.rows.specs.Rows.{flat}
use Rattle.text_canonical.specs.Canonical.{hex_text}
use Rattle.text_drawing.proofs.Adding.{Writing, writing_start}
use Rattle.text_items.proofs.Items.{items-turn, items-end}
use borrow.Author.Rules.{rules}
use Rattle.text_items.proofs.put_numbers.Given as goal

abbrev pub invariant-loop-i : goal.invariant-loop-i
invariant-loop-i l = Writing (flat hex_text l.xs) l.initial.text l.initial.d l.text l.d (flat hex_text (drop l.i l.xs))
