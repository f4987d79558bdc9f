use mathlib.Core.Path.{◌≡◌}
use lib.ListN.{length}
use Rattle.draw_tally.specs.Tallies.{simplify_tally}
use Rattle.draw_tally.proofs.Turning.{Counting}
use Rattle.draw_tally.proofs.tally_simplified.Given as goal

abbrev pub invariant-loop-i : goal.invariant-loop-i
invariant-loop-i l = (length l.spare ≡ length l.initial.spare) × Counting (simplify_tally l.threshold l.room l.begins) l.room l.path l.starts l.i l.n l.m
