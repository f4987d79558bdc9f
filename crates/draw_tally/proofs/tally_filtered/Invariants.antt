use Rattle.draw_clip.specs.Clip.{clip_filter, seen_from}
use Rattle.draw_tally.specs.Tallies.{filter_tally}
use Rattle.draw_tally.proofs.Turning.{Counting}
use Rattle.draw_tally.proofs.tally_filtered.Given as goal

abbrev pub invariant-loop-i : goal.invariant-loop-i
invariant-loop-i l = Counting (filter_tally (clip_filter l.fn.matrix (seen_from l.numbers l.inverses l.marks l.node_boxes l.node_marks l.order l.fn.eye)) l.room l.begins) l.room l.path l.starts l.i l.n l.m
