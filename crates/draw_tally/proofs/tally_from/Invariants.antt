use Rattle.draw_clip.specs.Clip.{clip_filter, seen_from}
use Rattle.draw_tally.proofs.Turning.{Tallying}
use Rattle.draw_tally.proofs.tally_from.Given as goal

abbrev pub invariant-loop-i : goal.invariant-loop-i
invariant-loop-i l = Tallying (clip_filter l.sheet.matrix (seen_from l.sheet.numbers.now l.sheet.inverses.now l.sheet.marks.now l.sheet.node_boxes.now l.sheet.node_marks.now l.sheet.order.now l.sheet.eye)) l.room l.begins l.path l.from l.end l.n l.m l.n l.i l.a l.b l.o
