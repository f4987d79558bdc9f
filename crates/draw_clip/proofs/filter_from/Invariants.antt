use Rattle.path_filter.proofs.Filtering.{Filtering}
use Rattle.draw_clip.specs.Clip.{clip_filter, seen_from, FilterReady}
use Rattle.draw_clip.proofs.filter_from.Given as goal

abbrev pub invariant-loop-i : goal.invariant-loop-i
invariant-loop-i l = Filtering (clip_filter l.sheet.matrix (seen_from l.sheet.numbers.now l.sheet.inverses.now l.sheet.marks.now l.sheet.node_boxes.now l.sheet.node_marks.now l.sheet.order.now l.sheet.eye)) l.path l.initial.out l.initial.begins l.from l.end l.n l.m l.out l.begins l.i l.a l.b
    × FilterReady l.sheet.matrix l.sheet.numbers.now l.sheet.inverses.now l.sheet.marks.now l.sheet.node_boxes.now l.sheet.node_marks.now l.sheet.order.now l.sheet.eye l.sheet.trusted l.sheet.calm l.memory.ends l.memory.known l.memory.cover l.memory.stack
