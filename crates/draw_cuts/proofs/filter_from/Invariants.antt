use Rattle.path_filter.proofs.Filtering.{Filtering}
use Rattle.scene_shape.specs.Shapes.{decode}
use Rattle.draw_cuts.specs.Cuts.{cut_filter}
use Rattle.draw_cuts.proofs.filter_from.Given as goal

abbrev pub invariant-loop-i : goal.invariant-loop-i
invariant-loop-i l = Filtering (cut_filter (decode l.cut.depth l.cut.numbers.now l.cut.inverses.now l.cut.marks.now l.cut.k)) l.path l.initial.out l.initial.begins l.from l.end l.n l.m l.out l.begins l.i l.a l.b
