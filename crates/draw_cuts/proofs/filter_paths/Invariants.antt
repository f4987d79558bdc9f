use Rattle.paths.proofs.Stages.{Staging}
use Rattle.scene_shape.specs.Shapes.{decode}
use Rattle.path_filter.specs.Filter.{path_filter}
use Rattle.draw_cuts.specs.Cuts.{cut_filter}
use Rattle.draw_cuts.proofs.filter_paths.Given as goal

abbrev pub invariant-loop-i : goal.invariant-loop-i
invariant-loop-i l = Staging (path_filter (cut_filter (decode l.depth l.numbers l.inverses l.marks l.k))) l.path l.starts l.initial.out l.initial.begins l.out l.begins l.i l.n l.m
