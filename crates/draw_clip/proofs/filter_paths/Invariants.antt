use Rattle.paths.proofs.Stages.{Staging}
use Rattle.path_filter.specs.Filter.{path_filter}
use Rattle.draw_clip.specs.Clip.{clip_filter, seen_from, FilterReady}
use Rattle.draw_clip.proofs.filter_paths.Given as goal

abbrev pub invariant-loop-i : goal.invariant-loop-i
invariant-loop-i l = Staging (path_filter (clip_filter l.fn.matrix (seen_from l.numbers l.inverses l.marks l.node_boxes l.node_marks l.order l.fn.eye))) l.path l.starts l.initial.out l.initial.begins l.out l.begins l.i l.n l.m
    × FilterReady l.fn.matrix l.numbers l.inverses l.marks l.node_boxes l.node_marks l.order l.fn.eye l.sheet.trusted l.sheet.calm l.memory.ends l.memory.known l.memory.cover l.memory.stack
