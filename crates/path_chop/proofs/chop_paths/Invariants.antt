use Rattle.path_chop.specs.Chop.{most_halvings, path_chop}
use Rattle.paths.proofs.Stages.{Staging}
use Rattle.paths.specs.Paths.{one_path}
use Rattle.path_chop.proofs.chop_paths.Given as goal

abbrev pub invariant-loop-i : goal.invariant-loop-i
invariant-loop-i l = Staging (one_path (path_chop most_halvings l.s)) l.path l.starts l.initial.out l.initial.begins l.out l.begins l.i l.n l.m
