use Rattle.path_simplify.specs.Simplify.{path_simplify}
use Rattle.paths.proofs.Stages.{Staging}
use Rattle.paths.specs.Paths.{one_path}
use Rattle.path_simplify.proofs.simplify_paths.Given as goal

abbrev pub invariant-loop-i : goal.invariant-loop-i
invariant-loop-i l = Staging (one_path (path_simplify l.threshold)) l.path l.starts l.initial.out l.initial.begins l.out l.begins l.i l.n l.m
