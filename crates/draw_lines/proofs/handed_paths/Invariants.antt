use Rattle.draw_lines.proofs.Adding.{Adding}
use Rattle.draw_lines.proofs.Owning.{ownLeft}
use Rattle.draw_lines.specs.Lines.{own_paths}
use Rattle.paths.specs.Paths.{paths_of}
use Rattle.paths.specs.Ends.{all_points}
use Rattle.draw_lines.proofs.handed_paths.Given as goal

abbrev pub invariant-loop-j : goal.invariant-loop-j
invariant-loop-j l = Adding (own_paths l.i (paths_of (all_points l.points) l.starts) l.owners) l.initial.out l.initial.begins l.n l.m (ownLeft l.i (all_points l.points) l.starts l.owners l.j) l.out l.begins l.p l.q
