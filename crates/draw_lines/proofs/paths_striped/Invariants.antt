use Rattle.draw_lines.proofs.Adding.{Adding}
use Rattle.draw_lines.proofs.Stripes.{stripes_left}
use Rattle.draw_lines.specs.Cubes.{paths_striped}
use Prim.Native.Nat.{◌≤◌}
use Rattle.draw_lines.proofs.paths_striped.Given as goal

abbrev pub invariant-loop-i : goal.invariant-loop-i
invariant-loop-i l = Adding (paths_striped l.min l.max l.stripes) l.initial.out l.initial.begins l.n l.m (stripes_left l.min l.max l.stripes l.i) l.out l.begins l.p l.q × (l.i ≤ l.stripes)
