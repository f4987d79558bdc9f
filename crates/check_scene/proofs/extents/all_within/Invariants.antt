use Rattle.check_scene.proofs.Filling.{Filling}
use Rattle.check_scene.specs.Extents.{own_box}
use Rattle.limits.specs.Limits.{within_box}
use Rattle.rows.specs.Points.{box_of_row}
use Prim.Native.Nat.{◌-◌}
use Rattle.check_scene.proofs.extents.all_within.Given as goal

abbrev pub invariant-loop-i : goal.invariant-loop-i
invariant-loop-i l = Filling 6 box_of_row (own_box l.numbers l.marks) (λ k. within_box (own_box l.numbers l.marks k)) l.n l.initial.boxes l.boxes l.i
