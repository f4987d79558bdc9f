use Rattle.draw_arcs.specs.Stances.{placed_args}
use Rattle.draw_arcs.proofs.placed_args.Goals as goal

pub returns : goal.returns
unfolding placed_args
returns c =
    simp (← c.mul.ensures, ← c.mul_position.ensures)
