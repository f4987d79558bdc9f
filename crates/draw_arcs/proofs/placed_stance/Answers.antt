use Rattle.draw_arcs.specs.Stances.{placed_part}
use Rattle.draw_arcs.proofs.placed_stance.Goals as goal

pub returns : goal.returns
unfolding placed_part
returns c =
    (simp (← c.placed_args.ensures, c.with.ensures.0), c.with.ensures.1, c.with.ensures.2)
