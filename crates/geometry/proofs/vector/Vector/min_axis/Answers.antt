use Rattle.geometry.specs.Vectors.{min_axis}
use Rattle.geometry.proofs.vector.Vector.min_axis.Goals as goal

pub returns-then-at_most_both : goal.returns-then-at_most_both
unfolding min_axis
returns-then-at_most_both c =
    simp (← c.abs-m.ensures, ← c.at_most_both.ensures, c.if-at_most_both.true, ← c.new.ensures)

pub returns-then-at_most_both-2 : goal.returns-then-at_most_both-2
unfolding min_axis
returns-then-at_most_both-2 c =
    simp (← c.abs-m.ensures, ← c.at_most_both.ensures, c.if-at_most_both.false, ← c.at_most_both-2.ensures, c.if-at_most_both-2.true, ← c.new-then-at_most_both-2.ensures)

pub returns : goal.returns
unfolding min_axis
returns c =
    simp (← c.abs-m.ensures, ← c.at_most_both.ensures, c.if-at_most_both.false, ← c.at_most_both-2.ensures, c.if-at_most_both-2.false, ← c.new-2.ensures)
