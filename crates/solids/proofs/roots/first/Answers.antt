use Rattle.solids.specs.Roots.{first_hit}
use Rattle.solids.proofs.roots.first.Goals as goal

pub returns-then-near : goal.returns-then-near
unfolding first_hit
returns-then-near c =
    simp (c.if-near.true, ← c.new.ensures)

pub returns-then-far : goal.returns-then-far
unfolding first_hit
returns-then-far c =
    simp (c.if-near.false, c.if-far.true, ← c.new-then-far.ensures)

pub returns : goal.returns
unfolding first_hit
returns c =
    simp (c.if-near.false, c.if-far.false, ← c.no_hit.ensures)
