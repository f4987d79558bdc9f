use Rattle.scene_shape.specs.Cuts.{from_first}
use Rattle.scene_shape.proofs.from_first.Goals as goal

pub returns-then-h : goal.returns-then-h
unfolding from_first
returns-then-h c =
    rw c.if-h.true

pub returns : goal.returns
unfolding from_first
returns c =
    rw c.if-h.false
