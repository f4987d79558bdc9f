use Rattle.tree_glance.specs.Glances.{ended_of}
use Rattle.tree_glance.proofs.ended.Goals as goal

pub returns-then-hid : goal.returns-then-hid
unfolding ended_of
returns-then-hid c =
    rw c.if-hid.true

pub returns : goal.returns
unfolding ended_of
returns c =
    rw c.if-hid.false
