use Rattle.floats.specs.Numbers.{min_of}
use Rattle.floats.proofs.Tests.{picked-nan, picked-number}
use Rattle.floats.proofs.min.Goals as goal

pub returns-then-m : goal.returns-then-m
unfolding min_of
returns-then-m c =
    picked-nan _ _ _ _ c.lesser-m.ensures c.if-m.true

pub returns-else-m : goal.returns-else-m
unfolding min_of
returns-else-m c =
    picked-number _ _ _ _ c.lesser-m.ensures c.if-m.false
