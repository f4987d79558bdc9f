use Rattle.floats.specs.Numbers.{max_of}
use Rattle.floats.proofs.Tests.{picked-nan, picked-number}
use Rattle.floats.proofs.max.Goals as goal

pub returns-then-m : goal.returns-then-m
unfolding max_of
returns-then-m c =
    picked-nan _ _ _ _ c.greater-m.ensures c.if-m.true

pub returns-else-m : goal.returns-else-m
unfolding max_of
returns-else-m c =
    picked-number _ _ _ _ c.greater-m.ensures c.if-m.false
