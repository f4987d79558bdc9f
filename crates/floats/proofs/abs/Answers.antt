use Rattle.floats.proofs.Tests.{abs-below, abs-zero, abs-above}
use Rattle.floats.proofs.abs.Goals as goal

pub returns-then-x : goal.returns-then-x
returns-then-x c =
    abs-below c.args.x c.if-x.true

pub returns-then-x-2 : goal.returns-then-x-2
returns-then-x-2 c =
    abs-zero c.args.x c.if-x-2.true

pub returns-else-x-2 : goal.returns-else-x-2
returns-else-x-2 c =
    abs-above c.args.x c.if-x.false c.if-x-2.false
