use Rattle.tree_split.specs.Build.{axis_of}
use Rattle.tree_split.proofs.longest_axis.Goals as goal

pub returns-then-x-z : goal.returns-then-x-z
unfolding axis_of
returns-then-x-z c =
    simp (c.if-x-y.true, c.if-x-z.true)

pub returns-then-y-z : goal.returns-then-y-z
unfolding axis_of
returns-then-y-z c =
    simp (c.if-x-y.true, c.if-x-z.false, c.if-y-z.true)

pub returns-then-x-y : goal.returns-then-x-y
unfolding axis_of
returns-then-x-y c =
    simp (c.if-x-y.true, c.if-x-z.false, c.if-y-z.false)

pub returns-then-y-z-2 : goal.returns-then-y-z-2
unfolding axis_of
returns-then-y-z-2 c =
    simp (c.if-x-y.false, c.if-y-z-2.true)

pub returns-else-y-z-2 : goal.returns-else-y-z-2
unfolding axis_of
returns-else-y-z-2 c =
    simp (c.if-x-y.false, c.if-y-z-2.false)
