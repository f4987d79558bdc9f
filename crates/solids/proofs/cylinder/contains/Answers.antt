use Rattle.solids.specs.Cylinders.{cylinder_contains}
use Rattle.solids.proofs.cylinder.contains.Goals as goal

pub returns-then-norm-radius : goal.returns-then-norm-radius
unfolding cylinder_contains
returns-then-norm-radius c =
    simp (← c.new-xy.ensures, ← c.norm.ensures, c.if-norm-radius.true)

pub returns-then-v-z0 : goal.returns-then-v-z0
unfolding cylinder_contains
returns-then-v-z0 c =
    simp (← c.new-xy.ensures, ← c.norm.ensures, c.if-norm-radius.false, c.if-v-z0.true)

pub returns-else-v-z0 : goal.returns-else-v-z0
unfolding cylinder_contains
returns-else-v-z0 c =
    simp (← c.new-xy.ensures, ← c.norm.ensures, c.if-norm-radius.false, c.if-v-z0.false)
