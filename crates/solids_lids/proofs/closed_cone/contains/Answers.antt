use Rattle.solids_lids.specs.Closed.{closed_cone_contains}
use Rattle.solids_lids.proofs.closed_cone.contains.Goals as goal

pub returns-then-v-height : goal.returns-then-v-height
unfolding closed_cone_contains
returns-then-v-height c =
    rw (c.if-f-v.true, c.if-v-height.true, ← c.new-xy.ensures, ← c.norm.ensures)

pub returns-else-v-height : goal.returns-else-v-height
unfolding closed_cone_contains
returns-else-v-height c =
    simp (c.if-f-v.true, c.if-v-height.false)

pub returns-else-f-v : goal.returns-else-f-v
unfolding closed_cone_contains
returns-else-f-v c =
    simp c.if-f-v.false
