use Rattle.solids.specs.Cubes.{outside}
use Rattle.solids.proofs.cube.is_outside.Goals as goal

pub returns-then-x-low : goal.returns-then-x-low
unfolding outside
returns-then-x-low c =
    simp c.if-x-low.true

pub returns-else-x-low : goal.returns-else-x-low
unfolding outside
returns-else-x-low c =
    simp c.if-x-low.false
