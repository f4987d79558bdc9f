use Rattle.solids.specs.Cubes.{cube_contains}
use Rattle.solids.proofs.cube.contains.Goals as goal

pub returns-then-is_outside : goal.returns-then-is_outside
unfolding cube_contains
returns-then-is_outside c =
    simp (← c.is_outside.ensures, c.if-is_outside.true)

pub returns-then-is_outside-2 : goal.returns-then-is_outside-2
unfolding cube_contains
returns-then-is_outside-2 c =
    simp (← c.is_outside.ensures, c.if-is_outside.false, ← c.is_outside-2.ensures, c.if-is_outside-2.true)

pub returns-then-is_outside-3 : goal.returns-then-is_outside-3
unfolding cube_contains
returns-then-is_outside-3 c =
    simp (← c.is_outside.ensures, c.if-is_outside.false, ← c.is_outside-2.ensures, c.if-is_outside-2.false, ← c.is_outside-3.ensures, c.if-is_outside-3.true)

pub returns : goal.returns
unfolding cube_contains
returns c =
    simp (← c.is_outside.ensures, c.if-is_outside.false, ← c.is_outside-2.ensures, c.if-is_outside-2.false, ← c.is_outside-3.ensures, c.if-is_outside-3.false)
