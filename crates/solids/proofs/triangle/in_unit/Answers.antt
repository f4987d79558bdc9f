use Rattle.solids.proofs.triangle.in_unit.Goals as goal

pub returns-then-u : goal.returns-then-u
returns-then-u c =
    simp c.if-u.true

pub returns-else-u : goal.returns-else-u
returns-else-u c =
    simp c.if-u.false
