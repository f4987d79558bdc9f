use Rattle.solids.proofs.cube.enters.Goals as goal

pub returns-then-t0 : goal.returns-then-t0
returns-then-t0 c =
    simp c.if-t0.true

pub returns-else-t0 : goal.returns-else-t0
returns-else-t0 c =
    simp c.if-t0.false
