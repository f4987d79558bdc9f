use Rattle.solids.proofs.triangle.is_beyond.Goals as goal

pub returns-then-v : goal.returns-then-v
returns-then-v c =
    simp c.if-v.true

pub returns-else-v : goal.returns-else-v
returns-else-v c =
    simp c.if-v.false
