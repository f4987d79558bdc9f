use Rattle.solids.proofs.triangle.in_band.Goals as goal

pub returns-then-det : goal.returns-then-det
returns-then-det c =
    simp c.if-det.true

pub returns-else-det : goal.returns-else-det
returns-else-det c =
    simp c.if-det.false
