use Rattle.check_measures.proofs.measures.sphere_measured.Goals as goal

pub returns-then-within_point : goal.returns-then-within_point
returns-then-within_point c =
    simp (← c.within_point.ensures, c.if-within_point.true, ← c.is_radius.ensures)

pub returns : goal.returns
returns c =
    simp (← c.within_point.ensures, c.if-within_point.false)
