use Rattle.draw_clip.proofs.trusts.Goals as goal

pub returns-then-trusted : goal.returns-then-trusted
returns-then-trusted c =
    simp (← c.trusted.ensures, c.if-trusted.true, ← c.within_point.ensures)

pub returns : goal.returns
returns c =
    simp (← c.trusted.ensures, c.if-trusted.false)
