use borrow.Author.Tests.{eq-eqb, ne_eqb}
use Rattle.draw_clip.proofs.is_inner.Goals as goal

pub returns-then-i-from : goal.returns-then-i-from
returns-then-i-from c =
    rw (eq-eqb _ _ c.if-i-from.true)

pub returns : goal.returns
returns c =
    rw (ne_eqb _ _ c.if-i-from.false)
