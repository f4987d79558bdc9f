use Rattle.text_forms.proofs.Entries.{enclose-open, enclose-full, enclose-enters}
use Rattle.text_heads.specs.Cursors.{WithinNext}
use native.Mathlib.Omega.{arith}
use Rattle.text_forms.proofs.enclose.Goals as goal

pub returns-in_err-at : goal.returns-in_err-at
unfolding WithinNext
returns-in_err-at c =
    let args = c.args in let pre = c.requires in record { os_after = λ ps ss os. rw c.from_residual.ensures (enclose-open _ args.c args.h _ _ _ _ pre.1.1 ps ss os c.close_at.ensures c.in_err-at.was); within_next = rw c.from_residual.ensures tt }

pub returns-then-c-ge512 : goal.returns-then-c-ge512
unfolding WithinNext
returns-then-c-ge512 c =
    let args = c.args in let pre = c.requires in record { os_after = λ ps ss os. enclose-full _ args.c args.h _ _ _ _ pre.1.1 ps ss os c.close_at.ensures c.in_ok-at.was pre.0 c.if-c-ge512.true; within_next = tt }

pub push-requires : goal.push-requires
push-requires c =
    let pre = c.requires in (c.if-c-ge512.false, (pre.1.0, pre.1.1))

pub returns : goal.returns
unfolding WithinNext
returns c =
    let args = c.args in let pre = c.requires in record { os_after = λ ps ss os. enclose-enters _ args.c args.h _ _ _ _ pre.1.1 ps ss os c.close_at.ensures c.in_ok-at.was _ _ c.if-c-ge512.false c.push.ensures.numbers_after c.push.ensures.marks_after; within_next = record { entries = omega (arith, c.if-c-ge512.false); points = pre.0.points; lines = pre.0.lines } }
