use Rattle.text_forms.proofs.Entries.{round-full, round-enters}
use Rattle.text_heads.specs.Cursors.{WithinNext}
use native.Mathlib.Omega.{arith}
use Rattle.text_forms.proofs.round.Goals as goal

pub returns-then-c-ge512 : goal.returns-then-c-ge512
unfolding WithinNext
returns-then-c-ge512 c =
    let args = c.args in let pre = c.requires in record { owners_after = round-full _ args.c args.h _ _ _ _ _ pre.0 pre.1.marks c.if-c-ge512.true; within_next = tt }

pub push-requires : goal.push-requires
push-requires c =
    let pre = c.requires in (c.if-c-ge512.false, (pre.1.numbers, pre.1.marks))

pub small-requires : goal.small-requires
small-requires c =
    omega (arith, c.if-c-ge512.false)

pub lines_of-requires : goal.lines_of-requires
lines_of-requires c =
    let pre = c.requires in (record { entries = omega (arith, c.if-c-ge512.false); points = pre.0.points; lines = pre.0.lines }, (pre.1.points, (pre.1.starts, pre.1.owners)))

pub returns : goal.returns
returns c =
    let args = c.args in let pre = c.requires in record { owners_after = round-enters _ args.c args.h _ _ _ _ _ pre.0 pre.1.marks pre.1.starts c.if-c-ge512.false _ _ c.push.ensures.numbers_after c.push.ensures.marks_after _ c.small.ensures _ _ _ c.lines_of.result c.lines_of.ensures.owners_after; within_next = c.lines_of.ensures.within_next }
