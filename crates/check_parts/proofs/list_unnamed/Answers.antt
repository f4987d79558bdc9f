use native.Mathlib.Omega.{arith}
use Rattle.check_parts.proofs.Drawn.{listed_start, listed-skip, listed-put, listed-end}
use Rattle.check_parts.proofs.list_unnamed.Goals as goal

pub loop-i-init : goal.loop-i-init
loop-i-init c =
    listed_start _ _ _

pub bounds-named-i : goal.bounds-named-i
bounds-named-i c =
    omega (arith, c.loop-i-test.true, c.requires.0)

pub loop-i-preserved-then-named-i-ne0 : goal.loop-i-preserved-then-named-i-ne0
loop-i-preserved-then-named-i-ne0 c =
    listed-skip _ _ _ _ _ _ c.loop-i.invariant c.loop-i-test.true c.if-named-i-ne0.true

pub overflow_cast-drawn : goal.overflow_cast-drawn
overflow_cast-drawn c =
    let pre = c.requires in omega (arith, c.loop-i-test.true, pre.1.1)

pub bounds-drawn-d : goal.bounds-drawn-d
bounds-drawn-d c =
    let pre = c.requires in omega (arith, c.loop-i-test.true, pre.1.0, c.loop-i.invariant.few, c.loop-i.invariant.same)

pub overflow_add-d : goal.overflow_add-d
overflow_add-d c =
    let pre = c.requires in omega (arith, c.loop-i-test.true, pre.1.1, c.loop-i.invariant.few)

pub loop-i-preserved : goal.loop-i-preserved
loop-i-preserved c =
    let pre = c.requires in listed-put _ _ _ _ _ _ c.loop-i.invariant c.loop-i-test.true pre.1.0 c.if-named-i-ne0.false

pub shape_of-drawn : goal.shape_of-drawn
shape_of-drawn c =
    c.loop-i.invariant.same

pub returns : goal.returns
returns c =
    record { value = (listed-end _ _ _ _ _ _ c.loop-i.invariant c.requires.1.0 c.loop-i-test.false).0; drawn_after = (listed-end _ _ _ _ _ _ c.loop-i.invariant c.requires.1.0 c.loop-i-test.false).1 }
