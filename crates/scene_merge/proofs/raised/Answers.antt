use Rattle.scene_merge.proofs.Raising.{raised-six, raised-seven}
use borrow.Author.Tests.{ne_eqb}
use Rattle.scene_merge.specs.MergedScenes.{raised}
use borrow.Author.Tests.{ne_eqb}
use native.Mathlib.Omega.{arith}
use Rattle.scene_merge.proofs.raised.Goals as goal

pub overflow_add-result : goal.overflow_add-result
overflow_add-result c =
    omega (arith, c.requires.placing c.if-m-eq6.true)

pub returns-then-m-eq6 : goal.returns-then-m-eq6
returns-then-m-eq6 c =
    raised-six _ _ c.if-m-eq6.true

pub overflow_add-result-then-m-eq7 : goal.overflow_add-result-then-m-eq7
overflow_add-result-then-m-eq7 c =
    let pre = c.requires in omega (arith, pre.cut_first c.if-m-eq7.true)

pub overflow_add-result-then-m-eq7-2 : goal.overflow_add-result-then-m-eq7-2
overflow_add-result-then-m-eq7-2 c =
    let pre = c.requires in omega (arith, pre.cut_second c.if-m-eq7.true)

pub returns-then-m-eq7 : goal.returns-then-m-eq7
returns-then-m-eq7 c =
    raised-seven _ _ c.if-m-eq7.true

pub returns : goal.returns
unfolding raised
returns c =
    rw (ne_eqb _ _ c.if-m-eq6.false, ne_eqb _ _ c.if-m-eq7.false)
