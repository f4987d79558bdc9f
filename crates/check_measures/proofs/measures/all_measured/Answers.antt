use Rattle.lists.proofs.Tests.{passed_start, passed-turn, passed-fails, passed-end}
use native.Mathlib.Omega.{arith}
use mathlib.Core.Path.{◌∙◌}
use Rattle.check_measures.proofs.measures.all_measured.Goals as goal

pub loop-i-init : goal.loop-i-init
loop-i-init c =
    passed_start _ _

pub read_marks-m-requires : goal.read_marks-m-requires
read_marks-m-requires c =
    omega (arith, c.loop-i-test.true)

pub read_numbers-requires : goal.read_numbers-requires
read_numbers-requires c =
    let pre = c.requires in omega (arith, c.loop-i-test.true, pre)

pub returns-then-not-measured : goal.returns-then-not-measured
returns-then-not-measured c =
    passed-fails _ _ _ c.loop-i.invariant c.loop-i-test.true (c.measured.ensures ∙ rw (c.read_marks-m.ensures, c.read_numbers.ensures)) c.if-not-measured.true

pub loop-i-preserved : goal.loop-i-preserved
loop-i-preserved c =
    passed-turn _ _ _ c.loop-i.invariant c.loop-i-test.true (c.measured.ensures ∙ rw (c.read_marks-m.ensures, c.read_numbers.ensures)) c.if-not-measured.false

pub returns : goal.returns
returns c =
    passed-end _ _ _ c.loop-i.invariant c.loop-i-test.false
