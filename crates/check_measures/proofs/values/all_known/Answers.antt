use Rattle.lists.proofs.Tests.{passed_start, passed-turn, passed-fails, passed-end}
use Rattle.check_measures.specs.Values.{known}
use native.Mathlib.Omega.{arith}
use mathlib.Core.Path.{ap, ◌∙◌}
use Rattle.check_measures.proofs.values.all_known.Goals as goal

pub loop-i-init : goal.loop-i-init
loop-i-init c =
    passed_start _ _

pub read_marks-requires : goal.read_marks-requires
read_marks-requires c =
    omega (arith, c.loop-i-test.true)

pub returns-then-not-known : goal.returns-then-not-known
returns-then-not-known c =
    passed-fails _ _ _ c.loop-i.invariant c.loop-i-test.true (c.known.ensures ∙ ap known c.read_marks.ensures) c.if-not-known.true

pub loop-i-preserved : goal.loop-i-preserved
loop-i-preserved c =
    passed-turn _ _ _ c.loop-i.invariant c.loop-i-test.true (c.known.ensures ∙ ap known c.read_marks.ensures) c.if-not-known.false

pub returns : goal.returns
returns c =
    passed-end _ _ _ c.loop-i.invariant c.loop-i-test.false
