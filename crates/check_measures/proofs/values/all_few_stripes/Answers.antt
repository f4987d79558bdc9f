use Rattle.lists.proofs.Tests.{passed_start, passed-turn, passed-fails, passed-end}
use Rattle.check_measures.specs.Values.{few_stripes}
use native.Mathlib.Omega.{arith}
use mathlib.Core.Path.{ap, ◌∙◌}
use Rattle.check_measures.proofs.values.all_few_stripes.Goals as goal

pub loop-i-init : goal.loop-i-init
loop-i-init c =
    passed_start _ _

pub read_marks-requires : goal.read_marks-requires
read_marks-requires c =
    omega (arith, c.loop-i-test.true)

pub returns-then-not-few_stripes : goal.returns-then-not-few_stripes
returns-then-not-few_stripes c =
    passed-fails _ _ _ c.loop-i.invariant c.loop-i-test.true (c.few_stripes.ensures ∙ ap few_stripes c.read_marks.ensures) c.if-not-few_stripes.true

pub loop-i-preserved : goal.loop-i-preserved
loop-i-preserved c =
    passed-turn _ _ _ c.loop-i.invariant c.loop-i-test.true (c.few_stripes.ensures ∙ ap few_stripes c.read_marks.ensures) c.if-not-few_stripes.false

pub returns : goal.returns
returns c =
    passed-end _ _ _ c.loop-i.invariant c.loop-i-test.false
