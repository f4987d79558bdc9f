use mathlib.Core.Path.{ap}
use mathlib.Core.Bool.{Bool, not}
use native.Mathlib.Omega.{arith}
use lib.Dec.{eqb}
use borrow.Author.Tests.{eq-eqb, ne_eqb}
use Rattle.rows.specs.declared.Marks.{Marks}
use Rattle.lists.proofs.Tests.{passed_start, passed-turn, passed-fails, passed-end}
use Rattle.tree_trust.specs.Trust.{is_uncut}
use Rattle.tree_trust.proofs.uncut.Goals as goal

abbrev whole : Marks → Bool
whole m = not (eqb m.kind 7)

pub loop-i-init : goal.loop-i-init
loop-i-init c =
    passed_start _ _

pub read_marks-m-requires : goal.read_marks-m-requires
read_marks-m-requires c =
    omega (arith, c.loop-i-test.true)

pub returns-then-m-eq7 : goal.returns-then-m-eq7
unfolding is_uncut
returns-then-m-eq7 c =
    passed-fails _ _ _ c.loop-i.invariant c.loop-i-test.true (ap whole c.read_marks-m.ensures) (ap not (eq-eqb c.read_marks-m.result.kind 7 c.if-m-eq7.true))

pub loop-i-preserved : goal.loop-i-preserved
loop-i-preserved c =
    passed-turn _ _ _ c.loop-i.invariant c.loop-i-test.true (ap whole c.read_marks-m.ensures) (ap not (ne_eqb c.read_marks-m.result.kind 7 c.if-m-eq7.false))

pub returns : goal.returns
unfolding is_uncut
returns c =
    passed-end _ _ _ c.loop-i.invariant c.loop-i-test.false
