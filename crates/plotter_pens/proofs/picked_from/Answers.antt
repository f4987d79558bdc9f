use Rattle.plotter_pens.proofs.Answers.{from-yard, from-lines}
use Rattle.plotter_pens.specs.Pens.{picked_from}
use native.Mathlib.Omega.{arith}
use Rattle.plotter_pens.proofs.picked_from.Goals as goal

pub returns-in_default : goal.returns-in_default
unfolding picked_from
returns-in_default c =
    rw c.in_default.is

pub returns-then-k-yard_starts : goal.returns-then-k-yard_starts
returns-then-k-yard_starts c =
    rw c.in-Some.is (from-yard _ _ c.in-Some.b c.if-k-yard_starts.true _ c.range_of.ensures)

pub range_of-requires-2 : goal.range_of-requires-2
range_of-requires-2 c =
    let pre = c.requires in omega (arith, pre _ c.in-Some.is, c.if-k-yard_starts.false)

pub returns : goal.returns
returns c =
    rw c.in-Some.is (from-lines _ _ c.in-Some.b c.if-k-yard_starts.false _ c.range_of-2.ensures)
