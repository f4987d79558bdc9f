use Rattle.check_measures.specs.Measures.{exceeds}
use Rattle.check_measures.proofs.measures.exceeds.Goals as goal

pub returns-then-b-a : goal.returns-then-b-a
unfolding exceeds
returns-then-b-a c =
    simp c.if-b-a.true

pub returns-then-b-a-2 : goal.returns-then-b-a-2
unfolding exceeds
returns-then-b-a-2 c =
    simp (c.if-b-a.false, c.if-b-a-2.true)

pub returns : goal.returns
unfolding exceeds
returns c =
    rw (c.if-b-a.false, c.if-b-a-2.false)
