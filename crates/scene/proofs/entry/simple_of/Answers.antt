use borrow.Author.Tests.{eq-eqb, ne_eqb}
use Rattle.scene.specs.Entries.{simple_of, closed_of}
use Rattle.scene.proofs.entry.simple_of.Goals as goal

pub returns-then-kind-eq1 : goal.returns-then-kind-eq1
unfolding simple_of closed_of
returns-then-kind-eq1 c =
    simp (← c.new-a.ensures, ← c.new-b.ensures, ← c.new-c.ensures, eq-eqb _ _ c.if-kind-eq1.true)

pub returns-then-kind-eq2 : goal.returns-then-kind-eq2
unfolding simple_of closed_of
returns-then-kind-eq2 c =
    simp (← c.new-a.ensures, ← c.new-b.ensures, ← c.new-c.ensures, ne_eqb _ _ c.if-kind-eq1.false, eq-eqb _ _ c.if-kind-eq2.true)

pub returns-then-kind-eq3 : goal.returns-then-kind-eq3
unfolding simple_of closed_of
returns-then-kind-eq3 c =
    simp (← c.new-a.ensures, ← c.new-b.ensures, ← c.new-c.ensures, ne_eqb _ _ c.if-kind-eq1.false, ne_eqb _ _ c.if-kind-eq2.false, eq-eqb _ _ c.if-kind-eq3.true)

pub returns-then-kind-eq4 : goal.returns-then-kind-eq4
unfolding simple_of closed_of
returns-then-kind-eq4 c =
    simp (← c.new-a.ensures, ← c.new-b.ensures, ← c.new-c.ensures, ne_eqb _ _ c.if-kind-eq1.false, ne_eqb _ _ c.if-kind-eq2.false, ne_eqb _ _ c.if-kind-eq3.false, eq-eqb _ _ c.if-kind-eq4.true)

pub returns-then-kind-eq5 : goal.returns-then-kind-eq5
unfolding simple_of closed_of
returns-then-kind-eq5 c =
    simp (← c.new-a.ensures, ← c.new-b.ensures, ← c.new-c.ensures, ne_eqb _ _ c.if-kind-eq1.false, ne_eqb _ _ c.if-kind-eq2.false, ne_eqb _ _ c.if-kind-eq3.false, ne_eqb _ _ c.if-kind-eq4.false, eq-eqb _ _ c.if-kind-eq5.true)

pub returns-then-kind-eq8 : goal.returns-then-kind-eq8
unfolding simple_of closed_of
returns-then-kind-eq8 c =
    simp (← c.new-a.ensures, ← c.new-b.ensures, ← c.new-c.ensures, ne_eqb _ _ c.if-kind-eq1.false, ne_eqb _ _ c.if-kind-eq2.false, ne_eqb _ _ c.if-kind-eq3.false, ne_eqb _ _ c.if-kind-eq4.false, ne_eqb _ _ c.if-kind-eq5.false, eq-eqb _ _ c.if-kind-eq8.true)

pub returns-then-kind-eq9 : goal.returns-then-kind-eq9
unfolding simple_of closed_of
returns-then-kind-eq9 c =
    simp (← c.new-a.ensures, ← c.new-b.ensures, ← c.new-c.ensures, ne_eqb _ _ c.if-kind-eq1.false, ne_eqb _ _ c.if-kind-eq2.false, ne_eqb _ _ c.if-kind-eq3.false, ne_eqb _ _ c.if-kind-eq4.false, ne_eqb _ _ c.if-kind-eq5.false, ne_eqb _ _ c.if-kind-eq8.false, eq-eqb _ _ c.if-kind-eq9.true)

pub returns-else-kind-eq9 : goal.returns-else-kind-eq9
unfolding simple_of closed_of
returns-else-kind-eq9 c =
    simp (← c.new-a.ensures, ← c.new-b.ensures, ← c.new-c.ensures, ne_eqb _ _ c.if-kind-eq1.false, ne_eqb _ _ c.if-kind-eq2.false, ne_eqb _ _ c.if-kind-eq3.false, ne_eqb _ _ c.if-kind-eq4.false, ne_eqb _ _ c.if-kind-eq5.false, ne_eqb _ _ c.if-kind-eq8.false, ne_eqb _ _ c.if-kind-eq9.false)
