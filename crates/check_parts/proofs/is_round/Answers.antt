use Rattle.check_parts.specs.Owners.{is_round}
use borrow.Author.Tests.{eq-eqb, ne_eqb, le-leb, lt-leb}
use Rattle.check_parts.proofs.is_round.Goals as goal

pub returns-then-kind-eq8 : goal.returns-then-kind-eq8
unfolding is_round
returns-then-kind-eq8 c =
    rw (eq-eqb _ _ c.if-kind-eq8.true)

pub returns-then-kind-eq9 : goal.returns-then-kind-eq9
unfolding is_round
returns-then-kind-eq9 c =
    rw (ne_eqb _ _ c.if-kind-eq8.false, eq-eqb _ _ c.if-kind-eq9.true)

pub returns-then-kind-lt1 : goal.returns-then-kind-lt1
unfolding is_round
returns-then-kind-lt1 c =
    rw (ne_eqb _ _ c.if-kind-eq8.false, ne_eqb _ _ c.if-kind-eq9.false, lt-leb 1 c.args.kind c.if-kind-lt1.true)

pub returns : goal.returns
unfolding is_round
returns c =
    rw (ne_eqb _ _ c.if-kind-eq8.false, ne_eqb _ _ c.if-kind-eq9.false, le-leb 1 c.args.kind c.if-kind-lt1.false)
