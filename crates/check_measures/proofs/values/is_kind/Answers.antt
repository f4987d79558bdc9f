use borrow.Author.Tests.{le-leb, lt-leb}
use Rattle.check_measures.specs.Values.{is_kind}
use Rattle.check_measures.proofs.values.is_kind.Goals as goal

pub returns-then-kind-lt1 : goal.returns-then-kind-lt1
unfolding is_kind
returns-then-kind-lt1 c =
    rw (lt-leb 1 c.args.kind c.if-kind-lt1.true)

pub returns : goal.returns
unfolding is_kind
returns c =
    rw (le-leb 1 c.args.kind c.if-kind-lt1.false)
