use borrow.Author.Tests.{le-leb, lt-leb}
use Rattle.check_measures.specs.Values.{is_stripes}
use Rattle.check_measures.proofs.values.is_stripes.Goals as goal

pub returns-then-count-lt1 : goal.returns-then-count-lt1
unfolding is_stripes
returns-then-count-lt1 c =
    rw (lt-leb 1 c.args.count c.if-count-lt1.true)

pub returns : goal.returns
unfolding is_stripes
returns c =
    rw (le-leb 1 c.args.count c.if-count-lt1.false)
