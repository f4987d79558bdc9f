use Rattle.query_merge.specs.Merging.{fits, both_sizes}
use Rattle.query_merge.proofs.fit.Goals as goal

pub returns-then-not-holds_both : goal.returns-then-not-holds_both
unfolding fits both_sizes
returns-then-not-holds_both c =
    rw (← c.holds_both.ensures, c.if-not-holds_both.true)

pub returns-then-not-holds_both-2 : goal.returns-then-not-holds_both-2
unfolding fits both_sizes
returns-then-not-holds_both-2 c =
    rw (← c.holds_both.ensures, c.if-not-holds_both.false, ← c.holds_both-2.ensures, c.if-not-holds_both-2.true)

pub returns-then-not-holds_both-3 : goal.returns-then-not-holds_both-3
unfolding fits both_sizes
returns-then-not-holds_both-3 c =
    rw (← c.holds_both.ensures, c.if-not-holds_both.false, ← c.holds_both-2.ensures, c.if-not-holds_both-2.false, ← c.holds_both-3.ensures, c.if-not-holds_both-3.true)

pub returns-then-not-holds_both-4 : goal.returns-then-not-holds_both-4
unfolding fits both_sizes
returns-then-not-holds_both-4 c =
    rw (← c.holds_both.ensures, c.if-not-holds_both.false, ← c.holds_both-2.ensures, c.if-not-holds_both-2.false, ← c.holds_both-3.ensures, c.if-not-holds_both-3.false, ← c.holds_both-4.ensures, c.if-not-holds_both-4.true)

pub returns : goal.returns
unfolding fits both_sizes
returns c =
    rw (← c.holds_both.ensures, c.if-not-holds_both.false, ← c.holds_both-2.ensures, c.if-not-holds_both-2.false, ← c.holds_both-3.ensures, c.if-not-holds_both-3.false, ← c.holds_both-4.ensures, c.if-not-holds_both-4.false) c.holds_both-5.ensures
