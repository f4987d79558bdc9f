use borrow.Author.Tests.{lt-ltb, le-ltb}
use Rattle.scene.specs.Entries.{is_there}
use Rattle.scene.proofs.entry.is_there.Goals as goal

pub returns-then-i-inverses : goal.returns-then-i-inverses
unfolding is_there
returns-then-i-inverses c =
    rw (lt-ltb _ _ c.if-i-numbers.true, lt-ltb _ _ c.if-i-inverses.true)

pub returns-else-i-inverses : goal.returns-else-i-inverses
unfolding is_there
returns-else-i-inverses c =
    rw (lt-ltb _ _ c.if-i-numbers.true, le-ltb _ _ c.if-i-inverses.false)

pub returns-else-i-numbers : goal.returns-else-i-numbers
unfolding is_there
returns-else-i-numbers c =
    rw (le-ltb _ _ c.if-i-numbers.false)
