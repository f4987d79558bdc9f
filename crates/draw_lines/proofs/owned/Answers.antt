use borrow.Author.Tests.{lt-ltb, le-ltb}
use Rattle.draw_lines.specs.Lines.{owned_by}
use Rattle.draw_lines.proofs.owned.Goals as goal

pub returns-then-j-owners : goal.returns-then-j-owners
unfolding owned_by
returns-then-j-owners c =
    rw (lt-ltb _ _ c.if-j-owners.true) c.is_entry.ensures

pub returns : goal.returns
unfolding owned_by
returns c =
    rw (le-ltb _ _ c.if-j-owners.false)
