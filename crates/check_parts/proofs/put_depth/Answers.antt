use borrow.Author.Tests.{lt-ltb, le-ltb}
use Rattle.check_parts.proofs.put_depth.Goals as goal

pub returns-then-d-lt8 : goal.returns-then-d-lt8
returns-then-d-lt8 c =
    record { value = simp (lt-ltb _ _ c.if-d-lt8.true); depths_after = simp (lt-ltb _ _ c.if-d-lt8.true) }

pub returns : goal.returns
returns c =
    record { value = simp (le-ltb _ _ c.if-d-lt8.false); depths_after = simp (le-ltb _ _ c.if-d-lt8.false) }
