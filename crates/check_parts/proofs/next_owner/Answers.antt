use Rattle.check_parts.proofs.Owners.{next-is, next_last}
use Rattle.check_parts.proofs.next_owner.Goals as goal

pub returns-then-j-owners : goal.returns-then-j-owners
returns-then-j-owners c =
    next-is _ _ c.if-j-owners.true

pub returns : goal.returns
returns c =
    next_last _ _ c.if-j-owners.false
