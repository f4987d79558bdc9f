use Rattle.tree_trust.specs.Trust.{is_inside}
use Rattle.tree_trust.proofs.lies_in.Goals as goal

pub returns-then-under : goal.returns-then-under
unfolding is_inside
returns-then-under c =
    simp (← c.under.ensures, c.if-under.true, ← c.under-then-under.ensures)

pub returns : goal.returns
unfolding is_inside
returns c =
    simp (← c.under.ensures, c.if-under.false)
