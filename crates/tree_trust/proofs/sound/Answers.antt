use Rattle.tree_trust.specs.Trust.{is_sound}
use Rattle.tree_trust.proofs.sound.Goals as goal

pub returns-then-within_box : goal.returns-then-within_box
unfolding is_sound
returns-then-within_box c =
    simp (← c.within_box.ensures, c.if-within_box.true, ← c.under.ensures)

pub returns : goal.returns
unfolding is_sound
returns c =
    simp (← c.within_box.ensures, c.if-within_box.false)
