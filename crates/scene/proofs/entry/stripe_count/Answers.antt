use Rattle.scene.specs.Entries.{stripe_count}
use Rattle.scene.proofs.entry.stripe_count.Goals as goal

pub returns-then-is_striped : goal.returns-then-is_striped
unfolding stripe_count
returns-then-is_striped c =
    rw (← c.is_striped.ensures, c.if-is_striped.true)

pub returns : goal.returns
unfolding stripe_count
returns c =
    rw (← c.is_striped.ensures, c.if-is_striped.false)
