use Rattle.text_heads.specs.Heads.{stripes_in}
use Rattle.text_tokens.specs.Seen.{counted_as}
use Rattle.text_heads.proofs.stripes_at.Goals as goal

pub returns-then-is_striped : goal.returns-then-is_striped
unfolding stripes_in
returns-then-is_striped c =
    rw (← c.is_striped.ensures, c.if-is_striped.true) c.count_or.ensures

pub returns : goal.returns
unfolding stripes_in counted_as
returns c =
    rw (← c.is_striped.ensures, c.if-is_striped.false)
