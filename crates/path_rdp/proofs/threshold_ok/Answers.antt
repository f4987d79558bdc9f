use Rattle.path_rdp.specs.Rdp.{threshold_ok}
use Rattle.path_rdp.proofs.threshold_ok.Goals as goal

pub returns-then-not-is_finite : goal.returns-then-not-is_finite
unfolding threshold_ok
returns-then-not-is_finite c =
    rw (← c.is_finite.ensures, c.if-not-is_finite.true)

pub returns : goal.returns
unfolding threshold_ok
returns c =
    rw (← c.is_finite.ensures, c.if-not-is_finite.false)
