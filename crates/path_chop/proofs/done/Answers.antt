use Rattle.path_chop.proofs.Halving.{done_none, done-some}
use Rattle.path_chop.proofs.done.Goals as goal

pub returns-then-left-eq0 : goal.returns-then-left-eq0
returns-then-left-eq0 c =
    done_none _ _ _ _ c.if-left-eq0.true

pub returns : goal.returns
returns c =
    done-some _ _ _ _ c.if-left-eq0.false c.stops.ensures
