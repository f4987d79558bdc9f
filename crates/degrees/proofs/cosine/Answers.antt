use Rattle.degrees.proofs.Rule.{exact-entries}
use Rattle.degrees.proofs.Reading.{called-small, called-float}
use Rattle.degrees.proofs.cosine.Goals as goal

pub from_units-requires : goal.from_units-requires
from_units-requires c =
    called-small _ _ c.cosine_units.ensures (exact-entries c.args.degrees).0.within

pub returns : goal.returns
returns c =
    called-float _ _ _ c.from_units.ensures c.cosine_units.ensures (exact-entries c.args.degrees).0.within
