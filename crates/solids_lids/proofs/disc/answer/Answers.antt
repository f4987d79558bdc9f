use Rattle.geometry.specs.Hits.{is_ok}
use Rattle.solids_lids.specs.Discs.{lidded}
use Rattle.solids_lids.proofs.disc.answer.Goals as goal

pub returns-then-nearest : goal.returns-then-nearest
unfolding lidded is_ok
returns-then-nearest c =
    rw c.if-nearest.true

pub returns : goal.returns
unfolding lidded is_ok
returns c =
    rw c.if-nearest.false c.no_hit.ensures
