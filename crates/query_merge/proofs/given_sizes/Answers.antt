use Rattle.query_merge.specs.Merging.{given_sizes}
use Rattle.query_merge.proofs.given_sizes.Goals as goal

pub returns : goal.returns
unfolding given_sizes
returns c =
    rw c.given-n.ensures.value
