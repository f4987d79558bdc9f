use Rattle.check_measures.specs.Values.{few_stripes}
use Rattle.check_measures.proofs.values.few_stripes.Goals as goal

pub returns : goal.returns
unfolding few_stripes
returns c =
    rw (← c.stripe_count.ensures)
