use Rattle.geometry.specs.Hits.{min_hit}
use Rattle.geometry.proofs.hit.Hit.min.Goals as goal

pub returns-then-self-other : goal.returns-then-self-other
unfolding min_hit
returns-then-self-other c =
    simp c.if-self-other.true

pub returns-else-self-other : goal.returns-else-self-other
unfolding min_hit
returns-else-self-other c =
    simp c.if-self-other.false
