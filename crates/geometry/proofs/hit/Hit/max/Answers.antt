use Rattle.geometry.specs.Hits.{max_hit}
use Rattle.geometry.proofs.hit.Hit.max.Goals as goal

pub returns-then-self-other : goal.returns-then-self-other
unfolding max_hit
returns-then-self-other c =
    simp c.if-self-other.true

pub returns-else-self-other : goal.returns-else-self-other
unfolding max_hit
returns-else-self-other c =
    simp c.if-self-other.false
