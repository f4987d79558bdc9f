use Rattle.geometry.specs.Vectors.{normalize_of}
use Rattle.geometry.proofs.vector.Vector.normalize.Goals as goal

pub returns-then-d : goal.returns-then-d
unfolding normalize_of
returns-then-d c =
    simp (← c.norm-d.ensures, c.if-d.true)

pub returns : goal.returns
unfolding normalize_of
returns c =
    simp (← c.norm-d.ensures, c.if-d.false, ← c.div_scalar.ensures)
