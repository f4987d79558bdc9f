use Rattle.test_scenes.specs.Records.{own_hit_right}
use Rattle.test_scenes.proofs.own_hit_right.Goals as goal

pub returns-then-not-is : goal.returns-then-not-is
unfolding own_hit_right
returns-then-not-is c =
    simp (← c.word-i.ensures, ← c.ray_at-ray.ensures, ← c.own_hit-h.ensures, ← c.answer_number.ensures, ← c.wide.ensures, ← c.is.ensures, c.if-not-is.true)

pub returns-then-not-same : goal.returns-then-not-same
unfolding own_hit_right
returns-then-not-same c =
    simp (← c.word-i.ensures, ← c.ray_at-ray.ensures, ← c.own_hit-h.ensures, ← c.answer_number.ensures, ← c.wide.ensures, ← c.is.ensures, c.if-not-is.false, ← c.distance.ensures, ← c.word.ensures, ← c.same.ensures, c.if-not-same.true)

pub returns : goal.returns
unfolding own_hit_right
returns c =
    simp (← c.word-i.ensures, ← c.ray_at-ray.ensures, ← c.own_hit-h.ensures, ← c.answer_number.ensures, ← c.wide.ensures, ← c.is.ensures, c.if-not-is.false, ← c.distance.ensures, ← c.word.ensures, ← c.same.ensures, c.if-not-same.false, ← c.met.ensures, ← c.flag.ensures, ← c.is-2.ensures)
