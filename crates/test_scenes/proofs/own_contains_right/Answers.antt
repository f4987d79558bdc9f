use Rattle.test_scenes.specs.Records.{own_contains_right}
use Rattle.test_scenes.proofs.own_contains_right.Goals as goal

pub returns-then-not-is : goal.returns-then-not-is
unfolding own_contains_right
returns-then-not-is c =
    simp (← c.word-i.ensures, ← c.point_at-p.ensures, ← c.float_at-f.ensures, ← c.own_contains-c.ensures, ← c.answer_number.ensures, ← c.wide.ensures, ← c.is.ensures, c.if-not-is.true)

pub returns : goal.returns
unfolding own_contains_right
returns c =
    simp (← c.word-i.ensures, ← c.point_at-p.ensures, ← c.float_at-f.ensures, ← c.own_contains-c.ensures, ← c.answer_number.ensures, ← c.wide.ensures, ← c.is.ensures, c.if-not-is.false, ← c.inside.ensures, ← c.flag.ensures, ← c.is-2.ensures)
