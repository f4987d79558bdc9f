use Rattle.test_scenes.specs.Records.{answers_right}
use Rattle.test_scenes.proofs.answers_right.Goals as goal

pub returns-then-not-check_right : goal.returns-then-not-check_right
unfolding answers_right
returns-then-not-check_right c =
    simp (← c.check_right.ensures, c.if-not-check_right.true)

pub returns-then-not-own_hit_right : goal.returns-then-not-own_hit_right
unfolding answers_right
returns-then-not-own_hit_right c =
    simp (← c.check_right.ensures, c.if-not-check_right.false, ← c.own_hit_right.ensures, c.if-not-own_hit_right.true)

pub returns : goal.returns
unfolding answers_right
returns c =
    simp (← c.check_right.ensures, c.if-not-check_right.false, ← c.own_hit_right.ensures, c.if-not-own_hit_right.false, ← c.own_contains_right.ensures)
