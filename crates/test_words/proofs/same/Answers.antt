use Rattle.floats.proofs.Tests.{ne-self}
use Rattle.test_words.specs.Words.{same_bits}
use Rattle.test_words.proofs.Comparing.{both-nan}
use Rattle.test_words.proofs.same.Goals as goal

pub returns-then-v-x : goal.returns-then-v-x
unfolding same_bits
returns-then-v-x c =
    simp (← c.float_of-x.ensures, c.if-v-x.true)

pub returns-then-v : goal.returns-then-v
unfolding same_bits
returns-then-v c =
    rw (← c.float_of-x.ensures) (both-nan _ _ c.if-v-x.false c.if-v.true)

pub returns-else-v : goal.returns-else-v
unfolding same_bits
returns-else-v c =
    simp (← c.float_of-x.ensures, c.if-v-x.false, ← ne-self, c.if-v.false)
