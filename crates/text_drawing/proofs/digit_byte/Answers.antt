use borrow.Author.Tests.{lt-ltb, le-ltb}
use Rattle.text_drawing.specs.Numbers.{digit_byte}
use Rattle.text_drawing.proofs.digit_byte.Goals as goal

pub returns-then-d-lt10 : goal.returns-then-d-lt10
unfolding digit_byte
returns-then-d-lt10 c =
    simp (lt-ltb _ _ c.if-d-lt10.true)

pub returns : goal.returns
unfolding digit_byte
returns c =
    simp (le-ltb _ _ c.if-d-lt10.false)
