use Rattle.text_heads.specs.Heads.{closed_kind}
use Rattle.text_heads.proofs.closed_kind.Goals as goal

pub returns-then-same_word : goal.returns-then-same_word
unfolding closed_kind
returns-then-same_word c =
    rw (← c.same_word.ensures, c.if-same_word.true)

pub returns-then-same_word-2 : goal.returns-then-same_word-2
unfolding closed_kind
returns-then-same_word-2 c =
    rw (← c.same_word.ensures, c.if-same_word.false, ← c.same_word-2.ensures, c.if-same_word-2.true)

pub returns : goal.returns
unfolding closed_kind
returns c =
    rw (← c.same_word.ensures, c.if-same_word.false, ← c.same_word-2.ensures, c.if-same_word-2.false)
