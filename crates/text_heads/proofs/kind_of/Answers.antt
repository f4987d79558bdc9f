use Rattle.text_heads.specs.Heads.{kind_of}
use Rattle.text_heads.proofs.kind_of.Goals as goal

pub returns-then-same_word : goal.returns-then-same_word
unfolding kind_of
returns-then-same_word c =
    rw (← c.same_word.ensures, c.if-same_word.true)

pub returns-then-same_word-2 : goal.returns-then-same_word-2
unfolding kind_of
returns-then-same_word-2 c =
    rw (← c.same_word.ensures, c.if-same_word.false, ← c.same_word-2.ensures, c.if-same_word-2.true)

pub returns-then-same_word-3 : goal.returns-then-same_word-3
unfolding kind_of
returns-then-same_word-3 c =
    rw (← c.same_word.ensures, c.if-same_word.false, ← c.same_word-2.ensures, c.if-same_word-2.false, ← c.same_word-3.ensures, c.if-same_word-3.true)

pub returns-then-same_word-4 : goal.returns-then-same_word-4
unfolding kind_of
returns-then-same_word-4 c =
    rw (← c.same_word.ensures, c.if-same_word.false, ← c.same_word-2.ensures, c.if-same_word-2.false, ← c.same_word-3.ensures, c.if-same_word-3.false, ← c.same_word-4.ensures, c.if-same_word-4.true)

pub returns-then-same_word-5 : goal.returns-then-same_word-5
unfolding kind_of
returns-then-same_word-5 c =
    rw (← c.same_word.ensures, c.if-same_word.false, ← c.same_word-2.ensures, c.if-same_word-2.false, ← c.same_word-3.ensures, c.if-same_word-3.false, ← c.same_word-4.ensures, c.if-same_word-4.false, ← c.same_word-5.ensures, c.if-same_word-5.true)

pub returns-then-same_word-6 : goal.returns-then-same_word-6
unfolding kind_of
returns-then-same_word-6 c =
    rw (← c.same_word.ensures, c.if-same_word.false, ← c.same_word-2.ensures, c.if-same_word-2.false, ← c.same_word-3.ensures, c.if-same_word-3.false, ← c.same_word-4.ensures, c.if-same_word-4.false, ← c.same_word-5.ensures, c.if-same_word-5.false, ← c.same_word-6.ensures, c.if-same_word-6.true)

pub returns-then-same_word-7 : goal.returns-then-same_word-7
unfolding kind_of
returns-then-same_word-7 c =
    rw (← c.same_word.ensures, c.if-same_word.false, ← c.same_word-2.ensures, c.if-same_word-2.false, ← c.same_word-3.ensures, c.if-same_word-3.false, ← c.same_word-4.ensures, c.if-same_word-4.false, ← c.same_word-5.ensures, c.if-same_word-5.false, ← c.same_word-6.ensures, c.if-same_word-6.false, ← c.same_word-7.ensures, c.if-same_word-7.true)

pub returns : goal.returns
unfolding kind_of
returns c =
    rw (← c.same_word.ensures, c.if-same_word.false, ← c.same_word-2.ensures, c.if-same_word-2.false, ← c.same_word-3.ensures, c.if-same_word-3.false, ← c.same_word-4.ensures, c.if-same_word-4.false, ← c.same_word-5.ensures, c.if-same_word-5.false, ← c.same_word-6.ensures, c.if-same_word-6.false, ← c.same_word-7.ensures, c.if-same_word-7.false) c.closed_kind.ensures
