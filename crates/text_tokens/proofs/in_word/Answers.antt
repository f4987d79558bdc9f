use borrow.Author.Tests.{ne_eqb}
use Rattle.text_tokens.specs.Tokens.{word_byte}
use Rattle.text_tokens.proofs.in_word.Goals as goal

pub returns-then-b-eq32 : goal.returns-then-b-eq32
unfolding word_byte
returns-then-b-eq32 c =
    rw c.if-b-eq32.true

pub returns-then-b-eq40 : goal.returns-then-b-eq40
unfolding word_byte
returns-then-b-eq40 c =
    rw c.if-b-eq40.true

pub returns-then-b-eq41 : goal.returns-then-b-eq41
unfolding word_byte
returns-then-b-eq41 c =
    rw c.if-b-eq41.true

pub returns : goal.returns
unfolding word_byte
returns c =
    simp (ne_eqb _ _ c.if-b-eq32.false, ne_eqb _ _ c.if-b-eq40.false, ne_eqb _ _ c.if-b-eq41.false)
