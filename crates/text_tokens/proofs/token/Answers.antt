use Rattle.text_tokens.proofs.Tokens.{left_over, left-opens, left-closes, is_word}
use Rattle.text_tokens.specs.Seen.{seen, TokenWithin}
use mathlib.Core.Path.{sym, ◌∙◌}
use native.Mathlib.Omega.{arith}
use Rattle.text_tokens.proofs.token.Goals as goal

pub returns-then-i-text : goal.returns-then-i-text
unfolding seen TokenWithin
returns-then-i-text c =
    (sym (c.skip-i.ensures.0 ∙ left_over _ _ c.if-i-text.true), omega arith)

pub returns-then-b-eq40 : goal.returns-then-b-eq40
unfolding seen TokenWithin
returns-then-b-eq40 c =
    (sym (c.skip-i.ensures.0 ∙ left-opens _ _ c.if-i-text.false c.if-b-eq40.true), omega (arith, c.if-i-text.false))

pub returns-then-b-eq41 : goal.returns-then-b-eq41
unfolding seen TokenWithin
returns-then-b-eq41 c =
    (sym (c.skip-i.ensures.0 ∙ left-closes _ _ c.if-i-text.false c.if-b-eq41.true), omega (arith, c.if-i-text.false))

pub word_end-e-requires : goal.word_end-e-requires
word_end-e-requires c =
    (c.if-i-text.false, is_word _ (c.skip-i.ensures.1 c.if-i-text.false) c.if-b-eq40.false c.if-b-eq41.false)

pub returns : goal.returns
unfolding seen TokenWithin
returns c =
    (sym (c.skip-i.ensures.0 ∙ c.word_end-e.ensures.2), (c.word_end-e.ensures.0, c.word_end-e.ensures.1))
