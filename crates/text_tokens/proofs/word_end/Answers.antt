use mathlib.Core.Path.{◌≡◌}
use lib.ListN.{length}
use native.Mathlib.Omega.{arith}
use Rattle.text_tokens.proofs.Tokens.{word_first, word_more, word-closed, word_over}
use Rattle.text_tokens.proofs.word_end.Goals as goal

pub loop-i-init : goal.loop-i-init
loop-i-init c =
    (omega arith, omega (arith, c.requires.0), word_first _ _ c.requires.0 c.requires.1)

pub returns-then-not-in_word : goal.returns-then-not-in_word
returns-then-not-in_word c =
    (omega (arith, c.loop-i.invariant.0), omega arith, word-closed _ _ _ c.loop-i.invariant.0 c.loop-i-test.true c.loop-i.invariant.2 c.in_word.ensures c.if-not-in_word.true)

pub loop-i-preserved : goal.loop-i-preserved
loop-i-preserved c =
    (omega (arith, c.loop-i.invariant.0), omega (arith, c.loop-i-test.true), word_more _ _ _ c.loop-i.invariant.0 c.loop-i-test.true c.loop-i.invariant.2 c.in_word.ensures c.if-not-in_word.false)

pub returns : goal.returns
returns c =
    let e : c.loop-i.i ≡ length c.args.text.now = omega arith in
    (omega (arith, c.loop-i.invariant.0), omega arith, rw e at (word_over _ _ _ c.loop-i.invariant.0 c.loop-i.invariant.1 c.loop-i.invariant.2 c.loop-i-test.false))
