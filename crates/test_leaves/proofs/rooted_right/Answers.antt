use mathlib.Core.Path.{ap, ◌∙◌}
use borrow.Author.Rules.{rules}
use mir.Syntax.{w64}
use mir.Val.{SFits}
use mir.ValLaws.{to_z-of_z}
use Rattle.test_words.specs.Words.{signed_word}
use Rattle.test_leaves.specs.Records.{rooted_right}
use Rattle.test_leaves.proofs.rooted_right.Goals as goal

pub returns-then-same : goal.returns-then-same
unfolding rooted_right
returns-then-same c =
    let held : SFits w64 c.args.r.rest = search rules in
    let rest = c.signed.ensures ∙ ap signed_word (to_z-of_z w64 c.args.r.rest held) in
    simp (← c.word.ensures, ← c.same.ensures, c.if-same.true, ← rest, ← c.is.ensures)

pub returns-else-same : goal.returns-else-same
unfolding rooted_right
returns-else-same c =
    simp (← c.word.ensures, ← c.same.ensures, c.if-same.false)
