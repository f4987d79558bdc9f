use mathlib.Core.Path.{ap, ◌∙◌}
use borrow.Author.Rules.{rules}
use mir.Syntax.{w64}
use mir.Val.{SFits}
use mir.ValLaws.{to_z-of_z}
use Rattle.test_words.specs.Words.{signed_word}
use Rattle.test_sqrt.specs.Records.{root_right}
use Rattle.test_sqrt.proofs.root_right.Goals as goal

pub returns-then-is : goal.returns-then-is
unfolding root_right
returns-then-is c =
    let held : SFits w64 c.sqrt-r.result.rest = search rules in
    let rest = c.signed-rest.ensures ∙ ap signed_word (to_z-of_z w64 c.sqrt-r.result.rest held) in
    simp (← c.float_at.ensures, ← c.sqrt-r.ensures.0, ← c.sqrt-r.ensures.1, ← c.pattern.ensures, ← rest, ← c.is.ensures, c.if-is.true, ← c.is-then-is.ensures)

pub returns-else-is : goal.returns-else-is
unfolding root_right
returns-else-is c =
    simp (← c.float_at.ensures, ← c.sqrt-r.ensures.0, ← c.pattern.ensures, ← c.is.ensures, c.if-is.false)
