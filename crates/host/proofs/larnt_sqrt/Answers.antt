use borrow.Author.Rules.{rules}
use mir.Syntax.{w64}
use mir.Val.{SFits}
use mir.ValLaws.{to_z-of_z}
use mathlib.Core.Path.{◌∙◌}
use Rattle.host.proofs.larnt_sqrt.Goals as goal

-- what owning an `i64` tells: 64 bits hold it
held : (c : goal.After-struct_told-1) → SFits w64 c.sqrt-r.result.rest
held c = search rules

pub returns : goal.returns
returns c =
    record { answer = c.sqrt-r.ensures.0; lent = to_z-of_z w64 c.sqrt-r.result.rest (held c) ∙ c.sqrt-r.ensures.1 }
