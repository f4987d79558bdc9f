use borrow.Author.Rules.{rules}
use mir.Syntax.{w64}
use mir.Val.{SFits}
use mir.ValLaws.{to_z-of_z}
use mathlib.Core.Path.{ap, ◌∙◌}
use Rattle.geometry.specs.Vectors.{length_of, length_rest}
use Rattle.host.proofs.larnt_length.Goals as goal

-- what owning an `i64` tells: 64 bits hold it
held : (c : goal.After-struct_told-1) → SFits w64 c.length-r.result.rest
held c = search rules

pub returns : goal.returns
returns c =
    record { answer = c.length-r.ensures.0 ∙ ap length_of c.point.ensures; lent = to_z-of_z w64 c.length-r.result.rest (held c) ∙ c.length-r.ensures.1 ∙ ap length_rest c.point.ensures }
