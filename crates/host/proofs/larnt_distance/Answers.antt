use borrow.Author.Rules.{rules}
use mir.Syntax.{w64}
use mir.Val.{SFits}
use mir.ValLaws.{to_z-of_z}
use mathlib.Core.Path.{◌∙◌}
use Rattle.host.proofs.larnt_distance.Goals as goal

-- what owning an `i64` tells: 64 bits hold it
held : (c : goal.After-struct_told-1) → SFits w64 c.distance-r.result.rest
held c = search rules

pub returns : goal.returns
returns c =
    record { answer = c.distance-r.ensures.0 ∙ rw (c.point.ensures, c.point-2.ensures); lent = to_z-of_z w64 c.distance-r.result.rest (held c) ∙ c.distance-r.ensures.1 ∙ rw (c.point.ensures, c.point-2.ensures) }
