use mathlib.Core.Path.{ap, ◌∙◌}
use Rattle.scene.specs.Entries.{matrix_of}
use Rattle.host.proofs.Calls.{inverted-is}
use Rattle.host.proofs.larnt_inverse.Goals as goal

pub returns : goal.returns
returns c =
    record { answer = (inverted-is _ _ _ (c.matrix_of.ensures ∙ ap matrix_of c.sixteen.ensures) c.inverse_with_determinant-i.ensures).0; lent = (inverted-is _ _ _ (c.matrix_of.ensures ∙ ap matrix_of c.sixteen.ensures) c.inverse_with_determinant-i.ensures).1 }
