use Rattle.std.proofs.Common.{◌∙◌, w64}
use mir.ValLaws.{to_z-of_z}
use Rattle.sqrt.proofs.sqrt.Goals as goal

pub returns : goal.returns
returns c =
    (c.root_and_rest-root.ensures.answer, to_z-of_z w64 c.root_and_rest-root.new.rest c.root_and_rest-root.ensures.held ∙ c.root_and_rest-root.ensures.lent)
