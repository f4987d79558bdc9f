use mathlib.Core.Path.{ap, ◌∙◌}
use Rattle.scene.specs.Entries.{simple_of}
use Rattle.host.specs.Calls.{box_numbers}
use Rattle.host.proofs.Calls.{box-is, no-box}
use Rattle.host.proofs.larnt_solid_box.Goals as goal

pub returns-in-Some : goal.returns-in-Some
returns-in-Some c =
    record { answer = (box-is _ _ _ (c.simple_of.ensures ∙ ap (simple_of _) c.sixteen.ensures) c.in-Some.is _ c.bounding_box-x.ensures).0; lent = (box-is _ _ _ (c.simple_of.ensures ∙ ap (simple_of _) c.sixteen.ensures) c.in-Some.is _ c.bounding_box-x.ensures).1 }

pub returns-in-None : goal.returns-in-None
unfolding box_numbers
returns-in-None c =
    record { answer = (no-box _ _ (c.simple_of.ensures ∙ ap (simple_of _) c.sixteen.ensures) c.in-None.is).0; lent = (no-box _ _ (c.simple_of.ensures ∙ ap (simple_of _) c.sixteen.ensures) c.in-None.is).1 }
