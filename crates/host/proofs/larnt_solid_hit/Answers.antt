use mathlib.Core.Path.{ap, ◌∙◌}
use Rattle.scene.specs.Entries.{simple_of}
use Rattle.host.specs.Calls.{ray_of_row}
use Rattle.host.proofs.Calls.{hit-is, no_hit}
use Rattle.host.proofs.larnt_solid_hit.Goals as goal

pub returns-in-Some : goal.returns-in-Some
returns-in-Some c =
    record { answer = (hit-is _ _ _ (c.simple_of.ensures ∙ ap (simple_of _) c.sixteen.ensures) c.in-Some.is _ _ _ c.ray_from.ensures c.hit-h.ensures).0; lent = (hit-is _ _ _ (c.simple_of.ensures ∙ ap (simple_of _) c.sixteen.ensures) c.in-Some.is _ _ _ c.ray_from.ensures c.hit-h.ensures).1.0; struck = (hit-is _ _ _ (c.simple_of.ensures ∙ ap (simple_of _) c.sixteen.ensures) c.in-Some.is _ _ _ c.ray_from.ensures c.hit-h.ensures).1.1 }

pub returns-in-None : goal.returns-in-None
returns-in-None c =
    record { answer = (no_hit _ _ (c.simple_of.ensures ∙ ap (simple_of _) c.sixteen.ensures) c.in-None.is (ray_of_row c.args.ray.now)).0; lent = (no_hit _ _ (c.simple_of.ensures ∙ ap (simple_of _) c.sixteen.ensures) c.in-None.is (ray_of_row c.args.ray.now)).1.0; struck = (no_hit _ _ (c.simple_of.ensures ∙ ap (simple_of _) c.sixteen.ensures) c.in-None.is (ray_of_row c.args.ray.now)).1.1 }
