use mathlib.Core.Path.{ap, ◌∙◌}
use Rattle.scene.specs.Entries.{simple_of}
use Rattle.rows.specs.Points.{point_of}
use Rattle.host.proofs.Calls.{inside_is, no-inside}
use Rattle.host.proofs.larnt_solid_contains.Goals as goal

pub returns-in-Some : goal.returns-in-Some
returns-in-Some c =
    record { answer = (inside_is _ _ _ (c.simple_of.ensures ∙ ap (simple_of _) c.sixteen.ensures) c.in-Some.is _ _ _ _ c.point.ensures c.contains.ensures).0; lent = (inside_is _ _ _ (c.simple_of.ensures ∙ ap (simple_of _) c.sixteen.ensures) c.in-Some.is _ _ _ _ c.point.ensures c.contains.ensures).1 }

pub returns-in-None : goal.returns-in-None
returns-in-None c =
    record { answer = (no-inside _ _ (c.simple_of.ensures ∙ ap (simple_of _) c.sixteen.ensures) c.in-None.is (point_of c.args.p.now) c.args.f).0; lent = (no-inside _ _ (c.simple_of.ensures ∙ ap (simple_of _) c.sixteen.ensures) c.in-None.is (point_of c.args.p.now) c.args.f).1 }
