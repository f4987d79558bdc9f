use Rattle.draw_arcs.specs.Stances.{placement_of}
use Rattle.draw_lines.proofs.Adding.{adds_then, adds-as}
use mathlib.Core.Path.{◌∙◌}
use Rattle.draw_outlines.specs.Outlines.{cylinder_outline}
use Rattle.draw_outlines.proofs.cylinder_outline.Goals as goal

pub returns-then-e-r : goal.returns-then-e-r
unfolding cylinder_outline
returns-then-e-r c =
    let args = c.args in adds-as _ (cylinder_outline (placement_of args.t) args.r args.z0 args.z1) (adds_then _ _ _ _ _ _ _ _ _ c.ring-c1.ensures c.ring-c1.auto.out c.ring-c1.auto.begins c.ring-c2.ensures) (simp (c.level_at.ensures, c.level_at-2.ensures, ← c.eye_square-e.ensures, c.if-e-r.true))

pub returns : goal.returns
unfolding cylinder_outline
returns c =
    let args = c.args in adds-as _ (cylinder_outline (placement_of args.t) args.r args.z0 args.z1) (adds_then _ _ _ _ _ _ _ _ _ (adds_then _ _ _ _ _ _ _ _ _ c.ring-c1.ensures c.ring-c1.auto.out c.ring-c1.auto.begins c.ring-c2.ensures) (c.ring-c2.auto.out ∙ c.ring-c1.auto.out) (c.ring-c2.auto.begins ∙ c.ring-c1.auto.begins) c.uprights.ensures) (simp (c.level_at.ensures, c.level_at-2.ensures, ← c.eye_square-e.ensures, c.if-e-r.false))
