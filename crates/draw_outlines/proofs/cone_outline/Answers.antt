use Rattle.draw_arcs.specs.Stances.{placement_of}
use Rattle.draw_lines.proofs.Adding.{adds_then, adds-as}
use Rattle.draw_outlines.specs.Outlines.{cone_outline}
use Rattle.draw_outlines.proofs.cone_outline.Goals as goal

pub returns-then-e-k : goal.returns-then-e-k
unfolding cone_outline
returns-then-e-k c =
    let args = c.args in adds-as _ (cone_outline (placement_of args.t) args.r args.h) c.ring-c1.ensures (simp (c.level_at.ensures, ← c.eye_square-e.ensures, ← c.cone_side-k.ensures, c.if-e-k.true))

pub returns : goal.returns
unfolding cone_outline
returns c =
    let args = c.args in adds-as _ (cone_outline (placement_of args.t) args.r args.h) (adds_then _ _ _ _ _ _ _ _ _ c.ring-c1.ensures c.ring-c1.auto.out c.ring-c1.auto.begins c.slopes.ensures) (simp (c.level_at.ensures, ← c.eye_square-e.ensures, ← c.cone_side-k.ensures, c.if-e-k.false))
