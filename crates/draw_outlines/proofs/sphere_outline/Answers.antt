use Rattle.draw_arcs.specs.Stances.{placement_of}
use Rattle.draw_lines.proofs.Adding.{adds-as}
use Rattle.draw_arcs.proofs.Pushing.{adds_none}
use mathlib.Core.List.{[]}
use Rattle.draw_outlines.specs.Outlines.{sphere_outline}
use Rattle.draw_outlines.proofs.sphere_outline.Goals as goal

pub returns-then-r-h : goal.returns-then-r-h
unfolding sphere_outline
returns-then-r-h c =
    let args = c.args in adds-as _ (sphere_outline (placement_of args.t) args.center args.r) c.ring.ensures
    (simp (← c.sub-d.ensures, ← c.norm-h.ensures, ← c.unit.ensures, ← c.sphere_reach.ensures, ← c.facing-f.ensures, ← c.sphere_ring.ensures, c.if-r-h.true))

pub returns : goal.returns
unfolding sphere_outline
returns c =
    let args = c.args in let pre = c.requires in adds-as [] (sphere_outline (placement_of args.t) args.center args.r) (adds_none args.c args.out.now args.begins.now (pre)) (simp (← c.sub-d.ensures, ← c.norm-h.ensures, c.if-r-h.false))
