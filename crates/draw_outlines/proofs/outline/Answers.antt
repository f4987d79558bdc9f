use Rattle.draw_arcs.specs.Stances.{placement_of}
use Rattle.draw_lines.proofs.Adding.{adds-as}
use Rattle.draw_arcs.proofs.Pushing.{adds_none}
use mathlib.Core.List.{[]}
use Rattle.draw_outlines.specs.Outlines.{outline_of}
use Rattle.draw_outlines.proofs.outline.Goals as goal

pub returns-in-Sphere : goal.returns-in-Sphere
unfolding outline_of
returns-in-Sphere c =
    let args = c.args in adds-as _ (outline_of (placement_of args.t) args.s) c.sphere_outline.ensures (rw c.in-Sphere.is)

pub returns-in-Cylinder : goal.returns-in-Cylinder
unfolding outline_of
returns-in-Cylinder c =
    let args = c.args in adds-as _ (outline_of (placement_of args.t) args.s) c.cylinder_outline.ensures (rw c.in-Cylinder.is)

pub returns-in-Cone : goal.returns-in-Cone
unfolding outline_of
returns-in-Cone c =
    let args = c.args in adds-as _ (outline_of (placement_of args.t) args.s) c.cone_outline.ensures (rw c.in-Cone.is)

pub returns-in-Cube : goal.returns-in-Cube
unfolding outline_of
returns-in-Cube c =
    let args = c.args in let pre = c.requires in adds-as [] (outline_of (placement_of args.t) args.s) (adds_none args.c args.out.now args.begins.now pre) (rw c.in-Cube.is)

pub returns-in-Triangle : goal.returns-in-Triangle
unfolding outline_of
returns-in-Triangle c =
    let args = c.args in let pre = c.requires in adds-as [] (outline_of (placement_of args.t) args.s) (adds_none args.c args.out.now args.begins.now pre) (rw c.in-Triangle.is)

pub returns-in-ClosedCylinder : goal.returns-in-ClosedCylinder
unfolding outline_of
returns-in-ClosedCylinder c =
    let args = c.args in adds-as _ (outline_of (placement_of args.t) args.s) c.cylinder_outline-in-ClosedCylinder.ensures (rw c.in-ClosedCylinder.is)

pub returns-in-ClosedCone : goal.returns-in-ClosedCone
unfolding outline_of
returns-in-ClosedCone c =
    let args = c.args in adds-as _ (outline_of (placement_of args.t) args.s) c.cone_outline-in-ClosedCone.ensures (rw c.in-ClosedCone.is)
