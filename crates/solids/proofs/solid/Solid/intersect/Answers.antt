use mathlib.Core.Path.{◌∙◌}
use Rattle.solids.specs.Solids.{hit_of}
use Rattle.solids.proofs.solid.Solid.intersect.Goals as goal

pub returns-in-Sphere : goal.returns-in-Sphere
unfolding hit_of
returns-in-Sphere c =
    c.intersect.ensures ∙ rw (c.again.ensures, c.in-Sphere.is)

pub returns-in-Cylinder : goal.returns-in-Cylinder
unfolding hit_of
returns-in-Cylinder c =
    c.intersect-in-Cylinder.ensures ∙ rw (c.again-in-Cylinder.ensures, c.in-Cylinder.is)

pub returns-in-Cone : goal.returns-in-Cone
unfolding hit_of
returns-in-Cone c =
    c.intersect-in-Cone.ensures ∙ rw (c.again-in-Cone.ensures, c.in-Cone.is)

pub returns-in-Cube : goal.returns-in-Cube
unfolding hit_of
returns-in-Cube c =
    c.intersect-in-Cube.ensures ∙ rw (c.again-in-Cube.ensures, c.in-Cube.is)

pub returns-in-Triangle : goal.returns-in-Triangle
unfolding hit_of
returns-in-Triangle c =
    c.intersect_vertices.ensures ∙ rw (c.again-in-Triangle.ensures, c.in-Triangle.is)

pub returns-in-ClosedCylinder : goal.returns-in-ClosedCylinder
unfolding hit_of
returns-in-ClosedCylinder c =
    c.intersect-in-ClosedCylinder-2.ensures ∙ rw (c.intersect-in-ClosedCylinder.ensures, c.again-in-ClosedCylinder.ensures, c.again-in-ClosedCylinder-2.ensures, c.in-ClosedCylinder.is)

pub returns-in-ClosedCone : goal.returns-in-ClosedCone
unfolding hit_of
returns-in-ClosedCone c =
    c.intersect-in-ClosedCone-2.ensures ∙ rw (c.intersect-in-ClosedCone.ensures, c.again-in-ClosedCone.ensures, c.again-in-ClosedCone-2.ensures, c.in-ClosedCone.is)
