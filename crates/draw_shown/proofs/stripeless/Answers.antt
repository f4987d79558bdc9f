use Rattle.draw_shown.specs.Shown.{stripeless}
use Rattle.draw_shown.proofs.stripeless.Goals as goal

pub returns-in-Sphere : goal.returns-in-Sphere
unfolding stripeless
returns-in-Sphere c =
    rw c.in-Sphere.is

pub returns-in-Cylinder : goal.returns-in-Cylinder
unfolding stripeless
returns-in-Cylinder c =
    rw c.in-Cylinder.is c.no_stripes.ensures

pub returns-in-Cone : goal.returns-in-Cone
unfolding stripeless
returns-in-Cone c =
    rw c.in-Cone.is c.no_stripes-in-Cone.ensures

pub returns-in-Cube : goal.returns-in-Cube
unfolding stripeless
returns-in-Cube c =
    rw c.in-Cube.is

pub returns-in-Triangle : goal.returns-in-Triangle
unfolding stripeless
returns-in-Triangle c =
    rw c.in-Triangle.is

pub returns-in-ClosedCylinder : goal.returns-in-ClosedCylinder
unfolding stripeless
returns-in-ClosedCylinder c =
    rw c.in-ClosedCylinder.is c.no_stripes-in-ClosedCylinder.ensures

pub returns-in-ClosedCone : goal.returns-in-ClosedCone
unfolding stripeless
returns-in-ClosedCone c =
    rw c.in-ClosedCone.is c.no_stripes-in-ClosedCone.ensures
