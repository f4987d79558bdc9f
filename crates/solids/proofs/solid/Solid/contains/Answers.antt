use Rattle.solids.specs.Solids.{contains_of}
use Rattle.solids.proofs.solid.Solid.contains.Goals as goal

pub returns-in-Sphere : goal.returns-in-Sphere
unfolding contains_of
returns-in-Sphere c =
    rw c.in-Sphere.is c.contains.ensures

pub returns-in-Cylinder : goal.returns-in-Cylinder
unfolding contains_of
returns-in-Cylinder c =
    rw c.in-Cylinder.is c.contains-in-Cylinder.ensures

pub returns-in-Cone : goal.returns-in-Cone
unfolding contains_of
returns-in-Cone c =
    rw c.in-Cone.is

pub returns-in-Cube : goal.returns-in-Cube
unfolding contains_of
returns-in-Cube c =
    rw c.in-Cube.is c.contains-in-Cube.ensures

pub returns-in-Triangle : goal.returns-in-Triangle
unfolding contains_of
returns-in-Triangle c =
    rw c.in-Triangle.is

pub returns-in-ClosedCylinder : goal.returns-in-ClosedCylinder
unfolding contains_of
returns-in-ClosedCylinder c =
    rw c.in-ClosedCylinder.is c.contains-in-ClosedCylinder.ensures

pub returns-in-ClosedCone : goal.returns-in-ClosedCone
unfolding contains_of
returns-in-ClosedCone c =
    rw c.in-ClosedCone.is c.contains-in-ClosedCone.ensures
