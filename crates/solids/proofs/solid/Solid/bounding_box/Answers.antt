use Rattle.solids.specs.Solids.{solid_box}
use Rattle.solids.proofs.solid.Solid.bounding_box.Goals as goal

pub returns-in-Sphere : goal.returns-in-Sphere
unfolding solid_box
returns-in-Sphere c =
    rw c.in-Sphere.is c.bounding_box.ensures

pub returns-in-Cylinder : goal.returns-in-Cylinder
unfolding solid_box
returns-in-Cylinder c =
    rw c.in-Cylinder.is c.bounding_box-in-Cylinder.ensures

pub returns-in-Cone : goal.returns-in-Cone
unfolding solid_box
returns-in-Cone c =
    rw c.in-Cone.is c.bounding_box-in-Cone.ensures

pub returns-in-Cube : goal.returns-in-Cube
unfolding solid_box
returns-in-Cube c =
    rw c.in-Cube.is c.new.ensures

pub returns-in-Triangle : goal.returns-in-Triangle
unfolding solid_box
returns-in-Triangle c =
    rw c.in-Triangle.is c.bounding_box-in-Triangle.ensures

pub returns-in-ClosedCylinder : goal.returns-in-ClosedCylinder
unfolding solid_box
returns-in-ClosedCylinder c =
    rw c.in-ClosedCylinder.is c.bounding_box-in-ClosedCylinder.ensures

pub returns-in-ClosedCone : goal.returns-in-ClosedCone
unfolding solid_box
returns-in-ClosedCone c =
    rw c.in-ClosedCone.is c.bounding_box-in-ClosedCone.ensures
