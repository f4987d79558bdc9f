use Rattle.draw_solids.specs.Lines.{solid_paths}
use Rattle.draw_solids.proofs.solid_paths.Goals as goal

pub returns-in-Sphere : goal.returns-in-Sphere
unfolding solid_paths
returns-in-Sphere c =
    rw c.in-Sphere.is c.handed_paths.ensures

pub returns-in-Cylinder : goal.returns-in-Cylinder
unfolding solid_paths
returns-in-Cylinder c =
    rw c.in-Cylinder.is c.round_paths.ensures

pub returns-in-Cone : goal.returns-in-Cone
unfolding solid_paths
returns-in-Cone c =
    rw c.in-Cone.is c.round_paths-in-Cone.ensures

pub returns-in-Cube : goal.returns-in-Cube
unfolding solid_paths
returns-in-Cube c =
    rw c.in-Cube.is c.paths_striped.ensures

pub returns-in-Triangle : goal.returns-in-Triangle
unfolding solid_paths
returns-in-Triangle c =
    rw c.in-Triangle.is c.triangle_paths.ensures

pub returns-in-ClosedCylinder : goal.returns-in-ClosedCylinder
unfolding solid_paths
returns-in-ClosedCylinder c =
    rw c.in-ClosedCylinder.is c.round_paths-in-ClosedCylinder.ensures

pub returns-in-ClosedCone : goal.returns-in-ClosedCone
unfolding solid_paths
returns-in-ClosedCone c =
    rw c.in-ClosedCone.is c.round_paths-in-ClosedCone.ensures
