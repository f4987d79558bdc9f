use mathlib.Core.Path.{◌∙◌}
use Rattle.check_measures.specs.Measures.{solid_measured}
use Rattle.check_measures.proofs.measures.solid_measured.Goals as goal

pub returns-in-Sphere : goal.returns-in-Sphere
unfolding solid_measured
returns-in-Sphere c =
    c.sphere_measured.ensures ∙ rw c.in-Sphere.is

pub returns-in-Cylinder : goal.returns-in-Cylinder
unfolding solid_measured
returns-in-Cylinder c =
    c.cylinder_measured.ensures ∙ rw c.in-Cylinder.is

pub returns-in-Cone : goal.returns-in-Cone
unfolding solid_measured
returns-in-Cone c =
    c.cone_measured.ensures ∙ rw c.in-Cone.is

pub returns-in-Cube : goal.returns-in-Cube
unfolding solid_measured
returns-in-Cube c =
    c.cube_measured.ensures ∙ rw c.in-Cube.is

pub returns-in-Triangle : goal.returns-in-Triangle
unfolding solid_measured
returns-in-Triangle c =
    c.triangle_measured.ensures ∙ rw c.in-Triangle.is

pub returns-in-ClosedCylinder : goal.returns-in-ClosedCylinder
unfolding solid_measured
returns-in-ClosedCylinder c =
    c.cylinder_measured-in-ClosedCylinder.ensures ∙ rw c.in-ClosedCylinder.is

pub returns-in-ClosedCone : goal.returns-in-ClosedCone
unfolding solid_measured
returns-in-ClosedCone c =
    c.cone_measured-in-ClosedCone.ensures ∙ rw c.in-ClosedCone.is
