-- A solid of document 01's kinds 1 to 5, or of document 02's 8 and 9: its hit, its box, and whether it contains a point, by cases on the kind.
use Rattle.std.specs.Prelude.{Bool, false, Float}
use Rattle.geometry.specs.Boxes.{box_of}
use Rattle.geometry.specs.declared.vector.Vector.{Vector}
use Rattle.geometry.specs.declared.ray.Ray.{Ray}
use Rattle.geometry.specs.declared.hit.Hit.{Hit}
use Rattle.geometry.specs.declared.bounding_box.BBox.{BBox}
use Rattle.solids_lids.specs.Closed.{closed_cylinder_hit, closed_cone_hit, closed_cone_contains}
use Rattle.solids.specs.Spheres.{sphere_box, sphere_contains, sphere_hit}
use Rattle.solids.specs.Cylinders.{cylinder_box, cylinder_contains, cylinder_hit}
use Rattle.solids.specs.Cones.{cone_box, cone_hit}
use Rattle.solids.specs.Cubes.{cube_contains, cube_hit}
use Rattle.solids.specs.Triangles.{triangle_box, triangle_hit}
use Rattle.solids.specs.declared.solid.Solid.{Solid}
use Rattle.solids.specs.declared.solid.Solid.TheVariants.{Sphere, Cylinder, Cone, Cube, Triangle, ClosedCylinder, ClosedCone}

-- the hit that the solid gives a ray; a closed one has the open one's wall
unfoldable pub hit_of : Solid → Ray → Hit
hit_of (Sphere center radius) r = sphere_hit center radius r
hit_of (Cylinder radius z0 z1) r = cylinder_hit radius z0 z1 r
hit_of (Cone radius height) r = cone_hit radius height r
hit_of (Cube min max) r = cube_hit min max r
hit_of (Triangle v1 v2 v3) r = triangle_hit v1 v2 v3 r
hit_of (ClosedCylinder radius z0 z1) r = closed_cylinder_hit (cylinder_hit radius z0 z1 r) radius z0 z1 r
hit_of (ClosedCone radius height) r = closed_cone_hit (cone_hit radius height r) radius r

-- the solid's box; a closed one has the open one's
unfoldable pub solid_box : Solid → BBox
solid_box (Sphere center radius) = sphere_box center radius
solid_box (Cylinder radius z0 z1) = cylinder_box radius z0 z1
solid_box (Cone radius height) = cone_box radius height
solid_box (Cube min max) = box_of min max
solid_box (Triangle v1 v2 v3) = triangle_box v1 v2 v3
solid_box (ClosedCylinder radius z0 z1) = cylinder_box radius z0 z1
solid_box (ClosedCone radius height) = cone_box radius height

-- whether the solid, widened by f, contains the point; document 01: a cone contains nothing; document 02: a closed cylinder contains what kind 2 does
unfoldable pub contains_of : Solid → Vector → Float → Bool
contains_of (Sphere center radius) v f = sphere_contains center radius v f
contains_of (Cylinder radius z0 z1) v f = cylinder_contains radius z0 z1 v f
contains_of (Cone radius height) v f = false
contains_of (Cube min max) v f = cube_contains min max v f
contains_of (Triangle v1 v2 v3) v f = false
contains_of (ClosedCylinder radius z0 z1) v f = cylinder_contains radius z0 z1 v f
contains_of (ClosedCone radius height) v f = closed_cone_contains radius height v f
