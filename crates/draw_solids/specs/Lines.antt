-- The lines of a solid of kinds 1 to 5, 8 or 9, path by path.
use Rattle.std.specs.Prelude.{List, ◌++◌, ℕ}
use Rattle.geometry.specs.declared.vector.Vector.{Vector}
use Rattle.solids.specs.declared.solid.Solid.{Solid}
use Rattle.solids.specs.declared.solid.Solid.TheVariants.{Sphere, Cylinder, Cone, Cube, Triangle, ClosedCylinder, ClosedCone}
use Rattle.draw_lines.specs.Cubes.{paths_striped}
use Rattle.draw_lines.specs.Lines.{triangle_paths}
use Rattle.draw_solids.specs.Stripes.{round_striped}
use Rattle.draw_solids.specs.declared.Flank.TheVariants.{Upright, Slanted}

-- A cylinder or a cone, open or closed, has as many stripes as its detail says, and then the lines that were handed in for it, a sphere these alone, a cube as many stripes as its detail says.
unfoldable pub solid_paths : Solid → ℕ → List (List Vector) → List (List Vector)
solid_paths (Sphere center radius) detail own = own
solid_paths (Cylinder radius z0 z1) detail own = round_striped (Upright radius z0 z1) detail ++ own
solid_paths (Cone radius height) detail own = round_striped (Slanted radius height) detail ++ own
solid_paths (Cube min max) detail own = paths_striped min max detail
solid_paths (Triangle v1 v2 v3) detail own = triangle_paths v1 v2 v3
solid_paths (ClosedCylinder radius z0 z1) detail own = round_striped (Upright radius z0 z1) detail ++ own
solid_paths (ClosedCone radius height) detail own = round_striped (Slanted radius height) detail ++ own
