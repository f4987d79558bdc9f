-- Document 01's number 5: the used numbers of an entry are within 1,000,000, and its measures make sense.
use Rattle.std.specs.Prelude.{Bool, true, not, ◌&&◌, ◌||◌, cond, eqb, Float, None, Option, Some}
use Rattle.std.specs.Float.Ieee.{lt}
use Rattle.floats.specs.Arith.{zero_f}
use Rattle.floats.specs.Numbers.{within}
use Rattle.geometry.specs.declared.vector.Vector.{Vector}
use Rattle.rows.specs.declared.Marks.{Marks}
use Rattle.rows.specs.declared.Numbers.{Numbers}
use Rattle.solids.specs.declared.solid.Solid.{Solid}
use Rattle.solids.specs.declared.solid.Solid.TheVariants.{Sphere, Cylinder, Cone, Cube, Triangle, ClosedCylinder, ClosedCone}
use Rattle.scene.specs.Entries.{simple_of, matrix_of}
use Rattle.limits.specs.Limits.{within_point, within_matrix}

-- a radius: within the limit, and not negative
unfoldable pub is_radius : Float → Bool
is_radius r = within r && not (lt r zero_f)

-- a coordinate of a exceeds that of b
unfoldable pub exceeds : Vector → Vector → Bool
exceeds a b = lt b.x a.x || (lt b.y a.y || lt b.z a.z)

unfoldable pub cylinder_measured : Float → Float → Float → Bool
cylinder_measured r z0 z1 = is_radius r && (within z0 && (within z1 && not (lt z1 z0)))

unfoldable pub cone_measured : Float → Float → Bool
cone_measured r h = is_radius r && (within h && lt zero_f h)

unfoldable pub cube_measured : Vector → Vector → Bool
cube_measured a b = within_point a && (within_point b && not (exceeds a b))

unfoldable pub triangle_measured : Vector → Vector → Vector → Bool
triangle_measured a b c = within_point a && (within_point b && within_point c)

-- the used numbers of a simple solid are its measures
unfoldable pub solid_measured : Solid → Bool
solid_measured (Sphere c r) = within_point c && is_radius r
solid_measured (Cylinder r z0 z1) = cylinder_measured r z0 z1
solid_measured (Cone r h) = cone_measured r h
solid_measured (Cube a b) = cube_measured a b
solid_measured (Triangle a b c) = triangle_measured a b c
solid_measured (ClosedCylinder r z0 z1) = cylinder_measured r z0 z1
solid_measured (ClosedCone r h) = cone_measured r h

unfoldable pub simple_measured : Option Solid → Bool
simple_measured (Some s) = solid_measured s
simple_measured None = true

-- a placing uses all 16 numbers, a cut none
unfoldable pub measured : Marks → Numbers → Bool
measured m n = cond (eqb m.kind 6) (within_matrix (matrix_of n)) (simple_measured (simple_of m.kind n))
