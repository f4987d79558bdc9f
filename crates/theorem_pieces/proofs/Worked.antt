-- Document 01's worked pieces marked P, computed by the checker. Assumes nothing.
use mathlib.Core.Path.{refl}
use lib.Ieee.{add, sub, mul, div, lt, le, eq, neg, is_nan, of_bits}
use Rattle.floats.specs.Numbers.{min_of, max_of}
use Rattle.sqrt.specs.Root.{sqrt_of}
use Rattle.geometry.specs.Vectors.{add_v, sub_v, mul_v, div_v, mul_scalar, dot, cross, length_squared, length_of, distance_of, distance_squared, min_v, max_v, min_component, max_component, foot_distance, segment_distance}
use Rattle.geometry.specs.Rays.{position}
use Rattle.geometry.specs.Boxes.{ordered}
use Rattle.solids.specs.Roots.{roots_of, first_hit}
use Rattle.solids.specs.Spheres.{sphere_hit}
use Rattle.solids.specs.Cylinders.{on_tube, cylinder_hit}
use Rattle.solids.specs.Cones.{on_cone, cone_hit}
use Rattle.solids.specs.Cubes.{cube_hit}
use Rattle.solids.specs.Triangles.{triangle_hit}
use Rattle.solids.specs.Solids.{hit_of}
use Rattle.paths.specs.Paths.{front}
use Rattle.path_rdp.specs.Rdp.{farther, farthest_from, farthest_of, halved, thinned, rdp, simplified}
use Rattle.theorem_pieces.specs.Worked.{WorkedPieces}

pub worked : WorkedPieces
unfolding sqrt_of hit_of simplified rdp thinned halved farthest_of farthest_from farther front segment_distance foot_distance distance_of distance_squared length_of length_squared add_v sub_v mul_v div_v mul_scalar dot cross min_v max_v min_component max_component min_of max_of position ordered roots_of first_hit sphere_hit on_tube cylinder_hit on_cone cone_hit cube_hit triangle_hit add sub mul div lt le eq neg is_nan of_bits
worked = refl
