-- Document 01's worked cut, computed by the checker. Assumes nothing.
use mathlib.Core.Path.{refl}
use lib.Ieee.{add, sub, mul, div, lt, le, eq, neg, is_nan, of_bits}
use Rattle.floats.specs.Numbers.{min_of, max_of}
use Rattle.geometry.specs.Vectors.{add_v, sub_v, div_v, mul_scalar, min_v, max_v, min_component, max_component}
use Rattle.geometry.specs.Rays.{position}
use Rattle.geometry.specs.Hits.{is_ok, min_hit}
use Rattle.geometry.specs.Boxes.{ordered}
use Rattle.solids.specs.Cubes.{cube_hit, cube_contains, outside}
use Rattle.solids.specs.Solids.{hit_of, contains_of}
use Rattle.scene_shape.specs.Cuts.{both, restarted, takes_away, cut_contains, from_first, tell_of, accepted_or, step}
use Rattle.scene_shape.specs.Shapes.{shape_hit, shape_contains, cut_from}
use Rattle.theorem_solids.specs.OpenCube.{WorkedCuts}

pub worked-cuts : WorkedCuts
unfolding shape_hit cut_from step both accepted_or tell_of from_first restarted takes_away cut_contains shape_contains hit_of cube_hit contains_of cube_contains outside position is_ok min_hit ordered add_v sub_v div_v mul_scalar min_v max_v min_component max_component min_of max_of add sub mul div lt le eq neg is_nan of_bits
worked-cuts = record { last = refl; whole = refl }
