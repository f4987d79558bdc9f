-- The filter of a cut's lines (`BooleanShape`'s filter of csg.rs): the points that the cut contains are kept.
use Rattle.std.specs.Prelude.{cond, List, ℕ, None, Ok, Option, Result, Some}
use Rattle.floats.specs.Arith.{zero_f}
use Rattle.geometry.specs.declared.vector.Vector.{Vector}
use Rattle.scene_shape.specs.Shapes.{Shape, shape_contains}
use Rattle.paths.specs.Paths.{Paths}
use Rattle.path_filter.specs.Filter.{filter_paths}
use Rattle.refusals.specs.declared.Refusal.{Refusal}

-- kept as it is, in the cut's own coordinates; a cut's `contains` takes no heed of the widening that it is asked, 0
unfoldable pub cut_filter : Shape → Vector → Result (Option Vector) Refusal
cut_filter s v = cond (shape_contains s v zero_f) (Ok (Some v)) (Ok None)

abbrev pub cut_paths : Shape → List Vector → List ℕ → ℕ → ℕ → Result Paths Refusal
cut_paths s = filter_paths (cut_filter s)
