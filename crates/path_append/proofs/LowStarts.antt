-- The filter leaves no start beyond its points, whatever the test. Assumes nothing.
use mathlib.Core.Path.{◌≡◌}
use mathlib.Core.List.{List}
use Prim.Native.Nat.{ℕ}
use lib.ListN.{length}
use Rattle.geometry.specs.declared.vector.Vector.{Vector}
use Rattle.paths.specs.Paths.{Paths}
use Rattle.paths.proofs.Laying.{laid-low}
use Rattle.path_filter.specs.Filter.{filter_paths}
use Rattle.path_filter.proofs.Laying.{filter-laid}
use Rattle.path_append.specs.Append.{Low}
use Rattle.std.specs.Prelude.{Ok, Option, Result}
use Rattle.refusals.specs.declared.Refusal.{Refusal}

pub filter-low : (test : Vector → Result (Option Vector) Refusal) (vs : List Vector) (ss : List ℕ) (room startRoom : ℕ) {q : Paths} → filter_paths test vs ss room startRoom ≡ Ok q → Low (length q.vertices) q.starts
filter-low test vs ss room startRoom e = laid-low (filter-laid test vs ss e)
