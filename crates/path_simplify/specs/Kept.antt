-- Demand 3 on simplification, of a public call that is answered.
use Rattle.std.specs.Prelude.{List, Float, ℕ}
use Rattle.geometry.specs.declared.vector.Vector.{Vector}
use Rattle.paths.specs.Paths.{paths_of, with_points}
use Rattle.paths.specs.Ends.{all_points}
use Rattle.lists.specs.Lists.{Pairwise}
use Rattle.path_rdp.specs.Demand.{Accepted, Simplifies}

-- the paths handed in that have points, and the paths that are left, with their points vs and starts us: one for each, with all three parts of the demand
abbrev pub Kept : Float → List Float → List ℕ → List Vector → List ℕ → Type 0
Kept t xs ss vs us = Pairwise (λ (p q : List Vector). Accepted t p × Simplifies t p q) (with_points (paths_of (all_points xs) ss)) (paths_of vs us)
