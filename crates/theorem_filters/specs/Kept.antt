-- What a filter's stage leaves, for any test: the points that the test keeps, in order, and no point was refused.
use Rattle.std.specs.Prelude.{◌≡◌, List, [], ◌∷◌, ◌++◌, ℕ, Err, None, Ok, Option, Result, Some}
use Rattle.geometry.specs.declared.vector.Vector.{Vector}
use Rattle.refusals.specs.declared.Refusal.{Refusal}
use Rattle.lists.specs.Lists.{Member}
use Rattle.paths.specs.Paths.{Paths, paths_of}
use Rattle.path_filter.specs.Filter.{filter_paths}

-- a test that meets no refusal
abbrev pub Tested : Result (Option Vector) Refusal → Type 0
Tested t = (k : Refusal) → t ≡ Err k → ⊥

-- a kept point stands before the others
unfoldable pub before : Result (Option Vector) Refusal → List Vector → List Vector
before (Ok (Some w)) ws = w ∷ ws
before (Ok None) ws = ws
before (Err k) ws = ws

-- the points that a test keeps, as it makes them, in order
unfoldable pub kept_in : (Vector → Result (Option Vector) Refusal) → List Vector → List Vector
kept_in test [] = []
kept_in test (v ∷ vs) = before (test v) (kept_in test vs)

-- of all paths, one path after the other
unfoldable pub kept_of : (Vector → Result (Option Vector) Refusal) → List (List Vector) → List Vector
kept_of test [] = []
kept_of test (p ∷ ps) = kept_in test p ++ kept_of test ps

-- each point of each path is answered
abbrev pub AllAnswered : (Vector → Result (Option Vector) Refusal) → List (List Vector) → Type 0
AllAnswered test ps = (p : List Vector) → Member p ps → (v : Vector) → Member v p → Tested (test v)

-- The points of a stage that is answered are those that the test keeps, in order, whatever the room; and each point was put to the test and answered.
abbrev pub StageKeeps : Type 0
StageKeeps =
    (test : Vector → Result (Option Vector) Refusal) (vs : List Vector) (ss : List ℕ) (room startRoom : ℕ) (q : Paths) → filter_paths test vs ss room startRoom ≡ Ok q
    → (q.vertices ≡ kept_of test (paths_of vs ss)) × AllAnswered test (paths_of vs ss)
