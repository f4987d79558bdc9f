-- What a filter's stage leaves, path by path: each line cut at every point that is not kept. The pen never runs from one kept point to another across a
-- dropped one.
use Rattle.std.specs.Prelude.{◌≡◌, ◌⊎◌, List, [], ◌∷◌, ◌++◌, ℕ, Err, None, Ok, Option, Result, Some}
use Rattle.geometry.specs.declared.vector.Vector.{Vector}
use Rattle.lists.specs.Lists.{Member}
use Rattle.paths.specs.Paths.{Paths, paths_of, with_points}
use Rattle.path_filter.specs.Filter.{filter_paths}
use Rattle.refusals.specs.declared.Refusal.{Refusal}

-- a kept point begins the run that follows it; any other point ends one
unfoldable pub cut_at : Result (Option Vector) Refusal → List (List Vector) → List (List Vector)
cut_at (Ok (Some w)) [] = (w ∷ []) ∷ []
cut_at (Ok (Some w)) (r ∷ rs) = (w ∷ r) ∷ rs
cut_at (Ok None) rs = [] ∷ rs
cut_at (Err k) rs = [] ∷ rs

-- the runs of kept points of a line, and of all lines, in order; some are empty
unfoldable pub runs_in : (Vector → Result (Option Vector) Refusal) → List Vector → List (List Vector)
runs_in test [] = [] ∷ []
runs_in test (v ∷ vs) = cut_at (test v) (runs_in test vs)

unfoldable pub runs_of : (Vector → Result (Option Vector) Refusal) → List (List Vector) → List (List Vector)
runs_of test [] = []
runs_of test (p ∷ ps) = runs_in test p ++ runs_of test ps

-- The paths of a stage that is answered are those runs that have points, whatever the room.
abbrev pub StageCuts : Type 0
StageCuts =
    (test : Vector → Result (Option Vector) Refusal) (vs : List Vector) (ss : List ℕ) (room startRoom : ℕ) (q : Paths) → filter_paths test vs ss room startRoom ≡ Ok q
    → paths_of q.vertices q.starts ≡ with_points (runs_of test (paths_of vs ss))

-- y comes right after x in the path
abbrev pub After : List Vector → Vector → Vector → Type 0
After [] x y = ⊥
After (a ∷ []) x y = ⊥
After (a ∷ b ∷ p) x y = ((a ≡ x) × (b ≡ y)) ⊎ After (b ∷ p) x y

-- x and y, one right after the other in a path that is left, are what two points make that stood so in one of these lines
pub record Unbroken (test : Vector → Result (Option Vector) Refusal) (lines : List (List Vector)) (x y : Vector) : Type 0 where
  pub line : List Vector
  pub among : Member line lines
  pub from : Vector
  pub to : Vector
  pub neighbours : After line from to
  pub from_kept : test from ≡ Ok (Some x)
  pub to_kept : test to ≡ Ok (Some y)

-- So a pen that runs from one end of a line of three to the other, across a dropped point, is not unbroken, whatever the test makes of the ends.
abbrev pub NeverAcross : Type 0
NeverAcross = (test : Vector → Result (Option Vector) Refusal) (a b c x y : Vector) → test b ≡ Ok None → Unbroken test ((a ∷ b ∷ c ∷ []) ∷ []) x y → ⊥

abbrev pub StageUnbroken : Type 0
StageUnbroken =
    (test : Vector → Result (Option Vector) Refusal) (vs : List Vector) (ss : List ℕ) (room startRoom : ℕ) (q : Paths) → filter_paths test vs ss room startRoom ≡ Ok q
    → (path : List Vector) → Member path (paths_of q.vertices q.starts) → (x y : Vector) → After path x y → Unbroken test (paths_of vs ss) x y
