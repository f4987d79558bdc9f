-- The filter (`path_filter` of path.rs) by any test: each point of a path is kept, dropped or refused.
use Rattle.std.specs.Prelude.{List, [], ◌∷◌, ℕ, Err, None, Ok, Option, Result, Some}
use Rattle.geometry.specs.declared.vector.Vector.{Vector}
use Rattle.paths.specs.Answers.{next}
use Rattle.paths.specs.Paths.{Paths, paths_with, push, opened, closed, stage}
use Rattle.refusals.specs.declared.Refusal.{Refusal}

-- what a point does, by its test: a kept one is pushed, as the test makes it; a dropped one closes the path and opens another
unfoldable pub stepped : ℕ → ℕ → Result (Option Vector) Refusal → Paths → Result Paths Refusal
stepped room startRoom (Ok (Some v)) o = next (push room o.vertices v) (λ (vs : List Vector). Ok (paths_with vs o.starts))
stepped room startRoom (Ok None) o = opened startRoom (closed o)
stepped room startRoom (Err k) o = Err k

unfoldable pub filtered_from : (Vector → Result (Option Vector) Refusal) → ℕ → ℕ → List Vector → Paths → Result Paths Refusal
filtered_from test room startRoom [] o = Ok o
filtered_from test room startRoom (v ∷ vs) o = next (stepped room startRoom (test v) o) (filtered_from test room startRoom vs)

-- a path is opened, each of its points tested, and the last path opened is closed
unfoldable pub path_filter : (Vector → Result (Option Vector) Refusal) → ℕ → ℕ → List Vector → Paths → Result Paths Refusal
path_filter test room startRoom p out = next (opened startRoom out) (λ (o : Paths). next (filtered_from test room startRoom p o) (λ (q : Paths). Ok (closed q)))

abbrev pub filter_paths : (Vector → Result (Option Vector) Refusal) → List Vector → List ℕ → ℕ → ℕ → Result Paths Refusal
filter_paths test vs ss room startRoom = stage (path_filter test) vs ss room startRoom
