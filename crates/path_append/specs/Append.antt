-- Paths appended to others (`Paths::extend` of path.rs).
use Rattle.std.specs.Prelude.{List, map, ℕ, ◌+◌, ◌^◌, ◌≤◌, ◌<◌, length, get_or, Ok, Result}
use Rattle.geometry.specs.declared.vector.Vector.{Vector}
use Rattle.paths.specs.Answers.{next}
use Rattle.paths.specs.Paths.{Paths, paths_with, push_all}
use Rattle.refusals.specs.declared.Refusal.{Refusal}

-- a start among the points of q stands so much later once n points stand before them
abbrev pub shifted : ℕ → List ℕ → List ℕ
shifted n ss = map (λ (s : ℕ). s + n) ss

-- the starts of q, moved on by the points that there are, and then its points
unfoldable pub appended : ℕ → ℕ → Paths → Paths → Result Paths Refusal
appended room startRoom p q =
    next (push_all startRoom p.starts (shifted (length p.vertices) q.starts))
    (λ (ss : List ℕ). next (push_all room p.vertices q.vertices) (λ (vs : List Vector). Ok (paths_with vs ss)))

-- no start is beyond n points
abbrev pub Low : ℕ → List ℕ → Type 0
Low n ss = (j : ℕ) → j < length ss → get_or ss j 0 ≤ n

-- a `usize` holds each start once it is moved on by n
abbrev pub Movable : ℕ → List ℕ → Type 0
Movable n ss = (j : ℕ) → j < length ss → get_or ss j 0 + n < 2 ^ 64
