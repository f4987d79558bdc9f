-- Paths as the Rust keeps them (path.rs), the points of all paths and where each path starts, with its verbs. Room is how many places a lent slice has.
use Rattle.std.specs.Prelude.{cond, ◌&&◌, List, [], ◌∷◌, ◌++◌, ℕ, ◌-◌, length, take, get_or, ltb, eqb, Err, Ok, Result}
use Rattle.std.proofs.Math.Seq.{slice}
use Rattle.geometry.specs.declared.vector.Vector.{Vector}
use Rattle.refusals.specs.declared.Refusal.TheVariants.{Room}
use Rattle.rows.specs.Starts.{next_start}
use Rattle.paths.specs.Answers.{next}
use Rattle.refusals.specs.declared.Refusal.{Refusal}

-- one more; document 01's number 13 where the slice is full
unfoldable pub push : {A : Type 0} → ℕ → List A → A → Result (List A) Refusal
push room xs x = cond (ltb (length xs) room) (Ok (xs ++ (x ∷ []))) (Err Room)

-- one after the other
unfoldable pub push_all : {A : Type 0} → ℕ → List A → List A → Result (List A) Refusal
push_all room xs [] = Ok xs
push_all {A} room xs (y ∷ ys) = next (push room xs y) (λ (zs : List A). push_all room zs ys)

-- all but the last
unfoldable pub front : {A : Type 0} → List A → List A
front xs = take (length xs - 1) xs

pub record Paths : Type 0 where
  pub vertices : List Vector
  pub starts : List ℕ

abbrev pub paths_with : List Vector → List ℕ → Paths
paths_with vs ss = record { vertices = vs; starts = ss }

abbrev pub no_paths : Paths
no_paths = paths_with [] []

-- the paths one after the other (`iter_paths`): each goes up to the start of the next, and the last to the end
unfoldable pub paths_of : List Vector → List ℕ → List (List Vector)
paths_of vs [] = []
paths_of vs (s ∷ ss) = slice s (next_start (length vs) ss) vs ∷ paths_of vs ss

-- a new path (`new_path`) starts after the points that there are, and takes a place at once
unfoldable pub opened : ℕ → Paths → Result Paths Refusal
opened room p = next (push room p.starts (length p.vertices)) (λ (ss : List ℕ). Ok (paths_with p.vertices ss))

-- `NewPath`'s drop: a last path without points vanishes
unfoldable pub closed_starts : List ℕ → ℕ → List ℕ
closed_starts ss n = cond (ltb 0 (length ss) && eqb (get_or ss (length ss - 1) 0) n) (front ss) ss

unfoldable pub closed : Paths → Paths
closed p = paths_with p.vertices (closed_starts p.starts (length p.vertices))

-- a path that is opened, worked and closed; work pushes its points
unfoldable pub one_path : (ℕ → List Vector → List Vector → Result (List Vector) Refusal) → ℕ → ℕ → List Vector → Paths → Result Paths Refusal
one_path work room startRoom p out =
    next (opened startRoom out) (λ (o : Paths). next (work room p o.vertices) (λ (vs : List Vector). Ok (closed (paths_with vs o.starts))))

-- each path in turn
unfoldable pub each : (List Vector → Paths → Result Paths Refusal) → List (List Vector) → Paths → Result Paths Refusal
each f [] out = Ok out
each f (p ∷ ps) out = next (f p out) (each f ps)

-- a stage: from the points and starts of paths to new ones, with what is done for each path, and the room of the two slices
unfoldable pub stage : (ℕ → ℕ → List Vector → Paths → Result Paths Refusal) → List Vector → List ℕ → ℕ → ℕ → Result Paths Refusal
stage f vs ss room startRoom = each (f room startRoom) (paths_of vs ss) no_paths

-- the paths that have points: the others vanish
unfoldable pub with_points : List (List Vector) → List (List Vector)
with_points [] = []
with_points ([] ∷ ps) = with_points ps
with_points ((v ∷ p) ∷ ps) = (v ∷ p) ∷ with_points ps
