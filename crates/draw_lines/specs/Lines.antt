-- The lines of a triangle, and those that were handed in, path by path.
use Rattle.std.specs.Prelude.{Bool, cond, ◌&&◌, List, [], ◌∷◌, ℕ, length, get_or, ltb, eqb}
use Rattle.std.proofs.Math.Seq.{slice}
use Rattle.geometry.specs.declared.vector.Vector.{Vector}
use Rattle.rows.specs.Starts.{end_of}

-- a triangle is one path, back to its first corner (triangle.rs)
unfoldable pub triangle_paths : Vector → Vector → Vector → List (List Vector)
triangle_paths v1 v2 v3 = (v1 ∷ v2 ∷ v3 ∷ v1 ∷ []) ∷ []

-- whether entry i owns handed-in path j
unfoldable pub owned_by : List ℕ → ℕ → ℕ → Bool
owned_by owners j i = ltb j (length owners) && eqb (get_or owners j 0) i

-- handed-in path j, if entry i owns it
unfoldable pub own_path : ℕ → ℕ → List Vector → List ℕ → List ℕ → List (List Vector)
own_path i j vs ss owners = cond (owned_by owners j i) (slice (get_or ss j 0) (end_of (length vs) ss j) vs ∷ []) []

-- of the handed-in paths with their owners those of entry i, in order
unfoldable pub own_paths : ℕ → List (List Vector) → List ℕ → List (List Vector)
own_paths i [] owners = []
own_paths i (p ∷ ps) [] = []
own_paths i (p ∷ ps) (o ∷ os) = cond (eqb o i) (p ∷ own_paths i ps os) (own_paths i ps os)
