-- The lines of a cube (`paths_striped`, cube.rs), path by path; a and b are its least and greatest corners.
use Rattle.std.specs.Prelude.{cond, List, [], ◌∷◌, ◌++◌, ℕ, zero, suc, eqb, pos, Float}
use Rattle.std.specs.Float.{binary64}
use Rattle.std.specs.Float.Ieee.{of_int}
use Rattle.floats.specs.Arith.{◌⊕◌, ◌⊖◌, ◌⊗◌, ◌⊘◌}
use Rattle.geometry.specs.Vectors.{vec}
use Rattle.geometry.specs.declared.vector.Vector.{Vector}
use Rattle.draw_lines.specs.declared.Along.{Along}

-- where stripe i lies: the Rust's x, y, x_ and y_
unfoldable pub stripe_at : Vector → Vector → ℕ → ℕ → Along
stripe_at a b stripes i =
    let p = of_int binary64 (pos i) ⊘ of_int binary64 (pos stripes) in
    record {
      x = a.x ⊕ (b.x ⊖ a.x) ⊗ p;
      y = a.y ⊕ (b.y ⊖ a.y) ⊗ p;
      u = b.x ⊖ (b.x ⊖ a.x) ⊗ p;
      v = b.y ⊖ (b.y ⊖ a.y) ⊗ p;
    }

-- a line on each side, from z1 to z2
unfoldable pub sides : Vector → Vector → Along → List (List Vector)
sides a b s =
    (vec s.x a.y a.z ∷ vec s.x a.y b.z ∷ [])
    ∷ (vec s.u b.y a.z ∷ vec s.u b.y b.z ∷ [])
    ∷ (vec a.x s.v a.z ∷ vec a.x s.v b.z ∷ [])
    ∷ (vec b.x s.y a.z ∷ vec b.x s.y b.z ∷ [])
    ∷ []

-- two lines on the face at z
unfoldable pub across : Along → Float → List (List Vector)
across s z =
    (vec s.x s.y z ∷ vec s.u s.y z ∷ [])
    ∷ (vec s.x s.y z ∷ vec s.x s.v z ∷ [])
    ∷ []

unfoldable pub faces : Vector → Vector → Along → List (List Vector)
faces a b s = across s a.z ++ across s b.z

-- stripe i: the last one has no lines on the sides
unfoldable pub stripe : Vector → Vector → ℕ → ℕ → List (List Vector)
stripe a b stripes i =
    let s = stripe_at a b stripes i in
    cond (eqb i stripes) [] (sides a b s) ++ faces a b s

-- k stripes from i on
unfoldable pub stripes_from : Vector → Vector → ℕ → ℕ → ℕ → List (List Vector)
stripes_from a b stripes zero i = []
stripes_from a b stripes (suc k) i = stripe a b stripes i ++ stripes_from a b stripes k (suc i)

-- the stripes from 0 up to the last, which is one more than there are stripes; 1 stripe is `Vanilla`
unfoldable pub paths_striped : Vector → Vector → ℕ → List (List Vector)
paths_striped a b stripes = stripes_from a b stripes (suc stripes) 0
