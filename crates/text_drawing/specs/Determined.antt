-- The text of a drawing determines it: how many paths there are, how many points each has, and each number but for the sign of a zero.
use Rattle.std.specs.Prelude.{◌≡◌, cond, List, [], ◌∷◌, map, T, Float}
use Rattle.std.specs.Float.{binary64}
use Rattle.std.specs.Float.Ieee.{fits, eq}
use Rattle.floats.specs.Arith.{zero_f}
use Rattle.geometry.specs.Vectors.{vec}
use Rattle.geometry.specs.declared.vector.Vector.{Vector}
use Rattle.text_drawing.specs.Drawings.{drawing_text}

-- a number with both zeros as +0; there is one NaN
unfoldable pub plain : Float → Float
plain x = cond (eq x zero_f) zero_f x

unfoldable pub plain_point : Vector → Vector
plain_point v = vec (plain v.x) (plain v.y) (plain v.z)

-- each number is one that an f64 can be
abbrev pub Double : Vector → Type 0
Double v = T (fits binary64 v.x) × T (fits binary64 v.y) × T (fits binary64 v.z)

unfoldable pub Doubles : List Vector → Type 0
Doubles [] = Unit
Doubles (v ∷ p) = Double v × Doubles p

unfoldable pub AllDoubles : List (List Vector) → Type 0
AllDoubles [] = Unit
AllDoubles (p ∷ ps) = Doubles p × AllDoubles ps

-- two drawings with the same text are the same drawing (proved in proofs/Determined.antt, `determined`)
abbrev pub Determines : Type 0
Determines = (ps qs : List (List Vector)) → AllDoubles ps → AllDoubles qs → drawing_text ps ≡ drawing_text qs → map (map plain_point) ps ≡ map (map plain_point) qs
