-- The arrays that the calls take and fill, as the values that they hold, and what the calls on a solid answer.
use Rattle.std.specs.Prelude.{◌≡◌, Bool, false, List, [], ◌∷◌, ℕ, get_or, Float, None, Option, Result, Some}
use Rattle.std.specs.Float.{nan}
use Rattle.floats.specs.Arith.{zero_f}
use Rattle.geometry.specs.Rays.{ray_of}
use Rattle.geometry.specs.Vectors.{vec}
use Rattle.geometry.specs.declared.vector.Vector.{Vector}
use Rattle.geometry.specs.declared.ray.Ray.{Ray}
use Rattle.geometry.specs.declared.bounding_box.Span.{Span}
use Rattle.matrix.specs.declared.Matrix.{Matrix}
use Rattle.rows.specs.Rows.{padded}
use Rattle.rows.specs.Points.{box_row}
use Rattle.scene.specs.Scenes.{Scene}
use Rattle.check_parts.specs.Drawn.{drawn}
use Rattle.check_scene.specs.Checks.{check_of, inverses_of, boxes_of, if_accepted}
use Rattle.query_solid.specs.Answers.{drawn_count, inside}
use Rattle.solids.specs.Solids.{hit_of, solid_box, contains_of}
use Rattle.refusals.specs.declared.Refusal.{Refusal}
use Rattle.solids.specs.declared.solid.Solid.{Solid}
use Rattle.refusals.specs.Refusals.{answer_number}

-- an origin and a direction
abbrev pub ray_of_row : List Float → Ray
ray_of_row r = ray_of (vec (get_or r 0 nan) (get_or r 1 nan) (get_or r 2 nan)) (vec (get_or r 3 nan) (get_or r 4 nan) (get_or r 5 nan))

abbrev pub span_row : Span → List Float
span_row s = s.tmin ∷ s.tmax ∷ []

-- by rows
abbrev pub matrix_row : Matrix → List Float
matrix_row m =
    m.x00 ∷ m.x01 ∷ m.x02 ∷ m.x03 ∷ m.x10 ∷ m.x11 ∷ m.x12 ∷ m.x13
    ∷ m.x20 ∷ m.x21 ∷ m.x22 ∷ m.x23 ∷ m.x30 ∷ m.x31 ∷ m.x32 ∷ m.x33 ∷ []

-- 0, or document 01's number 3 where the kind is none of 1 to 5, 8 and 9; what is lent is then +0 and false
unfoldable pub simple_number : Option Solid → ℕ
simple_number (Some s) = 0
simple_number None = 3

unfoldable pub distance_to : Option Solid → Ray → Float
distance_to (Some s) r = (hit_of s r).t
distance_to None r = zero_f

unfoldable pub strikes : Option Solid → Ray → Bool
strikes (Some s) r = (hit_of s r).ok
strikes None r = false

unfoldable pub box_numbers : Option Solid → List Float
box_numbers (Some s) = box_row (solid_box s)
box_numbers None = zero_f ∷ zero_f ∷ zero_f ∷ zero_f ∷ zero_f ∷ zero_f ∷ []

unfoldable pub inside_simple : Option Solid → Vector → Float → Bool
inside_simple (Some s) p f = contains_of s p f
inside_simple None p f = false

-- what the check of a scene answers and leaves: its number, the three arrays, and how many entries are drawn
abbrev pub CheckTold : Scene → ℕ → List Float → List Float → List ℕ → ℕ → Type 0
CheckTold s number inverses boxes listed count =
    let v = check_of s in
    (number ≡ answer_number v)
    × ((inverses ≡ padded zero_f 16384 (if_accepted v (inverses_of s)))
    × ((boxes ≡ padded zero_f 6144 (if_accepted v (boxes_of s)))
    × ((listed ≡ padded 0 1024 (if_accepted v (drawn s.marks)))
    × (count ≡ drawn_count v))))

-- what a call tells of the inside of a solid
abbrev pub ContainedTold : Result Bool Refusal → ℕ → Bool → Type 0
ContainedTold c number within = (number ≡ answer_number c) × (within ≡ inside c)
