-- Points and boxes in rows: a point is 3 numbers, a box is 6, its least corner first. A number that a short row lacks reads as NaN; no code reads one.
use Rattle.std.specs.Prelude.{List, [], ◌∷◌, ℕ, get_or, Float}
use Rattle.std.specs.Float.{nan}
use Rattle.geometry.specs.Vectors.{vec}
use Rattle.geometry.specs.Boxes.{box_of}
use Rattle.geometry.specs.declared.vector.Vector.{Vector}
use Rattle.geometry.specs.declared.bounding_box.BBox.{BBox}
use Rattle.rows.specs.Rows.{view}

abbrev pub point_of : List Float → Vector
point_of r = vec (get_or r 0 nan) (get_or r 1 nan) (get_or r 2 nan)

abbrev pub point_row : Vector → List Float
point_row p = p.x ∷ p.y ∷ p.z ∷ []

abbrev pub box_of_row : List Float → BBox
box_of_row r = box_of (vec (get_or r 0 nan) (get_or r 1 nan) (get_or r 2 nan)) (vec (get_or r 3 nan) (get_or r 4 nan) (get_or r 5 nan))

abbrev pub box_row : BBox → List Float
box_row b = b.min.x ∷ b.min.y ∷ b.min.z ∷ b.max.x ∷ b.max.y ∷ b.max.z ∷ []

-- the first n points and boxes of a slice
abbrev pub points : ℕ → List Float → List Vector
points n xs = view 3 point_of n xs

abbrev pub boxes : ℕ → List Float → List BBox
boxes n xs = view 6 box_of_row n xs
