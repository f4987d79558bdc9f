-- Which forms can be written, and which texts `yard` takes.
use Rattle.std.specs.Prelude.{ℕ, ◌+◌, ◌≤◌, ◌≡◌, true, false, List, [], ◌∷◌, T, length, Float}
use Rattle.std.specs.Float.{binary64}
use Rattle.std.specs.Float.Ieee.{fits}
use Rattle.geometry.specs.declared.vector.Vector.{Vector}
use Rattle.scene.specs.Entries.{striped}
use Rattle.check_parts.specs.Owners.{is_round}
use Rattle.view.specs.declared.View.{View}
use Rattle.text_heads.specs.Heads.{measures}
use Rattle.text_drawing.specs.Determined.{AllDoubles}
use Rattle.text_canonical.specs.Forms.{Form, round_form, cube_form, triangle_form, placed_form, cut_form, no_form}
use Rattle.text_canonical.specs.Canonical.{forms_text}

-- each number is one that an f64 can be
unfoldable pub F64s : List Float → Type 0
F64s [] = Unit
F64s (x ∷ xs) = T (fits binary64 x) × F64s xs

-- there are as many numbers as the kind has, each an f64; only a striped kind has a count; counts and operations are such as `yard` reads
unfoldable pub Writable : Form → Type 0
Writable (round_form k n xs ls) = (is_round k ≡ true) × (n ≤ 1000000) × (striped k ≡ false → n ≡ 0) × (length xs ≡ measures k) × F64s xs × AllDoubles ls
Writable (cube_form n xs) = (n ≤ 1000000) × (length xs ≡ 6) × F64s xs
Writable (triangle_form xs) = (length xs ≡ 9) × F64s xs
Writable (placed_form xs f) = (length xs ≡ 16) × F64s xs × Writable f
Writable (cut_form o f g) = (o ≤ 1000000) × Writable f × Writable g
Writable no_form = ⊥

-- ---- how much there is of a form: its entries, and the points and lines that are handed in
unfoldable pub form_entries : Form → ℕ
form_entries (round_form k n xs ls) = 1
form_entries (cube_form n xs) = 1
form_entries (triangle_form xs) = 1
form_entries (placed_form xs f) = form_entries f + 1
form_entries (cut_form o f g) = form_entries f + form_entries g + 1
form_entries no_form = 0

unfoldable pub points_among : List (List Vector) → ℕ
points_among [] = 0
points_among (l ∷ ls) = length l + points_among ls

unfoldable pub form_points : Form → ℕ
form_points (round_form k n xs ls) = points_among ls
form_points (cube_form n xs) = 0
form_points (triangle_form xs) = 0
form_points (placed_form xs f) = form_points f
form_points (cut_form o f g) = form_points f + form_points g
form_points no_form = 0

unfoldable pub form_lines : Form → ℕ
form_lines (round_form k n xs ls) = length ls
form_lines (cube_form n xs) = 0
form_lines (triangle_form xs) = 0
form_lines (placed_form xs f) = form_lines f
form_lines (cut_form o f g) = form_lines f + form_lines g
form_lines no_form = 0

unfoldable pub sum_of : (Form → ℕ) → List Form → ℕ
sum_of g [] = 0
sum_of g (f ∷ fs) = g f + sum_of g fs

-- the text fits what `yard` takes (document 01): 65,536 bytes, 512 entries, 2,048 points and as many lines
pub record FitsYard (v : View) (fs : List Form) : Type 0 where
  pub bytes : length (forms_text v fs) ≤ 65536
  pub entries : sum_of form_entries fs ≤ 512
  pub points : sum_of form_points fs ≤ 2048
  pub lines : sum_of form_lines fs ≤ 2048
