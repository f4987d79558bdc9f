-- Document 02's canonical text of a view and a scene: single spaces between items only, one form a line, each ended by a line feed.
use Rattle.std.specs.Prelude.{ℕ, cond, List, [], ◌∷◌, ◌++◌, eqb, Float}
use Rattle.std.specs.Float.{binary64}
use Rattle.std.specs.Float.Ieee.{to_bits}
use Rattle.geometry.specs.declared.vector.Vector.{Vector}
use Rattle.rows.specs.Rows.{flat}
use Rattle.rows.specs.Points.{point_row}
use Rattle.rows.specs.Entries.{numbers_row}
use Rattle.scene.specs.Entries.{matrix_numbers}
use Rattle.scene.specs.Scenes.{Scene}
use Rattle.view.specs.declared.View.{View}
use Rattle.text_heads.specs.Heads.{sphere, cylinder, cone, cube, triangle, place, cut, closed_cylinder, closed_cone, view_word, line_word}
use Rattle.text_drawing.specs.Numbers.{hex_word, decimal_text}
use Rattle.text_canonical.specs.Forms.{Form, round_form, cube_form, triangle_form, placed_form, cut_form, no_form, forms_of}

-- the head of a round kind
unfoldable pub round_word : ℕ → List ℕ
round_word k = cond (eqb k 1) sphere (cond (eqb k 2) cylinder (cond (eqb k 3) cone (cond (eqb k 8) closed_cylinder closed_cone)))

-- ---- items, each with a space before it

-- # and sixteen upper-case digits, the bits as they are: -0 is #8000000000000000, and the NaN #7FF8000000000000
unfoldable pub hex_text : Float → List ℕ
hex_text x = 32 ∷ 35 ∷ hex_word 16 (to_bits binary64 x)

abbrev pub numbers_text : List Float → List ℕ
numbers_text xs = flat hex_text xs

-- a count or an operation, in decimal without leading zeros
abbrev pub count_text : ℕ → List ℕ
count_text n = 32 ∷ decimal_text n

-- a round solid's count of 0 is left out
unfoldable pub stripes_text : ℕ → List ℕ
stripes_text n = cond (eqb n 0) [] (count_text n)

-- " (line x y z x y z ..)": a path without points is " (line)"
unfoldable pub line_text : List Vector → List ℕ
line_text ps = 32 ∷ 40 ∷ (line_word ++ (numbers_text (flat point_row ps) ++ (41 ∷ [])))

-- ---- a form

unfoldable pub form_text : Form → List ℕ
form_text (round_form k n xs ls) = 40 ∷ (round_word k ++ (numbers_text xs ++ (stripes_text n ++ (flat line_text ls ++ (41 ∷ [])))))
form_text (cube_form n xs) = 40 ∷ (cube ++ (count_text n ++ (numbers_text xs ++ (41 ∷ []))))
form_text (triangle_form xs) = 40 ∷ (triangle ++ (numbers_text xs ++ (41 ∷ [])))
form_text (placed_form xs f) = 40 ∷ (place ++ (numbers_text xs ++ (32 ∷ (form_text f ++ (41 ∷ [])))))
form_text (cut_form o f g) = 40 ∷ (cut ++ (count_text o ++ (32 ∷ (form_text f ++ (32 ∷ (form_text g ++ (41 ∷ [])))))))
form_text no_form = []

-- width, height, step, eye, matrix by rows
abbrev pub view_numbers : View → List Float
view_numbers v = v.width ∷ v.height ∷ v.step ∷ v.eye.x ∷ v.eye.y ∷ v.eye.z ∷ numbers_row (matrix_numbers v.matrix)

unfoldable pub view_text : View → List ℕ
view_text v = 40 ∷ (view_word ++ (numbers_text (view_numbers v) ++ (41 ∷ [])))

-- ---- the whole text

unfoldable pub form_line : Form → List ℕ
form_line f = form_text f ++ (10 ∷ [])

-- the view's line, then a line for each form
unfoldable pub forms_text : View → List Form → List ℕ
forms_text v fs = view_text v ++ (10 ∷ flat form_line fs)

-- document 02's canonical text: the drawn entries in order
abbrev pub canonical_text : View → Scene → List ℕ
canonical_text v s = forms_text v (forms_of s)
