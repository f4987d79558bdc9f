-- The (line ..) forms of a round form. A reader adds to the scene that is held so far.
use Rattle.std.specs.Prelude.{ℕ, zero, suc, ◌-◌, ◌/◌, List, [], ◌∷◌, ◌++◌, length}
use Rattle.geometry.specs.declared.vector.Vector.{Vector}
use Rattle.rows.specs.Points.{point_row}
use Rattle.scene.specs.Scenes.{Scene, scene_of}
use Rattle.text_tokens.specs.Tokens.{Token, Got, no, got, Mark, and_then, close_in}
use Rattle.text_heads.specs.Heads.{named_in, line_word, point_in}

-- what follows this where it is there, else that
unfoldable pub or_else : {A : Type 0} → Got Mark → (List Token → Got A) → Got A → Got A
or_else (got m ts) f g = f ts
or_else no f g = g

unfoldable pub dotted : Vector → Scene → Scene
dotted p s = scene_of s.numbers s.marks (s.points ++ point_row p) s.starts s.owners

-- the points of a line up to its closing bracket, with places for n more
unfoldable pub points_in : ℕ → Scene → List Token → Got Scene
points_in zero s ts = or_else (close_in ts) (got s) no
points_in (suc n) s ts = or_else (close_in ts) (got s) (and_then (point_in ts) (λ p us. points_in n (dotted p s) us))

abbrev pub point_count : Scene → ℕ
point_count s = length s.points / 3

-- a line of the entry i begins: it starts at the next point
unfoldable pub begun : ℕ → Scene → Scene
begun i s = scene_of s.numbers s.marks s.points (s.starts ++ (point_count s ∷ [])) (s.owners ++ (i ∷ []))

-- the lines of the entry i up to its closing bracket, with places for n more, and for 2,048 points in all
unfoldable pub lines_in : ℕ → ℕ → Scene → List Token → Got Scene
lines_in i zero s ts = or_else (close_in ts) (got s) no
lines_in i (suc n) s ts =
    or_else (close_in ts) (got s)
    (and_then (named_in line_word ts) (λ _ us. and_then (points_in (2048 - point_count s) (begun i s) us) (λ r vs. lines_in i n r vs)))
