-- The whole text: forms, one a line, the view first.
use Rattle.std.specs.Prelude.{ℕ, cond, List, [], ◌∷◌, ◌++◌, eqb, leb, length, drop}
use Rattle.view.specs.declared.View.{View}
use Rattle.scene.specs.Scenes.{Scene, scene_of}
use Rattle.text_tokens.specs.Tokens.{Token, Got, no, got, and_then, left}
use Rattle.text_heads.specs.Heads.{view_in}
use Rattle.text_forms.specs.Forms.{form}

-- The lines of s, what stands between its line feeds, after the bytes w of a line that is being read.
unfoldable pub lines_from : List ℕ → List ℕ → List (List ℕ)
lines_from w [] = w ∷ []
lines_from w (b ∷ s) = cond (eqb b 10) (w ∷ lines_from [] s) (lines_from (w ++ (b ∷ [])) s)

-- a line of spaces alone, or of nothing, is skipped
unfoldable pub unless_empty : List Token → List (List Token) → List (List Token)
unless_empty [] ls = ls
unless_empty (t ∷ ts) ls = (t ∷ ts) ∷ ls

-- the tokens of each line that has any
unfoldable pub filled : List (List ℕ) → List (List Token)
filled [] = []
filled (l ∷ ls) = unless_empty (left l 0) (filled ls)

-- those of a text from a place on
unfoldable pub lines_left : List ℕ → ℕ → List (List Token)
lines_left s at = filled (lines_from [] (drop at s))

-- a form is the whole of its line
unfoldable pub whole_line : {A : Type 0} → Got A → Got A
whole_line no = no
whole_line (got a []) = got a []
whole_line (got a (t ∷ ts)) = no

-- the forms of these lines, added to a scene
unfoldable pub forms_in : Scene → List (List Token) → Got Scene
forms_in s [] = got s []
forms_in s (l ∷ ls) = and_then (whole_line (form 512 s l)) (λ a _. forms_in a ls)

-- a view and a scene
pub record Yard : Type 0 where
  pub view : View
  pub scene : Scene

abbrev pub empty_scene : Scene
empty_scene = scene_of [] [] [] [] []

unfoldable pub yard_in : List (List Token) → Got Yard
yard_in [] = no
yard_in (l ∷ ls) = and_then (whole_line (view_in l)) (λ v _. and_then (forms_in empty_scene ls) (λ s ts. got (record { view = v; scene = s }) ts))

-- what a text of at most 65,536 bytes stands for
unfoldable pub yard_of : List ℕ → Got Yard
yard_of text = cond (leb (length text) 65536) (yard_in (lines_left text 0)) no
