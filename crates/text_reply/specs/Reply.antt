-- What the program `yard` answers a text: the drawing of the scene that it stands for, or why it is refused.
use Rattle.std.specs.Prelude.{ℕ, List, [], Err, Ok, Result}
use Rattle.floats.specs.Arith.{millionth}
use Rattle.refusals.specs.Refusals.{number_of}
use Rattle.scene.specs.Scenes.{Scene}
use Rattle.paths.specs.Paths.{Paths, paths_of}
use Rattle.view.specs.declared.View.{View}
use Rattle.draw_render.specs.Render.{Places}
use Rattle.draw.specs.Draw.{draw_with}
use Rattle.text_tokens.specs.Tokens.{Got, no, got}
use Rattle.text_scene.specs.Texts.{Yard, yard_of}
use Rattle.text_drawing.specs.Drawings.{drawing_text, refused_text}
use Rattle.refusals.specs.declared.Refusal.{Refusal}

-- the places of `yard`: 2,048 points, path starts or nodes in each slice
abbrev pub yard_places : Places
yard_places = record {
  lines = record { points = 2048; starts = 2048; chopped = 2048; begins = 2048 };
  nodes = 2048;
  order = 2048;
  points = 2048;
  starts = 2048;
}

-- the text of a draw's answer: its paths, or the number of its refusal
unfoldable pub answer_text : Result Paths Refusal → List ℕ
answer_text (Ok p) = drawing_text (paths_of p.vertices p.starts)
answer_text (Err k) = refused_text (number_of k)

-- document 02: `yard` passes 1e-6 itself
abbrev pub drawn_text : Scene → View → List ℕ
drawn_text s v = answer_text (draw_with millionth s v yard_places)

-- document 01's number 1 where the text is not forms, or exceeds its bytes or places
unfoldable pub read_text : Got Yard → List ℕ
read_text no = refused_text 1
read_text (got y ts) = drawn_text y.scene y.view

unfoldable pub reply_of : List ℕ → List ℕ
reply_of text = read_text (yard_of text)

-- so many bytes hold every answer, of at most 2,048 points and path starts
abbrev pub enough : ℕ
enough = 129039

-- what is printed of a text that has to fit in a slice: all of it, or nothing
unfoldable pub shown : Result (List ℕ) Refusal → List ℕ
shown (Ok t) = t
shown (Err k) = []
