-- What the program `canonical` answers a text: the yard that it stands for in canonical form, or why it is refused.
use Rattle.std.specs.Prelude.{ℕ, List, Err, Ok, Result}
use Rattle.refusals.specs.Refusals.{number_of}
use Rattle.text_tokens.specs.Tokens.{Got, no, got}
use Rattle.text_scene.specs.Texts.{Yard, yard_of}
use Rattle.text_drawing.specs.Drawings.{refused_text}
use Rattle.text_writer.specs.Writer.{written_of}
use Rattle.refusals.specs.declared.Refusal.{Refusal}

-- what the writer answers, as text
unfoldable pub writer_text : Result (List ℕ) Refusal → List ℕ
writer_text (Ok t) = t
writer_text (Err k) = refused_text (number_of k)

-- document 01's number 1 where the text is not forms, or exceeds its bytes or places
unfoldable pub restated_in : ℕ → Got Yard → List ℕ
restated_in room no = refused_text 1
restated_in room (got y ts) = writer_text (written_of room y.scene y.view)

-- in so many bytes
unfoldable pub restate_of : ℕ → List ℕ → List ℕ
restate_of room text = restated_in room (yard_of text)
