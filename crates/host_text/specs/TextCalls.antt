-- Document 01's number and values for each case of the writer's answer.
use Rattle.std.specs.Prelude.{ℕ, ◌≡◌, List, Err, Ok, Result}
use Rattle.refusals.specs.Refusals.{number_of, answer_number}
use Rattle.text_drawing.specs.Drawings.{written, laid}
use Rattle.refusals.specs.declared.Refusal.{Refusal}

unfoldable pub bytes_told : Result ℕ Refusal → ℕ
bytes_told (Ok n) = n
bytes_told (Err k) = 0

-- what the call answers and leaves, where `a` is what the writer is to answer in a slice of `room` bytes
pub record WriteTold (a : Result (List ℕ) Refusal) (room : ℕ) (text : List ℕ) (number count : ℕ) : Type 0 where
  pub number_is : number ≡ answer_number (written a)
  pub count_is : count ≡ bytes_told (written a)
  pub text_is : text ≡ laid a room
