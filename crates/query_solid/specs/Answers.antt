-- Document 01's number and values for each case of an answer: 0, or the number of the refusal, with zeros and false.
use Rattle.std.specs.Prelude.{ℕ, Bool, false, Float, Err, Ok, Result}
use Rattle.floats.specs.Arith.{zero_f}
use Rattle.refusals.specs.Refusals.{answer_number}
use Rattle.geometry.specs.declared.hit.Hit.{Hit}
use Rattle.refusals.specs.declared.Refusal.{Refusal}

unfoldable pub drawn_count : Result ℕ Refusal → ℕ
drawn_count (Ok n) = n
drawn_count (Err k) = 0

unfoldable pub distance : Result Hit Refusal → Float
distance (Ok h) = h.t
distance (Err k) = zero_f

unfoldable pub met : Result Hit Refusal → Bool
met (Ok h) = h.ok
met (Err k) = false

unfoldable pub inside : Result Bool Refusal → Bool
inside (Ok b) = b
inside (Err k) = false
