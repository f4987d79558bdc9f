-- Writing on in a slice of bytes: what is there so far is an answer, and nothing is added after a refusal.
use Rattle.std.specs.Prelude.{ℕ, ◌≤◌, ◌≡◌, List, length, take, Ok, Result}
use Rattle.paths.specs.Answers.{next}
use Rattle.paths.specs.Paths.{push_all}
use Rattle.paths.specs.Ends.{told}
use Rattle.refusals.specs.declared.Refusal.{Refusal}

-- the bytes that stand in a slice up to a count
abbrev pub sofar : Result ℕ Refusal → List ℕ → Result (List ℕ) Refusal
sofar c xs = told take c xs

unfoldable pub adds : ℕ → Result (List ℕ) Refusal → List ℕ → Result (List ℕ) Refusal
adds room a w = next a (λ (s : List ℕ). push_all room s w)

abbrev pub CountWithin : Result ℕ Refusal → ℕ → Type 0
CountWithin c room = (n : ℕ) → c ≡ Ok n → n ≤ room

-- from c and the slice xs to r and the slice ys the word w is added
pub record Writes (w xs : List ℕ) (c : Result ℕ Refusal) (ys : List ℕ) (r : Result ℕ Refusal) : Type 0 where
  pub is : sofar r ys ≡ adds (length xs) (sofar c xs) w
  pub fits : CountWithin r (length ys)
