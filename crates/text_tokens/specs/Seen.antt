-- What the code's answers stand for: a place in a line stands for the tokens from there on.
use Rattle.std.specs.Prelude.{ℕ, ◌≤◌, List, [], ◌∷◌, Float, None, Option, Some}
use Rattle.text_tokens.specs.Tokens.{Token, opens, closes, word, left, part, Got, no, got, Mark, mark}
use Rattle.text_tokens.specs.declared.Tok.{Tok}
use Rattle.text_tokens.specs.declared.Tok.TheVariants.{Opens, Closes, Word}

unfoldable pub seen : List ℕ → Option Tok → List Token
seen s (Some (Opens n)) = opens ∷ left s n
seen s (Some (Closes n)) = closes ∷ left s n
seen s (Some (Word a e)) = word (part a e s) ∷ left s e
seen s None = []

unfoldable pub TokenWithin : ℕ → Option Tok → Type 0
TokenWithin n (Some (Opens e)) = e ≤ n
TokenWithin n (Some (Closes e)) = e ≤ n
TokenWithin n (Some (Word a e)) = (a ≤ e) × (e ≤ n)
TokenWithin n None = n ≤ n

unfoldable pub span_as : List ℕ → Option (ℕ × ℕ) → Got (List ℕ)
span_as s (Some (a, e)) = got (part a e s) (left s e)
span_as s None = no

-- the word lies within a line of n bytes
unfoldable pub WordWithin : ℕ → Option (ℕ × ℕ) → Type 0
WordWithin n (Some (a, e)) = (a ≤ e) × (e ≤ n)
WordWithin n None = Unit {0}

unfoldable pub step_as : List ℕ → Option ℕ → Got Mark
step_as s (Some n) = got mark (left s n)
step_as s None = no

unfoldable pub found_as : List ℕ → Option (Float × ℕ) → Got Float
found_as s (Some (x, n)) = got x (left s n)
found_as s None = no

unfoldable pub counted_as : List ℕ → Option (ℕ × ℕ) → Got ℕ
counted_as s (Some (x, n)) = got x (left s n)
counted_as s None = no
