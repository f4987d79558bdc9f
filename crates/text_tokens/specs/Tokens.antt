-- A line of text as a list of tokens, and readers of its first tokens.
use Rattle.std.specs.Prelude.{ℕ, ◌-◌, Bool, true, false, cond, not, ◌||◌, List, [], ◌∷◌, ◌++◌, eqb, take, drop, Float, None, Option, Some}
use Rattle.text_numbers.specs.Numerals.{numeral_of, decimal_of}

pub data Token : Type 0 where
  opens : Token
  closes : Token
  word : List ℕ → Token

-- a byte of a word: no space, no bracket
unfoldable pub word_byte : ℕ → Bool
word_byte b = not (eqb b 32 || eqb b 40 || eqb b 41)

-- a bracket is a token, a space is none
unfoldable pub marked : ℕ → List Token → List Token
marked b ts = cond (eqb b 40) (opens ∷ ts) (cond (eqb b 41) (closes ∷ ts) ts)

unfoldable pub flush : List ℕ → List Token → List Token
flush [] ts = ts
flush (b ∷ w) ts = word (b ∷ w) ∷ ts

-- The tokens of s, after the bytes w of a word that is being read.
unfoldable pub tokens_from : List ℕ → List ℕ → List Token
tokens_from w [] = flush w []
tokens_from w (b ∷ s) = cond (word_byte b) (tokens_from (w ++ (b ∷ [])) s) (flush w (marked b (tokens_from [] s)))

-- the tokens of a line from a place on
unfoldable pub left : List ℕ → ℕ → List Token
left s at = tokens_from [] (drop at s)

abbrev pub part : ℕ → ℕ → List ℕ → List ℕ
part a e s = take (e - a) (drop a s)

-- ---- readers: a value and the tokens after it, or nothing

pub data Got (A : Type 0) : Type 0 where
  no : Got A
  got : A → List Token → Got A

pub data Mark : Type 0 where
  mark : Mark

-- first this, then from its value and from what is left that
unfoldable pub and_then : {A B : Type 0} → Got A → (A → List Token → Got B) → Got B
and_then no f = no
and_then (got a ts) f = f a ts

unfoldable pub open_in : List Token → Got Mark
open_in [] = no
open_in (opens ∷ ts) = got mark ts
open_in (closes ∷ ts) = no
open_in (word w ∷ ts) = no

unfoldable pub close_in : List Token → Got Mark
close_in [] = no
close_in (opens ∷ ts) = no
close_in (closes ∷ ts) = got mark ts
close_in (word w ∷ ts) = no

unfoldable pub word_in : List Token → Got (List ℕ)
word_in [] = no
word_in (opens ∷ ts) = no
word_in (closes ∷ ts) = no
word_in (word w ∷ ts) = got w ts

-- nothing is left
unfoldable pub is_over : List Token → Bool
is_over [] = true
is_over (t ∷ ts) = false

unfoldable pub real_of : Option Float → List Token → Got Float
real_of (Some x) ts = got x ts
real_of None ts = no

unfoldable pub number_in : List Token → Got Float
number_in ts = and_then (word_in ts) (λ w us. real_of (numeral_of w) us)

unfoldable pub whole_of : Option ℕ → List Token → Got ℕ
whole_of (Some n) ts = got n ts
whole_of None ts = no

-- a decimal without sign
unfoldable pub count_in : List Token → Got ℕ
count_in ts = and_then (word_in ts) (λ w us. whole_of (decimal_of w) us)

-- a decimal without sign where a word stands, else n and what is there
unfoldable pub count_or : ℕ → List Token → Got ℕ
count_or n [] = got n []
count_or n (opens ∷ ts) = got n (opens ∷ ts)
count_or n (closes ∷ ts) = got n (closes ∷ ts)
count_or n (word w ∷ ts) = count_in (word w ∷ ts)
