-- One more digit of a word, and the word's end, for decimals and for hexadecimal patterns; digits written from the last to the first.
use Prim.Native.Nat.{ℕ, ◌+◌, ◌-◌, ◌*◌, ◌^◌, ◌≤◌, ◌<◌}
use mathlib.Core.Path.{◌≡◌, refl}
use mathlib.Core.Bool.{Bool, true, false, ◌&&◌}
use mathlib.Core.List.{List, [], ◌∷◌}
use native.Mathlib.Numerals.{add-one, sub-one}
use native.Mathlib.Nat.{pow-suc, pow-le-pow_right}
use native.Mathlib.Omega.{arith}
use lib.ListN.{length, drop, get_or, take, drop_of_length-le}
use lib.Seq.{drop-cons, take_all}
use borrow.Author.Tests.{lt-ltb, le-ltb, lt-leb, le-leb, eq-eqb, ne_eqb}
use Rattle.text_numbers.specs.Numerals.{digit_of, all_digits, value, decimal_from, decimal_of, hex_from, hex_of, numeral_of, patterned, negated, as_float}
use Rattle.std.specs.Prelude.{None, Some}

pub and-false : (b : Bool) → (b && false) ≡ false
and-false true = refl
and-false false = refl

pub and-true : (b : Bool) → (b && true) ≡ b
and-true true = refl
and-true false = refl

pub value_grows : (n : ℕ) (s : List ℕ) → n ≤ value 10 n s
unfolding value
value_grows n [] = omega arith
value_grows n (c ∷ s) = omega (arith, value_grows (n * 10 + digit_of c) s)

module _ (n : ℕ) (s : List ℕ) (i d : ℕ) (l : i < length s) (e : d ≡ digit_of (get_or s i 0)) where
  pub decimal-more : d < 10 → decimal_from n (drop i s) ≡ decimal_from (n * 10 + d) (drop (i + 1) s)
  unfolding decimal_from all_digits value
  decimal-more b = rw (e, add-one i, drop-cons s i 0 l, lt-ltb (digit_of (get_or s i 0)) 10 (rw e at b))

  pub decimal-stray : 10 ≤ d → decimal_from n (drop i s) ≡ None
  unfolding decimal_from all_digits value
  decimal-stray b = rw (drop-cons s i 0 l, ← e, le-ltb d 10 b, and-false)

  pub hex-more : d < 16 → hex_from n (drop i s) ≡ hex_from (n * 16 + d) (drop (i + 1) s)
  unfolding hex_from all_digits value
  hex-more b = rw (e, add-one i, drop-cons s i 0 l, lt-ltb (digit_of (get_or s i 0)) 16 (rw e at b))

  pub hex-stray : 16 ≤ d → hex_from n (drop i s) ≡ None
  unfolding hex_from all_digits value
  hex-stray b = rw (drop-cons s i 0 l, ← e, le-ltb d 16 b)

pub decimal-over : (n : ℕ) (s : List ℕ) → 1000000 < n → decimal_from n s ≡ None
unfolding decimal_from
decimal-over n s h = rw (lt-leb (value 10 n s) 1000000 (omega (arith, value_grows n s)))

pub decimal-end : (n : ℕ) (s : List ℕ) (i : ℕ) → n ≤ 1000000 → length s ≤ i → decimal_from n (drop i s) ≡ Some n
unfolding decimal_from all_digits value
decimal-end n s i h l = rw (drop_of_length-le s {i = i} l, le-leb n 1000000 h)

pub hex-end : (n : ℕ) (s : List ℕ) (i : ℕ) → length s ≤ i → hex_from n (drop i s) ≡ Some n
unfolding hex_from all_digits value
hex-end n s i l = rw (drop_of_length-le s {i = i} l)

-- i digits stand for a number below 16 ^ i
pub hex-below : (n d i : ℕ) → n < 16 ^ i → d < 16 → n * 16 + d < 16 ^ (i + 1)
hex-below n d i h l = rw (add-one, pow-suc) (omega arith)

pub hex-fits : (n i : ℕ) → n < 16 ^ i → i < 16 → n < 16 ^ 15
hex-fits n i h l = omega (arith, pow-le-pow_right {n = 16} (omega arith) {i = i} {j = 15} (omega arith))

pub nothing : (w : List ℕ) → length w ≡ 0 → decimal_of w ≡ None
unfolding decimal_of
nothing [] h = refl
nothing (c ∷ s) h = absurd (omega (arith, h))

pub something : (w : List ℕ) → (length w ≡ 0 → ⊥) → decimal_of w ≡ decimal_from 0 w
unfolding decimal_of
something [] h = absurd (h refl)
something (c ∷ s) h = refl

-- ---- a number by its first byte

abbrev rest : List ℕ → List ℕ
rest w = take (length w - 1) (drop 1 w)

pub number-none : (w : List ℕ) → length w ≡ 0 → numeral_of w ≡ None
unfolding numeral_of
number-none [] h = refl
number-none (c ∷ s) h = absurd (omega (arith, h))

rest_is : (c : ℕ) (s : List ℕ) → rest (c ∷ s) ≡ s
rest_is c s = rw sub-one (take_all (length s) s (omega arith))

pub number-hex : (w : List ℕ) → (length w ≡ 0 → ⊥) → get_or w 0 0 ≡ 35 → numeral_of w ≡ patterned (hex_of (rest w))
unfolding numeral_of
number-hex [] h e = absurd (h refl)
number-hex (c ∷ s) h e = rw (rest_is c s, eq-eqb c 35 e)

pub number-minus : (w : List ℕ) → (length w ≡ 0 → ⊥) → (get_or w 0 0 ≡ 35 → ⊥) → get_or w 0 0 ≡ 45 → numeral_of w ≡ negated (decimal_of (rest w))
unfolding numeral_of
number-minus [] h d e = absurd (h refl)
number-minus (c ∷ s) h d e = rw (rest_is c s, ne_eqb c 35 d, eq-eqb c 45 e)

pub number-plain : (w : List ℕ) → (length w ≡ 0 → ⊥) → (get_or w 0 0 ≡ 35 → ⊥) → (get_or w 0 0 ≡ 45 → ⊥) → numeral_of w ≡ as_float (decimal_of w)
unfolding numeral_of
number-plain [] h d e = absurd (h refl)
number-plain (c ∷ s) h d e = rw (ne_eqb c 35 d, ne_eqb c 45 e)
