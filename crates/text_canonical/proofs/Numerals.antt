-- Numbers that are written are read back. Assumes nothing.
use Prim.Native.Nat.{ℕ, zero, suc, ◌+◌, ◌*◌, ◌/◌, ◌%◌, ◌^◌, ◌≤◌, ◌<◌}
use mathlib.Core.Path.{◌≡◌, refl, sym, ap, ◌∙◌, subst}
use mathlib.Core.Logic.{◌⊎◌, inl, inr}
use mathlib.Core.Bool.{Bool, true, false, cond, ◌&&◌}
use mathlib.Core.List.{List, [], ◌∷◌, ◌++◌}
use native.Mathlib.Nat.{pow-suc}
use native.Mathlib.Numerals.{add-one}
use native.Mathlib.Omega.{arith}
use borrow.Author.Tests.{lt-ltb, le-ltb, le-leb}
use lib.Dec.{T, ltb}
use lib.ListN.{length, length-append}
use lib.Ieee.{Float, binary64, fits, to_bits}
use lib.Ieee.Bits.{of_bits-to_bits, to_bits-lt}
use Rattle.floats.proofs.Order.{le-or-lt}
use Rattle.text_numbers.specs.Numerals.{digit_of, all_digits, value, decimal_from, decimal_of, hex_from, hex_of, patterned, numeral_of}
use Rattle.text_tokens.specs.Tokens.{Token, word, got, and_then, word_in, real_of, number_in, whole_of, count_in}
use Rattle.text_drawing.specs.Numbers.{digit_byte, hex_word, decimal_word, decimal_text}
use Rattle.std.specs.Prelude.{Some}

-- # and sixteen digits: a number's word
abbrev pub hex_number : Float → List ℕ
hex_number x = 35 ∷ hex_word 16 (to_bits binary64 x)

-- ---- a digit
digit-hex : (d : ℕ) → 10 ≤ d → d < 16 → digit_of (55 + d) ≡ d
unfolding digit_of
digit-hex d l h = rw (le-ltb (55 + d) 48 (omega arith), le-ltb (55 + d) 58 (omega arith), le-ltb (55 + d) 65 (omega arith), lt-ltb (55 + d) 71 (omega arith)) (omega arith)

digit-ten : (d : ℕ) → d < 10 → digit_of (48 + d) ≡ d
unfolding digit_of
digit-ten d h = rw (le-ltb (48 + d) 48 (omega arith), lt-ltb (48 + d) 58 (omega arith)) (omega arith)

digit-of : (d : ℕ) → d < 16 → digit_of (digit_byte d) ≡ d
unfolding digit_byte
digit-of d h = by (le-or-lt 10 d)
  where
    by : (10 ≤ d) ⊎ (d < 10) → digit_of (cond (ltb d 10) (48 + d) (55 + d)) ≡ d
    by (inl l) = rw (le-ltb d 10 l) (digit-hex d l h)
    by (inr l) = rw (lt-ltb d 10 l) (digit-ten d l)

-- ---- digits one after the other
value-append : (b n : ℕ) (u v : List ℕ) → value b n (u ++ v) ≡ value b (value b n u) v
unfolding value
value-append b n [] v = refl
value-append b n (c ∷ u) v = value-append b (n * b + digit_of c) u v

digits_append : (b : ℕ) (u v : List ℕ) → all_digits b u ≡ true → all_digits b v ≡ true → all_digits b (u ++ v) ≡ true
unfolding all_digits
digits_append b [] v h k = k
digits_append b (c ∷ u) v h k = by (ltb (digit_of c) b) (λ e. digits_append b u v e k) h
  where
    by : (t : Bool) → (all_digits b u ≡ true → all_digits b (u ++ v) ≡ true) → (t && all_digits b u) ≡ true → (t && all_digits b (u ++ v)) ≡ true
    by true f e = f e
    by false f e = e

hex-digits : (k v : ℕ) → all_digits 16 (hex_word k v) ≡ true
unfolding hex_word all_digits
hex-digits zero v = refl
hex-digits (suc k) v = digits_append 16 (hex_word k (v / 16)) (digit_byte (v % 16) ∷ []) (hex-digits k (v / 16)) (rw (digit-of (v % 16) (omega arith), lt-ltb (v % 16) 16 (omega arith)))

hex-value : (k v : ℕ) → v < 16 ^ k → value 16 0 (hex_word k v) ≡ v
unfolding hex_word value
hex-value zero v h = sym (omega (arith, h))
hex-value (suc k) v h =
    let x : v < 16 ^ k * 16 = subst (λ (n : ℕ). v < n) (pow-suc 16 k) h in
    value-append 16 0 (hex_word k (v / 16)) (digit_byte (v % 16) ∷ []) ∙ rw (hex-value k (v / 16) (omega (arith, x)), digit-of (v % 16) (omega arith)) (omega arith)

hex-length : (k v : ℕ) → length (hex_word k v) ≡ k
unfolding hex_word
hex-length zero v = refl
hex-length (suc k) v = length-append (hex_word k (v / 16)) (digit_byte (v % 16) ∷ []) ∙ ap (λ (n : ℕ). n + 1) (hex-length k (v / 16)) ∙ add-one k

-- a float as # and sixteen digits is read as that float
pub hex-read : (x : Float) → T (fits binary64 x) → numeral_of (hex_number x) ≡ Some x
unfolding numeral_of hex_of hex_from patterned
hex-read x h = rw (hex-length 16 (to_bits binary64 x), hex-digits 16 (to_bits binary64 x), hex-value 16 (to_bits binary64 x) (to_bits-lt binary64 x h), of_bits-to_bits binary64 x h)

pub number_read : (x : Float) (ts : List Token) → T (fits binary64 x) → number_in (word (hex_number x) ∷ ts) ≡ got x ts
unfolding number_in word_in and_then real_of
number_read x ts h = rw (hex-read x h)

-- ---- a decimal
decimal-digits : (k n : ℕ) → all_digits 10 (decimal_word k n) ≡ true
unfolding decimal_word all_digits
decimal-digits zero n = refl
decimal-digits (suc k) n = by (decimal-digits k (n / 10)) (le-or-lt 10 n)
  where
    by : all_digits 10 (decimal_word k (n / 10)) ≡ true → (10 ≤ n) ⊎ (n < 10) → all_digits 10 (cond (ltb n 10) (digit_byte n ∷ []) (decimal_word k (n / 10) ++ (digit_byte (n % 10) ∷ []))) ≡ true
    by h (inl l) = rw (le-ltb n 10 l) (digits_append 10 (decimal_word k (n / 10)) (digit_byte (n % 10) ∷ []) h (rw (digit-of (n % 10) (omega arith), lt-ltb (n % 10) 10 (omega arith))))
    by h (inr l) = rw (lt-ltb n 10 l, digit-of n (omega arith), lt-ltb n 10 l)

decimal-value : (k n : ℕ) → n < 10 ^ k → value 10 0 (decimal_word k n) ≡ n
unfolding decimal_word value
decimal-value zero n h = sym (omega (arith, h))
decimal-value (suc k) n h =
    let x : n < 10 ^ k * 10 = subst (λ (m : ℕ). n < m) (pow-suc 10 k) h in
    by (decimal-value k (n / 10) (omega (arith, x))) (le-or-lt 10 n)
  where
    by : value 10 0 (decimal_word k (n / 10)) ≡ n / 10 → (10 ≤ n) ⊎ (n < 10) → value 10 0 (cond (ltb n 10) (digit_byte n ∷ []) (decimal_word k (n / 10) ++ (digit_byte (n % 10) ∷ []))) ≡ n
    by e (inl l) = rw (le-ltb n 10 l) (value-append 10 0 (decimal_word k (n / 10)) (digit_byte (n % 10) ∷ []) ∙ rw (e, digit-of (n % 10) (omega arith)) (omega arith))
    by e (inr l) = rw (lt-ltb n 10 l, digit-of n (omega arith)) (omega arith)

decimal-some : (w : List ℕ) → decimal_from 0 w ≡ Some (value 10 0 w) → (length w ≡ 0 → ⊥) → decimal_of w ≡ Some (value 10 0 w)
unfolding decimal_of
decimal-some [] e h = absurd (h refl)
decimal-some (c ∷ w) e h = e

some-digit : (k n : ℕ) → length (decimal_word (suc k) n) ≡ 0 → ⊥
unfolding decimal_word
some-digit k n e = by (ltb n 10) e
  where
    by : (t : Bool) → length (cond t (digit_byte n ∷ []) (decimal_word k (n / 10) ++ (digit_byte (n % 10) ∷ []))) ≡ 0 → ⊥
    by true e = omega (arith, e)
    by false e = omega (arith, e, length-append (decimal_word k (n / 10)) (digit_byte (n % 10) ∷ []))

pub decimal-read : (n : ℕ) → n ≤ 1000000 → decimal_of (decimal_text n) ≡ Some n
unfolding decimal_text decimal_from
decimal-read n h =
    let e : value 10 0 (decimal_word 20 n) ≡ n = decimal-value 20 n (omega (arith, h)) in
    decimal-some (decimal_word 20 n) (rw (decimal-digits 20 n, e, le-leb n 1000000 h)) (some-digit 19 n) ∙ ap Some e

pub count-read : (n : ℕ) (ts : List Token) → n ≤ 1000000 → count_in (word (decimal_text n) ∷ ts) ≡ got n ts
unfolding count_in word_in and_then whole_of
count-read n ts h = rw (decimal-read n h)
