-- Numbers as words of bytes: a float's bits as sixteen hexadecimal digits, a count as a decimal.
use Rattle.std.specs.Prelude.{ℕ, zero, suc, ◌+◌, ◌/◌, ◌%◌, cond, List, [], ◌∷◌, ◌++◌, ltb, Float}
use Rattle.std.specs.Float.{binary64}
use Rattle.std.specs.Float.Ieee.{to_bits, eq}
use Rattle.floats.specs.Arith.{zero_f}

-- a float's pattern as it is written: both zeros are +0; the NaN's is 7FF8000000000000
unfoldable pub bits_of : Float → ℕ
bits_of x = cond (eq x zero_f) 0 (to_bits binary64 x)

-- the upper-case digit of d
unfoldable pub digit_byte : ℕ → ℕ
digit_byte d = cond (ltb d 10) (48 + d) (55 + d)

-- the last k hexadecimal digits of v
unfoldable pub hex_word : ℕ → ℕ → List ℕ
hex_word zero v = []
hex_word (suc k) v = hex_word k (v / 16) ++ (digit_byte (v % 16) ∷ [])

-- the decimal digits of n, without zeros before them, if there are at most k
unfoldable pub decimal_word : ℕ → ℕ → List ℕ
decimal_word zero n = []
decimal_word (suc k) n = cond (ltb n 10) (digit_byte n ∷ []) (decimal_word k (n / 10) ++ (digit_byte (n % 10) ∷ []))

-- twenty digits are enough for any count: 2^64 is below 10^20
unfoldable pub decimal_text : ℕ → List ℕ
decimal_text n = decimal_word 20 n
