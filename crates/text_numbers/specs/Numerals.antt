-- Numbers as words of bytes (document 01, "The program `yard` reads forms").
use Rattle.std.specs.Prelude.{ℕ, ◌+◌, ◌-◌, ◌*◌, Bool, true, cond, ◌&&◌, List, [], ◌∷◌, ltb, leb, eqb, length, pos, Float, None, Option, Some}
use Rattle.std.specs.Float.{binary64}
use Rattle.std.specs.Float.Ieee.{of_int, neg}
use Rattle.floats.specs.Arith.{bits, zero_f}

-- The value of the digit c: 0 to 9, A to F, a to f. A byte that is no digit has 16.
unfoldable pub digit_of : ℕ → ℕ
digit_of c =
    cond (ltb c 48) 16 (cond (ltb c 58) (c - 48)
    (cond (ltb c 65) 16 (cond (ltb c 71) (c - 55)
    (cond (ltb c 97) 16 (cond (ltb c 103) (c - 87) 16)))))

-- whether each byte is a digit of the base
unfoldable pub all_digits : ℕ → List ℕ → Bool
all_digits base [] = true
all_digits base (c ∷ s) = ltb (digit_of c) base && all_digits base s

-- the number that digits stand for, after others that stand for n
unfoldable pub value : ℕ → ℕ → List ℕ → ℕ
value base n [] = n
value base n (c ∷ s) = value base (n * base + digit_of c) s

-- A number n that digits have given so far is carried on by the digits s.
unfoldable pub decimal_from : ℕ → List ℕ → Option ℕ
decimal_from n s = cond (leb (value 10 n s) 1000000 && all_digits 10 s) (Some (value 10 n s)) None

-- a decimal: at least one digit, leading zeros allowed, of value at most 1,000,000
unfoldable pub decimal_of : List ℕ → Option ℕ
decimal_of [] = None
decimal_of (c ∷ s) = decimal_from 0 (c ∷ s)

unfoldable pub hex_from : ℕ → List ℕ → Option ℕ
hex_from n s = cond (all_digits 16 s) (Some (value 16 n s)) None

-- sixteen hexadecimal digits
unfoldable pub hex_of : List ℕ → Option ℕ
hex_of w = cond (eqb (length w) 16) (hex_from 0 w) None

-- the f64 of a bit pattern; each NaN's pattern is the NaN
unfoldable pub patterned : Option ℕ → Option Float
patterned (Some b) = Some (bits b)
patterned None = None

unfoldable pub as_float : Option ℕ → Option Float
as_float (Some n) = Some (of_int binary64 (pos n))
as_float None = None

-- -0 reads as +0
unfoldable pub negated : Option ℕ → Option Float
negated (Some n) = Some (cond (eqb n 0) zero_f (neg (of_int binary64 (pos n))))
negated None = None

-- a number: # and sixteen hexadecimal digits, - and a decimal, or a decimal
unfoldable pub numeral_of : List ℕ → Option Float
numeral_of [] = None
numeral_of (c ∷ s) = cond (eqb c 35) (patterned (hex_of s)) (cond (eqb c 45) (negated (decimal_of s)) (as_float (decimal_of (c ∷ s))))
