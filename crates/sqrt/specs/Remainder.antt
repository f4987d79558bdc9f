-- Request (xi): what a root's remainder is, in the request's words, and what it tells a sheet that rounds lengths upward. Two to the power of a whole number k of
-- either sign is the fraction up k / down k, and `HasValue v false a c` says that v is finite, not below zero and a / c exactly.
use Rattle.std.specs.Prelude.{◌≡◌, ℕ, ◌-◌, ◌*◌, ◌^◌, ◌<◌, ◌≤◌, false, T, ◌↔◌, ℤ, pos, ◌-ℤ◌, ◌<ℤ◌, Float}
use Rattle.std.specs.Float.{binary64}
use Rattle.std.specs.Float.Ieee.{up, down, fits}
use Rattle.std.specs.Float.Ieee.Exact.{HasValue}
use Rattle.std.specs.Float.Ieee.Positive.{num, den, positive}
use Rattle.sqrt.specs.Root.{sqrt_of, rest_of}
use Rattle.sqrt.specs.Nearest.{square}

-- "the root is R × 2^k with R a whole number from 2^52 to 2^53 − 1; the remainder is the signed whole number S − R², where S × 4^k is the input"
pub record Remainder (x root : Float) (rest : ℤ) : Type 0 where
  pub k : ℤ
  pub R : ℕ
  pub S : ℕ
  pub least : 2 ^ 52 ≤ R
  pub most : R ≤ 2 ^ 53 - 1
  pub root_is : HasValue root false (R * up k) (down k)
  pub input_is : HasValue x false (S * square (up k)) (square (down k))
  pub rest_is : rest ≡ pos S -ℤ pos (square R)

-- "For a positive finite input": the defined root has the defined remainder.
abbrev pub RootHasRemainder : Type 0
RootHasRemainder = (x : Float) → T (fits binary64 x) → T (positive x) → Remainder x (sqrt_of x) (rest_of x)

-- These words leave no choice.
abbrev pub OneRemainder : Type 0
OneRemainder = (x root : Float) (a b : ℤ) → Remainder x root a → Remainder x root b → a ≡ b

-- "It is 0 for zeros, infinities, NaN and negatives": for whatever is not positive and finite.
abbrev pub ElseNoRemainder : Type 0
ElseNoRemainder = (x : Float) → (T (positive x) → ⊥) → rest_of x ≡ pos 0

-- The root against the exact one, which is its square against x, the denominators multiplied out: exact where the remainder is 0, below where it is positive and
-- above where it is negative, and only there.
pub record Told (x root : Float) (rest : ℤ) : Type 0 where
  pub exact : (square (num root) * den x ≡ num x * square (den root)) ↔ (rest ≡ pos 0)
  pub below : (square (num root) * den x < num x * square (den root)) ↔ (pos 0 <ℤ rest)
  pub above : (num x * square (den root) < square (num root) * den x) ↔ (rest <ℤ pos 0)

abbrev pub RemainderTells : Type 0
RemainderTells = (x root : Float) (rest : ℤ) → Remainder x root rest → Told x root rest
