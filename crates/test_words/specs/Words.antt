-- The words of 8 bytes of a list of bytes, most significant byte first, as numbers, floats, points and rays, and how answers are compared with them.
use Rattle.std.specs.Prelude.{Bool, true, cond, ◌&&◌, ◌||◌, List, [], ◌∷◌, ℕ, suc, ◌+◌, ◌-◌, ◌*◌, ◌%◌, ◌^◌, ℤ, pos, negsuc, get_or, Float}
use Rattle.std.specs.Float.Ieee.{is_nan, eq}
use Rattle.floats.specs.Arith.{bits}
use Rattle.geometry.specs.Vectors.{vec}
use Rattle.geometry.specs.Rays.{ray_of}
use Rattle.geometry.specs.declared.vector.Vector.{Vector}
use Rattle.geometry.specs.declared.ray.Ray.{Ray}
use Rattle.lists.specs.Lists.{list_to}

-- the four bytes from `at` on
unfoldable pub half_at : List ℕ → ℕ → ℕ
half_at s at = ((get_or s at 0 * 256 + get_or s (at + 1) 0) * 256 + get_or s (at + 2) 0) * 256 + get_or s (at + 3) 0

-- word k
unfoldable pub word_at : List ℕ → ℕ → ℕ
word_at s k = half_at s (8 * k) * 0x1_0000_0000 + half_at s (8 * k + 4)

unfoldable pub float_at : List ℕ → ℕ → Float
float_at s k = bits (word_at s k)

unfoldable pub point_at : List ℕ → ℕ → Vector
point_at s k = vec (float_at s k) (float_at s (k + 1)) (float_at s (k + 2))

unfoldable pub ray_at : List ℕ → ℕ → Ray
ray_at s k = ray_of (point_at s k) (point_at s (k + 3))

-- v and the f64 of the pattern w are equal, zeros of either sign among them, or both NaN
unfoldable pub same_bits : Float → ℕ → Bool
same_bits v w = eq v (bits w) || (is_nan v && is_nan (bits w))

-- the words from k on are the patterns of these
unfoldable pub all_same : List Float → List ℕ → ℕ → Bool
all_same [] s k = true
all_same (v ∷ vs) s k = same_bits v (word_at s k) && all_same vs s (k + 1)

abbrev pub flag_of : Bool → ℕ
flag_of b = cond b 1 0

-- in two's complement
abbrev pub signed_word : ℤ → ℕ
signed_word (pos n) = n
signed_word (negsuc n) = 2 ^ 64 - suc n

-- the first n of the words from k on, so many and then again from the first: as floats, as numbers of 32 bits, as they are
abbrev pub floats_from : List ℕ → ℕ → ℕ → ℕ → List Float
floats_from s k period = list_to (λ j. float_at s (k + j % period))

abbrev pub marks_from : List ℕ → ℕ → ℕ → ℕ → List ℕ
marks_from s k period = list_to (λ j. word_at s (k + j % period) % 0x1_0000_0000)

abbrev pub counts_from : List ℕ → ℕ → ℕ → ℕ → List ℕ
counts_from s k period = list_to (λ j. word_at s (k + j % period))
