-- A float compared with a NaN, and the loop that compares the answers. Assumes nothing.
use mathlib.Core.Path.{◌≡◌, sym, ap, ◌∙◌}
use mathlib.Core.Bool.{true, false, ◌&&◌, ◌||◌}
use mathlib.Core.List.{List}
use Prim.Native.Nat.{ℕ, ◌+◌, ◌≤◌, ◌<◌}
use native.Mathlib.Numerals.{add-one}
use native.Mathlib.Nat.{add-zero}
use native.Mathlib.Omega.{arith}
use lib.ListN.{length, drop, get_or, drop_of_length-le}
use lib.Seq.{drop-cons}
use lib.Ieee.{Float, nan, is_nan, eq, ne}
use Rattle.floats.proofs.Tests.{ne-self}
use Rattle.test_words.specs.Words.{word_at, same_bits, all_same}

pub both-nan : (v x : Float) → eq v x ≡ false → ne v v ≡ true → ne x x ≡ eq v x || (is_nan v && is_nan x)
both-nan v x a b = rw (a, ← ne-self v, b, ne-self x)

-- the loop over the answers: what is left of them decides as the whole does
pub record Left (v : List Float) (s : List ℕ) (k i : ℕ) : Type 0 where
  pub upto : i ≤ length v
  pub left : all_same (drop i v) s (k + i) ≡ all_same v s k

module _ (v : List Float) (s : List ℕ) (k : ℕ) where
  pub left-start : Left v s k 0
  left-start = record { upto = omega arith; left = rw add-zero }

  module _ (i : ℕ) (h : Left v s k i) (l : i < length v) where
    left-next : all_same v s k ≡ same_bits (get_or v i nan) (word_at s (k + i)) && all_same (drop (i + 1) v) s (k + (i + 1))
    unfolding all_same
    left-next = let e : k + i + 1 ≡ k + (i + 1) = omega arith in sym h.left ∙ rw (drop-cons v i nan l, e, add-one i)

    pub left-turn : same_bits (get_or v i nan) (word_at s (k + i)) ≡ true → Left v s k (i + 1)
    left-turn q = record { upto = omega arith; left = sym (left-next ∙ rw q) }

    pub left-falls : same_bits (get_or v i nan) (word_at s (k + i)) ≡ false → false ≡ all_same v s k
    left-falls q = sym (left-next ∙ rw q)

  pub left_end : (i : ℕ) → Left v s k i → length v ≤ i → true ≡ all_same v s k
  unfolding all_same
  left_end i h l = sym (ap (λ (u : List Float). all_same u s (k + i)) (drop_of_length-le v {i = i} l)) ∙ h.left
