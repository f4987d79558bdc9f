-- The loop that looks whether each number is finite. Assumes nothing.
use mathlib.Core.Path.{◌≡◌, refl, sym, ap, ◌∙◌}
use mathlib.Core.Bool.{Bool, true, false, ◌&&◌}
use mathlib.Core.List.{List}
use Prim.Native.Nat.{ℕ, ◌+◌, ◌<◌, ◌≤◌}
use native.Mathlib.Numerals.{add-one}
use native.Mathlib.Omega.{arith}
use lib.Ieee.{Float, nan}
use lib.Ieee.Scale.{finite}
use lib.ListN.{length, drop, get_or, drop_of_length-le}
use lib.Seq.{drop-cons}
use Rattle.plotter_pens.specs.Pens.{all_finite}

-- what is left of it answers as the whole does
pub record Looking (xs : List Float) (i : ℕ) : Type 0 where
  pub upto : i ≤ length xs
  pub left : all_finite (drop i xs) ≡ all_finite xs

module _ (xs : List Float) where
  pub looking-start : Looking xs 0
  looking-start = record { upto = omega arith; left = refl }

  module _ (i : ℕ) (h : Looking xs i) (l : i < length xs) (b : Bool) (eb : b ≡ finite (get_or xs i nan)) where
    onward : all_finite xs ≡ b && all_finite (drop (i + 1) xs)
    unfolding all_finite
    onward = sym h.left ∙ rw (drop-cons xs i nan l, add-one, ← eb)

    pub looking-turn : b ≡ true → Looking xs (i + 1)
    looking-turn q = record { upto = omega arith; left = sym (onward ∙ rw q) }

    pub looking-bad : b ≡ false → false ≡ all_finite xs
    looking-bad q = sym (onward ∙ rw q)

  pub looking-end : (i : ℕ) → Looking xs i → length xs ≤ i → true ≡ all_finite xs
  unfolding all_finite
  looking-end i h l = sym (ap all_finite (drop_of_length-le xs {i = i} l)) ∙ h.left
