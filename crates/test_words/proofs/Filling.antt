-- The loops that fill a slice. Assumes nothing.
use mathlib.Core.Path.{◌≡◌, refl, sym, ap, ◌∙◌}
use mathlib.Core.List.{List}
use Prim.Native.Nat.{ℕ, ◌+◌, ◌≤◌, ◌<◌}
use native.Mathlib.Numerals.{add-one}
use native.Mathlib.Omega.{arith}
use lib.ListN.{length, take, set, length-set}
use lib.Seq.{take-suc-set}
use Rattle.lists.specs.Lists.{list_to}
use Rattle.lists.proofs.Tests.{list-more}

-- what f gives stands before place j
pub record Filled {A : Type 0} (f : ℕ → A) (L n j : ℕ) (xs : List A) : Type 0 where
  pub upto : j ≤ n
  pub whole : length xs ≡ L
  pub done : take j xs ≡ list_to f j

module _ {A : Type 0} (f : ℕ → A) (L n : ℕ) where
  pub filled-start : (xs : List A) → length xs ≡ L → Filled f L n 0 xs
  unfolding list_to
  filled-start xs e = record { upto = omega arith; whole = e; done = refl }

  pub filled-turn : (j : ℕ) (xs : List A) {x : A} → n ≤ L → Filled f L n j xs → j < n → x ≡ f j → Filled f L n (j + 1) (set xs j x)
  filled-turn j xs {x} fit h l e = record {
    upto = omega arith;
    whole = length-set xs j x ∙ h.whole;
    done = ap (λ (m : ℕ). take m (set xs j x)) (add-one j) ∙ take-suc-set xs j x (omega (arith, h.whole)) ∙ rw (h.done, e) (sym (list-more f j));
  }

  pub filled-end : (j : ℕ) (xs : List A) → Filled f L n j xs → n ≤ j → take n xs ≡ list_to f n
  filled-end j xs h l = let e : j ≡ n = omega (arith, h.upto) in rw (← e) h.done
