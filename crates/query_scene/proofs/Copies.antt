-- The loop that copies the first marks of a list. Assumes nothing.
use Prim.Native.Nat.{ℕ, ◌+◌, ◌<◌, ◌≤◌}
use mathlib.Core.Path.{◌≡◌, refl, sym, ap, ◌∙◌}
use mathlib.Core.List.{List}
use native.Mathlib.Omega.{arith}
use native.Mathlib.Nat.{le_antisymm}
use native.Mathlib.Numerals.{add-one}
use lib.ListN.{length, take, get_or, set, length-set}
use lib.Seq.{take-suc, take-suc-set}

pub record Copied (from to₀ : List ℕ) (n : ℕ) (to : List ℕ) (i : ℕ) : Type 0 where
  pub same : length to ≡ length to₀
  pub upto : i ≤ n
  pub done : take i to ≡ take i from

module _ (from to₀ : List ℕ) (n : ℕ) where
  pub copied-start : Copied from to₀ n to₀ 0
  copied-start = record { same = refl; upto = omega arith; done = refl }

  pub copied-turn : (to : List ℕ) (i : ℕ) → Copied from to₀ n to i → i < n → n ≤ length from → n ≤ length to₀ → Copied from to₀ n (set to i (get_or from i 0)) (i + 1)
  copied-turn to i h l a b = record {
    same = length-set to i (get_or from i 0) ∙ h.same;
    upto = omega arith;
    done = rw (add-one i, take-suc-set to i (get_or from i 0) (omega (arith, h.same)), take-suc from i 0 (omega arith), h.done);
  }

  pub copied-end : (to : List ℕ) (i : ℕ) → Copied from to₀ n to i → n ≤ i → take n to ≡ take n from
  copied-end to i h l =
      let e : i ≡ n = le_antisymm h.upto l in
      sym (ap (λ (m : ℕ). take m to) e) ∙ h.done ∙ ap (λ (m : ℕ). take m from) e
