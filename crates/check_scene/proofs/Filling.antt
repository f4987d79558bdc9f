-- A loop that tests each number below n and writes what belongs to it as a row. Assumes nothing.
use Prim.Native.Nat.{ℕ, ◌+◌, ◌*◌, ◌<◌, ◌≤◌}
use mathlib.Core.Path.{◌≡◌, refl, sym, ap, ◌∙◌}
use mathlib.Core.List.{List}
use mathlib.Core.Bool.{Bool, true, false}
use native.Mathlib.Omega.{arith}
use native.Mathlib.Nat.{mul-le-mul_right, suc-mul, le_antisymm}
use lib.ListN.{length}
use Rattle.rows.specs.Rows.{view, set_row}
use Rattle.rows.proofs.Rows.{view-written, length-set_row}
use Rattle.lists.specs.Lists.{all_of, list_to}
use Rattle.lists.proofs.Tests.{Passed, passed_start, passed-turn, passed-fails, passed-end, list-more}

pub record Filling {A B : Type 0} (k : ℕ) (f : List A → B) (g : ℕ → B) (p : ℕ → Bool) (n : ℕ) (xs₀ xs : List A) (i : ℕ) : Type 0 where
  pub same : length xs ≡ length xs₀
  pub passed : Passed p n i
  pub filled : view k f i xs ≡ list_to g i

module _ {A B : Type 0} (k : ℕ) (f : List A → B) (g : ℕ → B) (p : ℕ → Bool) (n : ℕ) (xs₀ : List A) where
  pub filling-start : Filling k f g p n xs₀ xs₀ 0
  unfolding view list_to
  filling-start = record { same = refl; passed = passed_start p n; filled = refl }

  module _ (xs : List A) (i : ℕ) (h : Filling k f g p n xs₀ xs i) (l : i < n) {b : Bool} (is : b ≡ p i) where
    pub filling-turn : n * k ≤ length xs₀ → (r : List A) → length r ≡ k → f r ≡ g i → {ys : List A} → ys ≡ set_row k i r xs → b ≡ true → Filling k f g p n xs₀ ys (i + 1)
    filling-turn fit r wide val e t =
        let room : i * k + k ≤ length xs = omega (arith, h.same, mul-le-mul_right k l, suc-mul i k) in
        record {
          same = ap length e ∙ length-set_row k i r xs ∙ h.same;
          passed = passed-turn p n i h.passed l is t;
          filled = ap (view k f (i + 1)) e ∙ view-written k f i r xs wide room ∙ rw (h.filled, val) (sym (list-more g i));
        }

    pub filling-fails : b ≡ false → false ≡ all_of p n
    filling-fails t = passed-fails p n i h.passed l is t

  pub filling-end : (xs : List A) (i : ℕ) → Filling k f g p n xs₀ xs i → n ≤ i → (true ≡ all_of p n) × (true ≡ true → view k f n xs ≡ list_to g n)
  filling-end xs i h l =
      let e : i ≡ n = le_antisymm h.passed.upto l in
      (passed-end p n i h.passed l, λ _. sym (ap (λ (m : ℕ). view k f m xs) e) ∙ h.filled ∙ ap (list_to g) e)
