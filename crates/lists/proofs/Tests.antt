-- Laws of a loop that tests each number below n, and of the lists that one fills. Assumes nothing.
use Prim.Native.Nat.{ℕ, zero, suc, ◌+◌, ◌-◌, ◌<◌, ◌≤◌}
use mathlib.Core.Path.{◌≡◌, refl, sym, ap, subst, ◌∙◌}
use mathlib.Core.List.{[], ◌∷◌, ◌++◌}
use mathlib.Core.Bool.{Bool, true, false, and-eq-true_iff}
use native.Mathlib.Omega.{arith}
use native.Mathlib.Nat.{le_antisymm, zero-add, suc-add, sub-add_cancel}
use native.Mathlib.Numerals.{add-one}
use lib.ListN.{length, get_or, length-append, get_or-append}
use lib.Seq.{get_or-append_seam}
use borrow.Author.Tests.{ltb-true, ltb-false}
use lib.Dec.{ltb}
use Rattle.lists.specs.Lists.{all_of, list_to}

-- what holds at number i of such a loop: all before it pass
pub record Passed (p : ℕ → Bool) (n i : ℕ) : Type 0 where
  pub upto : i ≤ n
  pub all : all_of p i ≡ true

module _ (p : ℕ → Bool) (n : ℕ) where
  pub passed_start : Passed p n 0
  unfolding all_of
  passed_start = record { upto = omega arith; all = refl }

  more : (i : ℕ) {b : Bool} → all_of p i ≡ true → b ≡ p i → b ≡ all_of p (i + 1)
  unfolding all_of
  more i h e = e ∙ sym (ap (all_of p) (add-one i) ∙ rw h)

  fails : (i k : ℕ) → false ≡ all_of p i → false ≡ all_of p (k + i)
  unfolding all_of
  fails i zero e = rw (zero-add i) e
  fails i (suc k) e = rw (suc-add k i, ← fails i k e)

  module _ (i : ℕ) (h : Passed p n i) (l : i < n) {b : Bool} (is : b ≡ p i) where
    pub passed-turn : b ≡ true → Passed p n (i + 1)
    passed-turn e = record { upto = omega arith; all = sym (more i h.all is) ∙ e }

    pub passed-fails : b ≡ false → false ≡ all_of p n
    passed-fails e =
        subst (λ (m : ℕ). false ≡ all_of p m) (sub-add_cancel {n = n} {m = i + 1} (omega arith))
        (fails (i + 1) (n - (i + 1)) (sym e ∙ more i h.all is))

  pub passed-end : (i : ℕ) → Passed p n i → n ≤ i → true ≡ all_of p n
  passed-end i h l = sym h.all ∙ ap (all_of p) (le_antisymm h.upto l)

-- what holds of all holds of each
pub all-at : (p : ℕ → Bool) (n i : ℕ) → all_of p n ≡ true → i < n → p i ≡ true
unfolding all_of
all-at p zero i e h = absurd (omega arith)
all-at p (suc n) i e h = pick ((and-eq-true_iff (all_of p n) (p n)).0 e) (λ q l. all-at p n i q l) (ltb i n) refl
  where
    pick : (all_of p n ≡ true) × (p n ≡ true) → (all_of p n ≡ true → i < n → p i ≡ true) → (t : Bool) → ltb i n ≡ t → p i ≡ true
    pick both rec true q = rec both.0 (ltb-true i n q)
    pick both rec false q =
        let l : n ≤ i = ltb-false i n q in
        let w : i ≡ n = omega arith in
        rw w both.1

-- ---- lists
module _ {ℓ} {A : Type ℓ} (f : ℕ → A) where
  pub length_to : (n : ℕ) → length (list_to f n) ≡ n
  unfolding list_to
  length_to zero = refl
  length_to (suc n) = length-append (list_to f n) (f n ∷ []) ∙ rw (length_to n) (add-one n)

  pub list-more : (n : ℕ) → list_to f (n + 1) ≡ list_to f n ++ (f n ∷ [])
  unfolding list_to
  list-more n = ap (list_to f) (add-one n)

  pub list_at : (d : A) (n i : ℕ) → i < n → get_or (list_to f n) i d ≡ f i
  unfolding list_to
  list_at d zero i h = absurd (omega arith)
  list_at d (suc n) i h = last (λ l. list_at d n i l) (ltb i n) refl
    where
      last : (i < n → get_or (list_to f n) i d ≡ f i) → (t : Bool) → ltb i n ≡ t → get_or (list_to f n ++ (f n ∷ [])) i d ≡ f i
      last rec true e = let l : i < n = ltb-true i n e in get_or-append (list_to f n) (f n ∷ []) d i (rw (length_to n) l) ∙ rec l
      last rec false e =
          let l : n ≤ i = ltb-false i n e in
          let q : i ≡ n = omega arith in
          rw q (subst (λ (k : ℕ). get_or (list_to f n ++ (f n ∷ [])) k d ≡ f n) (length_to n) (get_or-append_seam (list_to f n) (f n) [] d))
