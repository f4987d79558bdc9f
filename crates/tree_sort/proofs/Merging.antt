-- Merging two stable sorts gives the stable sort. Assumes nothing.
use mathlib.Core.Path.{◌≡◌, refl, sym, ap, ◌∙◌}
use mathlib.Core.Bool.{Bool, true, false, cond}
use mathlib.Core.List.{List, [], ◌∷◌, ◌++◌}
use Prim.Native.Nat.{ℕ}
use borrow.Table.Steps.{cases}
use Rattle.tree_sort.specs.Sort.{inserted, sorted, merged}

pub merged-nil : (less : ℕ → ℕ → Bool) (ps : List ℕ) → merged less ps [] ≡ ps
merged-nil less [] = refl
merged-nil less (p ∷ ps) = refl

module _ (less : ℕ → ℕ → Bool)
    (trans : (a b c : ℕ) → less a b ≡ true → less b c ≡ true → less a c ≡ true)
    (cotrans : (a b c : ℕ) → less a b ≡ false → less b c ≡ false → less a c ≡ false) where
  -- insertion is a merge of one element
  inserted-one : (x : ℕ) (qs : List ℕ) → inserted less x qs ≡ merged less (x ∷ []) qs
  unfolding inserted
  inserted-one x [] = refl
  inserted-one x (q ∷ qs) = ap (λ (t : List ℕ). cond (less q x) (q ∷ t) (x ∷ q ∷ qs)) (inserted-one x qs)

  inserted-merged-in : (x p : ℕ) (ps : List ℕ) → ((qs : List ℕ) → inserted less x (merged less ps qs) ≡ merged less (inserted less x ps) qs)
      → (qs : List ℕ) → inserted less x (merged less (p ∷ ps) qs) ≡ merged less (inserted less x (p ∷ ps)) qs
  unfolding inserted
  inserted-merged-in x p ps ih [] = sym (merged-nil less (inserted less x (p ∷ ps)))
  inserted-merged-in x p ps ih (q ∷ qs) =
      let again : inserted less x (merged less (p ∷ ps) qs) ≡ merged less (inserted less x (p ∷ ps)) qs = inserted-merged-in x p ps ih qs in
      cases (less q p)
      (λ qp. cases (less p x)
      (λ px. let qx : less q x ≡ true = trans q p x qp px in
      simp (qp, px, qx) (ap (λ (t : List ℕ). q ∷ t) (rw px at again)))
      (λ px. cases (less q x) (λ qx. simp (qp, px, qx) (ap (λ (t : List ℕ). q ∷ t) (rw px at again))) (λ qx. simp (qp, px, qx))))
      (λ qp. cases (less p x)
      (λ px. simp (qp, px) (ap (λ (t : List ℕ). p ∷ t) (ih (q ∷ qs))))
      (λ px. let qx : less q x ≡ false = cotrans q p x qp px in simp (qp, px, qx)))

  inserted-merged : (x : ℕ) (ps qs : List ℕ) → inserted less x (merged less ps qs) ≡ merged less (inserted less x ps) qs
  unfolding inserted
  inserted-merged x [] qs = inserted-one x qs
  inserted-merged x (p ∷ ps) qs = inserted-merged-in x p ps (λ qs. inserted-merged x ps qs) qs

  pub merged-sorted : (ps qs : List ℕ) → merged less (sorted less ps) (sorted less qs) ≡ sorted less (ps ++ qs)
  unfolding sorted
  merged-sorted [] qs = refl
  merged-sorted (p ∷ ps) qs = sym (inserted-merged p (sorted less ps) (sorted less qs)) ∙ ap (inserted less p) (merged-sorted ps qs)
