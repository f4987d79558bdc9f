-- Sorting keeps a property of all numbers, and the length; orders that agree on it sort alike. Assumes nothing.
use mathlib.Core.Path.{◌≡◌, refl, ap, ◌∙◌}
use mathlib.Core.Bool.{Bool, true, false, cond}
use mathlib.Core.List.{List, [], ◌∷◌}
use Prim.Native.Nat.{ℕ, suc}
use lib.ListN.{length}
use Rattle.tree_sort.specs.Sort.{inserted, sorted, merged}
use Rattle.lists.specs.Lists.{Each}

module _ (P : ℕ → Type 0) where
  each-cond : (t : Bool) (l r : List ℕ) → Each P l → Each P r → Each P (cond t l r)
  each-cond true l r b d = b
  each-cond false l r b d = d

  each-inserted : (less : ℕ → ℕ → Bool) (x : ℕ) (l : List ℕ) → P x → Each P l → Each P (inserted less x l)
  unfolding Each inserted
  each-inserted less x [] h b = (h, tt)
  each-inserted less x (y ∷ ys) h b = each-cond (less y x) (y ∷ inserted less x ys) (x ∷ y ∷ ys) (b.0, each-inserted less x ys h b.1) (h, b)

  pub each-sorted : (less : ℕ → ℕ → Bool) (l : List ℕ) → Each P l → Each P (sorted less l)
  unfolding Each sorted
  each-sorted less [] b = tt
  each-sorted less (x ∷ xs) b = each-inserted less x (sorted less xs) b.0 (each-sorted less xs b.1)

  -- two orders that agree on the property sort alike
  module _ (less less' : ℕ → ℕ → Bool) (agree : (a b : ℕ) → P a → P b → less a b ≡ less' a b) where
    inserted-cong : (x : ℕ) (l : List ℕ) → P x → Each P l → inserted less x l ≡ inserted less' x l
    unfolding Each inserted
    inserted-cong x [] h b = refl
    inserted-cong x (y ∷ ys) h b = rw (agree y x b.0 h, inserted-cong x ys h b.1)

    pub sorted-cong : (l : List ℕ) → Each P l → sorted less l ≡ sorted less' l
    unfolding Each sorted
    sorted-cong [] b = refl
    sorted-cong (x ∷ xs) b = ap (inserted less x) (sorted-cong xs b.1) ∙ inserted-cong x (sorted less' xs) b.0 (each-sorted less' xs b.1)

    -- and merge alike
    pub merged-cong : (ps qs : List ℕ) → Each P ps → Each P qs → merged less ps qs ≡ merged less' ps qs
    unfolding Each
    merged-cong [] qs b d = refl
    merged-cong (p ∷ ps) qs b d = go qs d (λ rs e. merged-cong ps rs b.1 e)
      where
        go : (rs : List ℕ) → Each P rs → ((ts : List ℕ) → Each P ts → merged less ps ts ≡ merged less' ps ts) → merged less (p ∷ ps) rs ≡ merged less' (p ∷ ps) rs
        go [] e k = refl
        go (r ∷ rs) e k = rw (agree r p e.0 b.0, go rs e.1 k, k (r ∷ rs) e)

-- ---- sorting keeps the length
length-cond : (t : Bool) (l r : List ℕ) (k : ℕ) → length l ≡ k → length r ≡ k → length (cond t l r) ≡ k
length-cond true l r k a b = a
length-cond false l r k a b = b

length_inserted : (less : ℕ → ℕ → Bool) (x : ℕ) (l : List ℕ) → length (inserted less x l) ≡ suc (length l)
unfolding inserted
length_inserted less x [] = refl
length_inserted less x (y ∷ ys) = length-cond (less y x) (y ∷ inserted less x ys) (x ∷ y ∷ ys) (suc (suc (length ys))) (ap suc (length_inserted less x ys)) refl

pub length-sorted : (less : ℕ → ℕ → Bool) (l : List ℕ) → length (sorted less l) ≡ length l
unfolding sorted
length-sorted less [] = refl
length-sorted less (x ∷ xs) = length_inserted less x (sorted less xs) ∙ ap suc (length-sorted less xs)
