-- Lists whose elements all have a property. Assumes nothing.
use mathlib.Core.List.{List, [], ◌∷◌, ◌++◌}
use Prim.Native.Nat.{ℕ, zero, suc, ◌<◌}
use native.Mathlib.Nat.{not-suc-le-zero, le_of_suc-le-suc}
use native.Mathlib.Omega.{arith}
use lib.ListN.{length, take, drop, get_or}
use Rattle.lists.specs.Lists.{Each}

module _ (P : ℕ → Type 0) where
  pub each_at : (l : List ℕ) (i : ℕ) → Each P l → i < length l → P (get_or l i 0)
  unfolding Each
  each_at [] i b h = absurd (not-suc-le-zero h)
  each_at (x ∷ xs) zero b h = b.0
  each_at (x ∷ xs) (suc i) b h = each_at xs i b.1 (le_of_suc-le-suc h)

  pub each_of : (l : List ℕ) → ((j : ℕ) → j < length l → P (get_or l j 0)) → Each P l
  unfolding Each
  each_of [] h = tt
  each_of (x ∷ xs) h = (h 0 (omega arith), each_of xs (λ j l. h (suc j) (omega arith)))

module _ {A : Type 0} (P : A → Type 0) where
  pub each_take : (k : ℕ) (l : List A) → Each P l → Each P (take k l)
  unfolding Each
  each_take zero l b = tt
  each_take (suc k) [] b = tt
  each_take (suc k) (x ∷ xs) b = (b.0, each_take k xs b.1)

  pub each-drop : (k : ℕ) (l : List A) → Each P l → Each P (drop k l)
  unfolding Each
  each-drop zero l b = b
  each-drop (suc k) [] b = tt
  each-drop (suc k) (x ∷ xs) b = each-drop k xs b.1

  pub each_append : (l r : List A) → Each P l → Each P r → Each P (l ++ r)
  unfolding Each
  each_append [] r b d = d
  each_append (x ∷ xs) r b d = (b.0, each_append xs r b.1 d)

  pub each_map : (Q : A → Type 0) → ((i : A) → P i → Q i) → (l : List A) → Each P l → Each Q l
  unfolding Each
  each_map Q f [] b = tt
  each_map Q f (x ∷ xs) b = (f x b.0, each_map Q f xs b.1)
