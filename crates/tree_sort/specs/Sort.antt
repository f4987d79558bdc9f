-- The stable sort: insertion sort, each element put before the first one that is not less than it; and the merge of two lists.
use Rattle.std.specs.Prelude.{Bool, cond, List, [], ◌∷◌, ℕ, ◌<◌, length, get_or, T, Float}
use Rattle.std.specs.Float.Ieee.{lt}
use Rattle.floats.specs.Arith.{zero_f}
use Rattle.floats.specs.Numbers.{number}

unfoldable pub inserted : (ℕ → ℕ → Bool) → ℕ → List ℕ → List ℕ
inserted less x [] = x ∷ []
inserted less x (y ∷ ys) = cond (less y x) (y ∷ inserted less x ys) (x ∷ y ∷ ys)

-- document 01: elements of which neither is less keep the order that they had
unfoldable pub sorted : (ℕ → ℕ → Bool) → List ℕ → List ℕ
sorted less [] = []
sorted less (x ∷ xs) = inserted less x (sorted less xs)

-- of the two first elements the right one only where it is less
abbrev pub merged_in : (ℕ → ℕ → Bool) → ℕ → List ℕ → (List ℕ → List ℕ) → List ℕ → List ℕ
merged_in less p ps rest [] = p ∷ ps
merged_in less p ps rest (q ∷ qs) = cond (less q p) (q ∷ merged_in less p ps rest qs) (p ∷ rest (q ∷ qs))

abbrev pub merged : (ℕ → ℕ → Bool) → List ℕ → List ℕ → List ℕ
merged less [] qs = qs
merged less (p ∷ ps) qs = merged_in less p ps (merged less ps) qs

-- by the float that stands at each number's place, 0.0 where there is none
unfoldable pub by_key : List Float → ℕ → ℕ → Bool
by_key keys a b = lt (get_or keys a zero_f) (get_or keys b zero_f)

-- number i has a key, and it is not a NaN
abbrev pub HasKey : List Float → ℕ → Type 0
HasKey keys i = (i < length keys) × T (number (get_or keys i zero_f))
