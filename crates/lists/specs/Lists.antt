-- Lists: their members, a property of each, a test of each number below n, and the list of what a function gives of these.
use Rattle.std.specs.Prelude.{ℕ, zero, suc, ◌≡◌, ◌⊎◌, List, [], ◌∷◌, ◌++◌, Bool, true, ◌&&◌}

abbrev pub Member : {A : Type 0} → A → List A → Type 0
Member a [] = ⊥
Member a (x ∷ xs) = (x ≡ a) ⊎ Member a xs

-- the same members, in whatever order
abbrev pub SameMembers : {A : Type 0} → List A → List A → Type 0
SameMembers {A} l m = (a : A) → record { to : Member a l → Member a m; from : Member a m → Member a l }

-- each element has the property
unfoldable pub Each : {A : Type 0} → (A → Type 0) → List A → Type 0
Each P [] = Unit
Each P (x ∷ xs) = P x × Each P xs

-- two lists of one length, in order: the elements of each pair stand in the relation
unfoldable pub Pairwise : {A B : Type 0} → (A → B → Type 0) → List A → List B → Type 0
Pairwise r [] [] = Unit {0}
Pairwise r [] (y ∷ ys) = ⊥
Pairwise r (x ∷ xs) [] = ⊥
Pairwise r (x ∷ xs) (y ∷ ys) = r x y × Pairwise r xs ys

-- each number below n passes the test
unfoldable pub all_of : (ℕ → Bool) → ℕ → Bool
all_of p zero = true
all_of p (suc i) = all_of p i && p i

-- f 0, f 1 and so on, n of them
unfoldable pub list_to {ℓ} : {A : Type ℓ} → (ℕ → A) → ℕ → List A
list_to f zero = []
list_to f (suc i) = list_to f i ++ (f i ∷ [])
