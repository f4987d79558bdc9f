-- A flat list as rows of k elements, and as the values that its rows stand for.
use Rattle.std.specs.Prelude.{List, [], ◌∷◌, ◌++◌, ℕ, zero, suc, ◌*◌, ◌-◌, length, take, drop, replicate}
use Rattle.std.proofs.lemmas.List.Edits.{sets}

-- the k elements of row i
abbrev pub row {ℓ} : {A : Type ℓ} → ℕ → ℕ → List A → List A
row k i xs = take k (drop (i * k) xs)

-- row i replaced by r, element by element
abbrev pub set_row {ℓ} : {A : Type ℓ} → ℕ → ℕ → List A → List A → List A
set_row k i r xs = sets xs (i * k) r

-- what the first n rows stand for
unfoldable pub view {ℓ κ} : {A : Type ℓ} {B : Type κ} → ℕ → (List A → B) → ℕ → List A → List B
view k f zero xs = []
view k f (suc n) xs = f (take k xs) ∷ view k f n (drop k xs)

-- the rows of a list of values, one after the other
unfoldable pub flat {ℓ κ} : {A : Type ℓ} {B : Type κ} → (B → List A) → List B → List A
flat g [] = []
flat g (b ∷ bs) = g b ++ flat g bs

-- xs, then z up to n elements: how a lent slice is left
unfoldable pub padded {ℓ} : {A : Type ℓ} → A → ℕ → List A → List A
padded z n xs = xs ++ replicate (n - length xs) z
