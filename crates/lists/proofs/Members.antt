-- A member of two lists one after the other is a member of one of them. Assumes nothing.
use mathlib.Core.Logic.{◌⊎◌, inl, inr}
use mathlib.Core.List.{List, [], ◌∷◌, ◌++◌}
use Rattle.lists.specs.Lists.{Member}

pub member-append : {A : Type 0} (s : A) (l m : List A) → Member s (l ++ m) → Member s l ⊎ Member s m
member-append s [] m h = inr h
member-append s (x ∷ l) m (inl e) = inl (inl e)
member-append s (x ∷ l) m (inr h) = elim (member-append s l m h) [ inl i ↦ inl (inr i) | inr i ↦ inr i ]

pub append-member : {A : Type 0} (s : A) (l m : List A) → Member s l ⊎ Member s m → Member s (l ++ m)
append-member s [] m (inl h) = absurd h
append-member s [] m (inr h) = h
append-member s (x ∷ l) m (inl (inl e)) = inl e
append-member s (x ∷ l) m (inl (inr h)) = inr (append-member s l m (inl h))
append-member s (x ∷ l) m (inr h) = inr (append-member s l m (inr h))
