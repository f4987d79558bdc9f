-- The drawn entries: those that nobody names, in entry order.
use Rattle.std.specs.Prelude.{ℕ, zero, suc, List, [], ◌∷◌, ◌++◌, Bool, not, cond, get_or, eqb}
use Rattle.check_parts.specs.Parts.{named_before}
use Rattle.scene.specs.Scenes.{entries}

-- the numbers below n that are not among the named
unfoldable pub unnamed : (ℕ → Bool) → ℕ → List ℕ
unnamed named zero = []
unnamed named (suc i) = unnamed named i ++ cond (named i) [] (i ∷ [])

-- document 01's drawn entries
abbrev pub drawn : List ℕ → List ℕ
drawn marks = unnamed (named_before marks (entries marks)) (entries marks)

-- by the flags of a list
abbrev pub flagged : List ℕ → ℕ → Bool
flagged fs i = not (eqb (get_or fs i 0) 0)
