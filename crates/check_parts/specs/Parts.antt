-- Document 01's number 4, of parts: each earlier than its entry, named at most once, and nested at most 8 deep.
use Rattle.std.specs.Prelude.{ℕ, zero, suc, ◌+◌, ◌<◌, ◌≡◌, List, [], ◌∷◌, ◌++◌, Bool, true, false, not, ◌&&◌, ◌||◌, cond, length, get_or, take, ltb, eqb}
use Rattle.scene.specs.Entries.{marks_at}
use Rattle.scene.specs.Scenes.{entries}

abbrev pub kind_at : List ℕ → ℕ → ℕ
kind_at marks i = (marks_at marks i).kind

abbrev pub first_at : List ℕ → ℕ → ℕ
first_at marks i = (marks_at marks i).first

abbrev pub second_at : List ℕ → ℕ → ℕ
second_at marks i = (marks_at marks i).second

-- an entry of kind k with the parts a and b names p: a placing has one part, a cut has two
unfoldable pub names : ℕ → ℕ → ℕ → ℕ → Bool
names k a b p = cond (eqb k 6) (eqb p a) (cond (eqb k 7) (eqb p b || eqb p a) false)

-- an entry before i names p
unfoldable pub named_before : List ℕ → ℕ → ℕ → Bool
named_before marks zero p = false
named_before marks (suc i) p = names (kind_at marks i) (first_at marks i) (second_at marks i) p || named_before marks i p

unfoldable pub larger : ℕ → ℕ → ℕ
larger a b = cond (ltb a b) b a

-- the depth of the deepest part, where ds are the depths of the entries before
unfoldable pub deepest : ℕ → ℕ → ℕ → List ℕ → ℕ
deepest k a b ds = cond (eqb k 6) (get_or ds a 0) (cond (eqb k 7) (larger (get_or ds a 0) (get_or ds b 0)) 0)

-- the depths of the entries before i: one without parts has depth 1
unfoldable pub depths_to : List ℕ → ℕ → List ℕ
depths_to marks zero = []
depths_to marks (suc i) = depths_to marks i ++ ((deepest (kind_at marks i) (first_at marks i) (second_at marks i) (depths_to marks i) + 1) ∷ [])

-- p is before i, and not among the named
abbrev pub free_for : ℕ → (ℕ → Bool) → ℕ → Bool
free_for i named p = ltb p i && not (named p)

-- the parts of an entry i of kind k are free, the second also of the first
unfoldable pub parts_free : ℕ → ℕ → ℕ → ℕ → (ℕ → Bool) → Bool
parts_free k a b i named =
    cond (eqb k 6) (free_for i named a)
    (cond (eqb k 7) (free_for i named a && free_for i (λ p. eqb p a || named p) b) true)

unfoldable pub entry_ok : List ℕ → ℕ → Bool
entry_ok marks i =
    parts_free (kind_at marks i) (first_at marks i) (second_at marks i) i (named_before marks i)
    && ltb (deepest (kind_at marks i) (first_at marks i) (second_at marks i) (depths_to marks i)) 8

-- the first n entries name their parts well
unfoldable pub parts_ok : List ℕ → ℕ → Bool
parts_ok marks zero = true
parts_ok marks (suc i) = parts_ok marks i && entry_ok marks i

-- ---- what the code holds while it looks at entry i: a flag for each entry that is named, and the depths
abbrev pub flag : Bool → ℕ
flag true = 1
flag false = 0

abbrev pub Flags : (ℕ → Bool) → List ℕ → Type 0
Flags named fs = (p : ℕ) → p < length fs → get_or fs p 0 ≡ flag (named p)

pub record Known (marks : List ℕ) (i : ℕ) (ds fs : List ℕ) : Type 0 where
  pub deep : take i ds ≡ depths_to marks i
  pub flags : Flags (named_before marks i) fs

pub record Ready (marks : List ℕ) (i : ℕ) (ds fs : List ℕ) : Type 0 where
  pub marked : i < entries marks
  pub deep_room : i < length ds
  pub flag_room : i < length fs
  pub known : Known marks i ds fs
