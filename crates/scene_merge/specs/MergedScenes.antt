-- Document 02's request (xii), one yard from two files: the merged scene.
use Rattle.std.specs.Prelude.{ℕ, ◌+◌, ◌/◌, ◌^◌, ◌<◌, ◌≡◌, ◌||◌, cond, List, [], ◌∷◌, ◌++◌, map, length, get_or, eqb, Float}
use Rattle.rows.specs.Rows.{view, flat}
use Rattle.rows.specs.Entries.{marks_of}
use Rattle.rows.specs.declared.Marks.{Marks}
use Rattle.scene.specs.Entries.{marks_at}
use Rattle.scene.specs.Scenes.{Scene, scene_of, entries, entries_of}

-- the four marks of an entry, as they stand in a scene
abbrev pub marks_row : Marks → List ℕ
marks_row m = m.kind ∷ m.detail ∷ m.first ∷ m.second ∷ []

-- the used parts of an entry raised by n: the first of a placed part, both of a cut; unused places stay as they are
unfoldable pub raised : ℕ → Marks → Marks
raised n m = record {
  kind = m.kind;
  detail = m.detail;
  first = cond (eqb m.kind 6 || eqb m.kind 7) (n + m.first) m.first;
  second = cond (eqb m.kind 7) (n + m.second) m.second;
}

unfoldable pub raised_marks : ℕ → List ℕ → List ℕ
raised_marks n marks = flat marks_row (view 4 (λ (r : List ℕ). raised n (marks_of r)) (entries marks) marks)

-- owner or start indices raised by n
abbrev pub raised_by : ℕ → List ℕ → List ℕ
raised_by n is = map (λ (i : ℕ). n + i) is

-- the points that a scene gives: none without path starts
unfoldable pub points_given : List Float → List ℕ → List Float
points_given points [] = []
points_given points (s ∷ starts) = points

abbrev pub points_of : Scene → List Float
points_of s = points_given s.points s.starts

-- document 02's merged scene: the first's entries, then the second's with used part, owner and start indices raised
unfoldable pub merged_scene : Scene → Scene → Scene
merged_scene s u =
    scene_of
    (s.numbers ++ u.numbers)
    (s.marks ++ raised_marks (entries_of s) u.marks)
    (points_of s ++ points_of u)
    (s.starts ++ raised_by (length (points_of s) / 3) u.starts)
    (s.owners ++ raised_by (entries_of s) u.owners)

-- ---- what the code needs: no sum is too great
abbrev pub Raisable : ℕ → ℕ → List ℕ → Type 0
Raisable limit by is = (j : ℕ) → j < length is → by + get_or is j 0 < limit

pub record MarksRaisable (by : ℕ) (m : Marks) : Type 0 where
  pub placing : m.kind ≡ 6 → by + m.first < 2 ^ 32
  pub cut_first : m.kind ≡ 7 → by + m.first < 2 ^ 32
  pub cut_second : m.kind ≡ 7 → by + m.second < 2 ^ 32

abbrev pub AllRaisable : ℕ → List ℕ → Type 0
AllRaisable by marks = (i : ℕ) → i < entries marks → MarksRaisable by (marks_at marks i)
