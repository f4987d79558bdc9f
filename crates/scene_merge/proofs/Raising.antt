-- Marks, owners and starts raised. Assumes nothing.
use Prim.Native.Nat.{ℕ, ◌+◌, ◌-◌, ◌*◌, ◌/◌, ◌≤◌, ◌<◌}
use mathlib.Core.Path.{◌≡◌, refl, sym, ap, subst, ◌∙◌}
use mathlib.Core.List.{List, ◌++◌}
use native.Mathlib.Omega.{arith}
use lib.ListN.{length, get_or, length-append, length-map}
use Rattle.rows.specs.Rows.{view, flat}
use Rattle.rows.specs.Entries.{marks_of}
use Rattle.rows.specs.declared.Marks.{Marks}
use Rattle.rows.proofs.Rows.{length-view, get_d-view, length-flat}
use Rattle.scene.specs.Entries.{marks_at}
use Rattle.scene.specs.Scenes.{entries}
use Rattle.scene_merge.specs.MergedScenes.{marks_row, raised, raised_marks, raised_by, MarksRaisable}
use Rattle.scene_merge.proofs.Laying.{in-second, past-both, get_d_map, flat-at}

-- ---- owners and starts
module _ (l r : List ℕ) (by k : ℕ) where
  pub raised-second : (j : ℕ) → length l + j ≡ k → j < length r → by + get_or r j 0 ≡ get_or (l ++ raised_by by r) k 0
  raised-second j e h =
      sym (get_d_map (λ (i : ℕ). by + i) r j 0 0 h) ∙ in-second l (raised_by by r) k 0 0 j e (omega (arith, length-map r (λ (i : ℕ). by + i)))

  pub raised-past : length l + length r ≤ k → 0 ≡ get_or (l ++ raised_by by r) k 0
  raised-past h = past-both l (raised_by by r) k 0 0 (omega (arith, length-map r (λ (i : ℕ). by + i)))

pub both-length : (l r : List ℕ) (by room : ℕ) → length l + length r ≤ room → length (l ++ raised_by by r) ≤ room
both-length l r by room h = omega (arith, length-append l (raised_by by r), length-map r (λ (i : ℕ). by + i))

-- ---- marks
-- the entries with parts
module _ (by : ℕ) (m : Marks) where
  pub raised-six : m.kind ≡ 6 → record { kind = m.kind; detail = m.detail; first = by + m.first; second = m.second } ≡ raised by m
  unfolding raised
  raised-six k = rw k

  pub raised-seven : m.kind ≡ 7 → record { kind = m.kind; detail = m.detail; first = by + m.first; second = by + m.second } ≡ raised by m
  unfolding raised
  raised-seven k = rw k

-- the last of four
pub mark-last : (m : Marks) (place : ℕ) → place < 4 → (place ≡ 0 → ⊥) → (place ≡ 1 → ⊥) → (place ≡ 2 → ⊥) → m.second ≡ get_or (marks_row m) place 0
mark-last m place h a b c = let e : place ≡ 3 = omega (arith, a, b, c) in rw e

pub raisable-as : {by : ℕ} {m n : Marks} → m ≡ n → MarksRaisable by n → MarksRaisable by m
raisable-as {by} e h = subst (λ (x : Marks). MarksRaisable by x) (sym e) h

module _ (by : ℕ) (marks : List ℕ) where
  pub marks-length : length (raised_marks by marks) ≡ entries marks * 4
  unfolding raised_marks
  marks-length =
      length-flat 4 marks_of marks_row (λ m. refl) (view 4 (λ (r : List ℕ). raised by (marks_of r)) (entries marks) marks)
      ∙ ap (λ (n : ℕ). n * 4) (length-view 4 (λ (r : List ℕ). raised by (marks_of r)) (entries marks) marks)

  pub all-length : (l : List ℕ) (room : ℕ) → length l + entries marks * 4 ≤ room → length (l ++ raised_marks by marks) ≤ room
  all-length l room h = omega (arith, length-append l (raised_marks by marks), marks-length)

  module _ (l : List ℕ) (k : ℕ) where
    -- mark j of the raised ones stands in row j / 4, at the place that is left
    pub mark-second : (j i : ℕ) → length l + j ≡ k → i ≡ j / 4 → i < entries marks → (m : Marks) → m ≡ marks_at marks i → (n : Marks) → n ≡ raised by m
        → (p : ℕ) → p ≡ j - i * 4 → (r : ℕ) → r ≡ get_or (marks_row n) p 0 → r ≡ get_or (l ++ raised_marks by marks) k 0
    unfolding raised_marks
    mark-second j i e ei h m em n en p ep r er =
        let rows = view 4 (λ (r : List ℕ). raised by (marks_of r)) (entries marks) marks in
        let f : List ℕ → Marks = λ (r : List ℕ). raised by (marks_of r) in
        let at : i * 4 + p ≡ j = omega arith in
        let row_is : get_or rows i (marks_of marks) ≡ n = get_d-view 4 f (entries marks) i marks (marks_of marks) h ∙ sym (en ∙ ap (raised by) em) in
        er
        ∙ sym (ap (λ (x : Marks). get_or (marks_row x) p 0) row_is)
        ∙ sym (flat-at 4 marks_row (λ m. refl) rows i p (marks_of marks) 0 (omega (arith, length-view 4 f (entries marks) marks)) (omega arith))
        ∙ ap (λ (x : ℕ). get_or (flat marks_row rows) x 0) at
        ∙ in-second l (flat marks_row rows) k 0 0 j e (omega (arith, marks-length))

    pub mark-past : (j i : ℕ) → length l + j ≡ k → i ≡ j / 4 → entries marks ≤ i → 0 ≡ get_or (l ++ raised_marks by marks) k 0
    mark-past j i e ei h = past-both l (raised_marks by marks) k 0 0 (omega (arith, marks-length))
