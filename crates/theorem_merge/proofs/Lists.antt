-- Rows of two lists one after the other, tests of numbers up to a sum, and the marks of the merged scene. Assumes nothing.
use Prim.Native.Nat.{ℕ, zero, suc, ◌+◌, ◌-◌, ◌*◌, ◌≤◌, ◌<◌}
use mathlib.Core.Path.{◌≡◌, refl, sym, ap, ap₂, ◌∙◌}
use mathlib.Core.Logic.{◌⊎◌, inl, inr}
use mathlib.Core.Bool.{Bool, true, ◌&&◌}
use mathlib.Core.List.{List, [], ◌++◌, append-nil}
use native.Mathlib.Nat.{add-mul}
use native.Mathlib.Omega.{arith}
use lib.ListN.{length, take, drop, get_or, length-drop}
use lib.Seq.{take-append-le, drop-append-le, drop-append-add}
use Rattle.rows.specs.Rows.{row, view, flat}
use Rattle.rows.specs.Entries.{marks_of}
use Rattle.rows.specs.declared.Marks.{Marks}
use Rattle.rows.proofs.Rows.{length-view, get_d-view, view-flat}
use Rattle.floats.proofs.Order.{le-or-lt}
use Rattle.lists.specs.Lists.{all_of}
use Rattle.lists.proofs.Tests.{all-at}
use Rattle.scene.specs.Entries.{marks_at}
use Rattle.scene.specs.Scenes.{entries}
use Rattle.scene_merge.specs.MergedScenes.{marks_row, raised, raised_marks}
use Rattle.theorem_merge.proofs.Names.{Appended}

-- ---- rows
module _ {A : Type 0} (k : ℕ) (xs ys : List A) where
  pub row_first : (i : ℕ) → i * k + k ≤ length xs → row k i (xs ++ ys) ≡ row k i xs
  row_first i h = ap (take k) (drop-append-le (i * k) xs ys (omega arith)) ∙ take-append-le k (drop (i * k) xs) ys (simp length-drop (omega arith))

  pub row-second : (n j : ℕ) → n * k ≡ length xs → row k (n + j) (xs ++ ys) ≡ row k j ys
  row-second n j e =
      let at : (n + j) * k ≡ length xs + j * k = add-mul n j k ∙ ap (λ (m : ℕ). m + j * k) e in
      ap (λ (m : ℕ). take k (drop m (xs ++ ys))) at ∙ ap (take k) (drop-append-add xs ys (j * k))

-- ---- tests of the numbers below a, then of those from a on
all-of : (p : ℕ → Bool) (n : ℕ) → ((i : ℕ) → i < n → p i ≡ true) → all_of p n ≡ true
unfolding all_of
all-of p zero h = refl
all-of p (suc n) h = ap₂ ◌&&◌ (all-of p n (λ i l. h i (omega arith))) (h n (omega arith))

pub all_both : (p q r : ℕ → Bool) (a b : ℕ) → ((i : ℕ) → i < a → p i ≡ q i) → ((j : ℕ) → j < b → p (a + j) ≡ r j) → all_of q a ≡ true → all_of r b ≡ true → all_of p (a + b) ≡ true
all_both p q r a b e f qa rb = all-of p (a + b) (λ i l. pick i l (le-or-lt a i))
  where
    pick : (i : ℕ) → i < a + b → (a ≤ i) ⊎ (i < a) → p i ≡ true
    pick i l (inl h) =
        let at : i ≡ a + (i - a) = omega arith in
        let m : i - a < b = omega arith in
        ap p at ∙ f (i - a) m ∙ all-at r b (i - a) rb m
    pick i l (inr h) = e i h ∙ all-at q a i qa h

-- ---- marks
module _ (n : ℕ) (marks : List ℕ) where
  pub raised-row : (j : ℕ) → j < entries marks → marks_at (raised_marks n marks) j ≡ raised n (marks_at marks j)
  unfolding raised_marks
  raised-row j h =
      let f : List ℕ → Marks = λ (r : List ℕ). raised n (marks_of r) in
      let bs = view 4 f (entries marks) marks in
      let long = length-view 4 f (entries marks) marks in
      let back : view 4 marks_of (length bs) (flat marks_row bs ++ []) ≡ bs = view-flat 4 marks_of marks_row (λ m. refl) (λ m. refl) bs [] in
      ap (λ (l : List ℕ). marks_of (row 4 j l)) (sym (append-nil (flat marks_row bs)))
      ∙ sym (get_d-view 4 marks_of (length bs) j (flat marks_row bs ++ []) (marks_of []) (omega (arith, long)))
      ∙ ap (λ (l : List Marks). get_or l j (marks_of [])) back
      ∙ get_d-view 4 f (entries marks) j marks (marks_of []) h

-- the marks of the merged scene are those of the first, then those of the second, raised
pub appended : (A B : List ℕ) → entries A * 4 ≡ length A → Appended A (entries A) B (entries B) (A ++ raised_marks (entries A) B)
appended A B four = record {
  first = λ i h. ap marks_of (row_first 4 A (raised_marks (entries A) B) i (omega arith));
  second = λ j h. ap marks_of (row-second 4 A (raised_marks (entries A) B) (entries A) j four) ∙ raised-row (entries A) B j h;
}
