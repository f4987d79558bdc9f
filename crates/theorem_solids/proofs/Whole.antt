-- A scene that passes numbers 3 and 4 is read without `none`: the proof.
use Prim.Native.Nat.{ℕ, zero, suc, ◌*◌, ◌/◌, ◌<◌, ◌≤◌}
use mathlib.Core.Path.{◌≡◌, refl, sym, ap, ◌∙◌}
use mathlib.Core.List.{List}
use mathlib.Core.Bool.{Bool, true, false, ◌&&◌, cond, and-eq-true_iff}
use native.Mathlib.Omega.{arith}
use lib.ListN.{length}
use lib.Dec.{leb, eqb}
use lib.Ieee.{Float}
use borrow.Author.Tests.{leb-true, eqb-true, eqb-false, ne_eqb, lt-ltb}
use Rattle.rows.specs.declared.Marks.{Marks}
use Rattle.rows.specs.declared.Numbers.{Numbers}
use Rattle.scene.specs.Entries.{closed_of, simple_of, simple_or, cut_of, composite_of, entry_of, matrix_of, marks_at, numbers_at, own_entry}
use Rattle.scene.specs.declared.entry.Entry.{Entry}
use Rattle.scene.specs.declared.entry.Entry.TheVariants.{Simple as SimpleEntry, Placed, Cut}
use Rattle.scene_shape.specs.Shapes.{Shape, shape_of, solid_of}
use Rattle.check_parts.specs.Parts.{parts_ok}
use Rattle.scene.specs.Scenes.{entries}
use Rattle.check_parts.proofs.Parts.{never}
use Rattle.lists.specs.Lists.{all_of}
use Rattle.check_measures.specs.Values.{is_kind, known}
use Rattle.lists.proofs.Tests.{all-at}
use Rattle.check_scene.proofs.Reading.{Each, each_map, own-parts, solid-opens}
use Rattle.theorem_solids.specs.Whole.{without_none, ReadWhole}
use Rattle.std.specs.Prelude.{None, Option, Some}
use Rattle.solids.specs.declared.solid.Solid.{Solid}

-- ---- an entry with known marks stands for something
abbrev some : Option Entry → Bool
some (Some (SimpleEntry s)) = true
some (Some (Placed m v k)) = true
some (Some (Cut o a b)) = true
some None = false

abbrev is_other : Option Solid → Bool
is_other (Some s) = false
is_other None = true

some_or : (s : Option Solid) (e : Option Entry) → (s ≡ None → some e ≡ true) → some (simple_or s e) ≡ true
unfolding simple_or
some_or (Some s) e h = refl
some_or None e h = h refl

-- the marks of a cut, and of what is neither a placing nor a cut nor simple
known-cut : (m : Marks) → m.kind ≡ 7 → known m ≡ leb m.detail 3
unfolding known
known-cut m e = rw e

module _ (m : Marks) (n : Numbers) (o : simple_of m.kind n ≡ None) where
  not-one : m.kind ≡ 1 → ⊥
  unfolding simple_of
  not-one e = never (ap is_other (sym (ap (λ (k : ℕ). simple_of k n) e) ∙ o))

  not-two : m.kind ≡ 2 → ⊥
  unfolding simple_of
  not-two e = never (ap is_other (sym (ap (λ (k : ℕ). simple_of k n) e) ∙ o))

  not_three : m.kind ≡ 3 → ⊥
  unfolding simple_of
  not_three e = never (ap is_other (sym (ap (λ (k : ℕ). simple_of k n) e) ∙ o))

  not-four : m.kind ≡ 4 → ⊥
  unfolding simple_of
  not-four e = never (ap is_other (sym (ap (λ (k : ℕ). simple_of k n) e) ∙ o))

  not_five : m.kind ≡ 5 → ⊥
  unfolding simple_of
  not_five e = never (ap is_other (sym (ap (λ (k : ℕ). simple_of k n) e) ∙ o))

  not_eight : m.kind ≡ 8 → ⊥
  unfolding simple_of closed_of
  not_eight e = never (ap is_other (sym (ap (λ (k : ℕ). simple_of k n) e) ∙ o))

  not-nine : m.kind ≡ 9 → ⊥
  unfolding simple_of closed_of
  not-nine e = never (ap is_other (sym (ap (λ (k : ℕ). simple_of k n) e) ∙ o))

  not_known : eqb m.kind 6 ≡ false → eqb m.kind 7 ≡ false → known m ≡ true → ⊥
  unfolding known is_kind
  not_known e6 e7 h =
      let k : (leb 1 m.kind && leb m.kind 9) ≡ true = rw (ne_eqb m.kind 4 not-four, e7) at h in
      let b = (and-eq-true_iff (leb 1 m.kind) (leb m.kind 9)).0 k in
      let k2 : 2 ≤ m.kind = omega (arith, leb-true 1 m.kind b.0, not-one) in
      let k3 : 3 ≤ m.kind = omega (arith, k2, not-two) in
      let k4 : 4 ≤ m.kind = omega (arith, k3, not_three) in
      let k5 : 5 ≤ m.kind = omega (arith, k4, not-four) in
      let k6 : 6 ≤ m.kind = omega (arith, k5, not_five) in
      let k7 : 7 ≤ m.kind = omega (arith, k6, eqb-false m.kind 6 e6) in
      let k8 : 8 ≤ m.kind = omega (arith, k7, eqb-false m.kind 7 e7) in
      let k9 : 9 ≤ m.kind = omega (arith, k8, not_eight) in
      omega (arith, k9, leb-true m.kind 9 b.1, not-nine)

module _ (m : Marks) (n v : Numbers) (h : known m ≡ true) where
  some-cut : m.kind ≡ 7 → some (cut_of m) ≡ true
  unfolding cut_of
  some-cut e = rw (sym (known-cut m e) ∙ h)

  some-composite : simple_of m.kind n ≡ None → (t6 t7 : Bool) → eqb m.kind 6 ≡ t6 → eqb m.kind 7 ≡ t7 → some (cond t6 (Some (Placed (matrix_of n) (matrix_of v) m.first)) (cond t7 (cut_of m) None)) ≡ true
  some-composite o true t7 e6 e7 = refl
  some-composite o false true e6 e7 = some-cut (eqb-true m.kind 7 e7)
  some-composite o false false e6 e7 = absurd (not_known m n o e6 e7 h)

  some-entry : some (entry_of m n v) ≡ true
  unfolding entry_of composite_of
  some-entry = some_or (simple_of m.kind n) (composite_of m n v) (λ o. some-composite o (eqb m.kind 6) (eqb m.kind 7) refl refl)

-- ---- the theorem
whole_of : (F : ℕ → Shape) (e : Option Entry) → some e ≡ true → Each (λ k. without_none (F k) ≡ true) e → without_none (shape_of F e) ≡ true
unfolding without_none shape_of
whole_of F (Some (SimpleEntry s)) h p = refl
whole_of F (Some (Placed m v k)) h p = p
whole_of F (Some (Cut o a b)) h p = rw (p.0, p.1)
whole_of F None h p = h

module _ (ns : List Float) (ms : List ℕ) (fit : entries ms * 16 ≤ length ns) (values : all_of (λ i. known (marks_at ms i)) (entries ms) ≡ true) (names : parts_ok ms (entries ms) ≡ true) where
  some-own : (i : ℕ) → i < entries ms → some (own_entry ns ms i) ≡ true
  unfolding own_entry
  some-own i h =
      rw (lt-ltb i (length ns / 16) (omega arith), lt-ltb i (length ms / 4) h)
      (some-entry (marks_at ms i) (numbers_at ns i) _ (all-at (λ j. known (marks_at ms j)) (entries ms) i values h))

  whole_below : (n i : ℕ) → i < n → i < entries ms → without_none (solid_of ns ms i) ≡ true
  whole_below zero i l h = absurd (omega arith)
  whole_below (suc n) i l h =
      rw (solid-opens ns ms names i h)
      (whole_of (solid_of ns ms) (own_entry ns ms i) (some-own i h)
      (each_map (own_entry ns ms i) (λ k p. whole_below n k (omega (arith, p.0)) (omega (arith, p.0))) (own-parts ns ms names i h)))

pub read_whole : ReadWhole
read_whole ns ms fit values names i h = whole_below ns ms fit values names (suc i) i (omega arith) h
