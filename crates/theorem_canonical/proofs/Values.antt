-- What is drawn of an entry, and the check's tests of it, hang on its form alone. Assumes nothing.
use Prim.Native.Nat.{ℕ, zero, suc, ◌+◌, ◌*◌, ◌/◌, ◌<◌, ◌≤◌}
use mathlib.Core.Path.{◌≡◌, refl, sym, ap, ap₂, ◌∙◌, subst}
use mathlib.Core.Logic.{◌⊎◌, inl, inr}
use mathlib.Core.List.{List, [], ◌∷◌}
use mathlib.Core.Bool.{Bool, true, false, cond, ◌&&◌}
use native.Mathlib.Omega.{arith}
use lib.ListN.{length, take, drop, get_or, length-drop}
use lib.Seq.{take-take, take-nil}
use lib.Dec.{eqb, ltb, leb}
use lib.Ieee.{Float}
use borrow.Author.Tests.{eqb-true, lt-ltb, le-ltb, lt-leb, eq-eqb, ne_eqb}
use Rattle.floats.proofs.Order.{le-or-lt}
use Rattle.geometry.specs.declared.vector.Vector.{Vector}
use Rattle.matrix_inverse.specs.Inverses.{inverted}
use Rattle.rows.specs.Rows.{row}
use Rattle.rows.specs.Entries.{numbers_of, marks_of}
use Rattle.rows.specs.declared.Marks.{Marks}
use Rattle.rows.specs.declared.Numbers.{Numbers}
use Rattle.solids.specs.declared.solid.Solid.{Solid}
use Rattle.scene.specs.Entries.{closed_of, simple_of, striped, stripe_count, matrix_of, op_of, cut_of, composite_of, simple_or, entry_of, matrix_numbers, marks_at, numbers_at, own_entry}
use Rattle.scene.specs.declared.entry.Op.{Op}
use Rattle.scene.specs.declared.entry.Entry.{Entry}
use Rattle.scene.specs.declared.entry.Entry.TheVariants.{Simple as SimpleEntry, Placed, Cut}
use Rattle.scene.specs.Scenes.{Scene, entries_of}
use Rattle.check_parts.specs.Owners.{is_round}
use Rattle.check_measures.specs.Values.{is_kind, is_stripes, known, few_stripes}
use Rattle.check_measures.specs.Measures.{simple_measured, measured}
use Rattle.check_scene.specs.Placings.{invertible, placing_ok}
use Rattle.limits.specs.Limits.{within_matrix}
use Rattle.draw_solids.specs.Lines.{solid_paths}
use Rattle.draw_collect.specs.Lined.{Lined, no_lines, lined, placed_lines, cut_lines, lined_of, read_lined, detail_at, own_lines}
use Rattle.theorem_solids.specs.Same.{used_numbers}
use Rattle.theorem_solids.proofs.Same.{agree, all-agree}
use Rattle.text_heads.specs.Heads.{measures, closed_measures}
use Rattle.text_canonical.specs.Forms.{Form, round_form, cube_form, triangle_form, placed_form, cut_form, no_form, lines_at, form_of, form_at}
use Rattle.text_canonical.proofs.Rereading.{round-not, round-within}
use Rattle.text_numbers.proofs.Digits.{and-false}
use Rattle.theorem_canonical.proofs.Opened.{form-by}
use Rattle.std.specs.Prelude.{None, Option, Some}

-- ---- the numbers that a kind uses
used-are : (k : ℕ) → measures k ≡ used_numbers k
unfolding measures closed_measures used_numbers
used-are k = refl

pub simple-used : (k u : ℕ) (r : List Float) → measures k ≡ u → simple_of k (numbers_of r) ≡ simple_of k (numbers_of (take u r))
simple-used k u r e =
    let q : used_numbers k ≡ u = sym (used-are k) ∙ e in
    agree r (take u r) k (rw q (sym (take-take u u r (omega arith)))) (eqb k 1) (eqb k 2) (eqb k 3) (eqb k 4) (eqb k 5) refl refl refl refl refl

pub matrix-used : (r : List Float) → numbers_of r ≡ numbers_of (take 16 r)
matrix-used r = all-agree r (take 16 r) (sym (take-take 16 16 r (omega arith)))

pub four : measures 4 ≡ 6
unfolding measures
four = refl

pub five : measures 5 ≡ 9
unfolding measures
five = refl

-- ---- what is drawn
unfoldable pub lined_simple : Option Solid → ℕ → List (List Vector) → Lined
lined_simple (Some s) n ls = lined s (solid_paths s n ls)
lined_simple None n ls = no_lines

abbrev inverse_of : Numbers → Numbers
inverse_of n = matrix_numbers (inverted (matrix_of n)).inverse

-- the drawn value of a form
unfoldable pub lined_form : Form → Lined
lined_form (round_form k n xs ls) = lined_simple (simple_of k (numbers_of xs)) n ls
lined_form (cube_form n xs) = lined_simple (simple_of 4 (numbers_of xs)) n []
lined_form (triangle_form xs) = lined_simple (simple_of 5 (numbers_of xs)) 0 []
lined_form (placed_form xs f) = placed_lines (matrix_of (numbers_of xs)) (matrix_of (inverse_of (numbers_of xs))) (lined_form f)
lined_form (cut_form o f g) = cond (leb o 3) (cut_lines (op_of o) (lined_form f) (lined_form g)) no_lines
lined_form no_form = no_lines

module _ (F : ℕ → Lined) (n : Numbers) (det : ℕ) (ls : List (List Vector)) (e : Option Entry) where
  abbrev own : Solid → List (List Vector)
  own s = solid_paths s det ls

  -- a round solid's lines hang on its count alone
  round-lined : (k : ℕ) → is_round k ≡ true → lined_of F own (simple_or (simple_of k n) e) ≡ lined_simple (simple_of k n) (cond (striped k) det 0) ls
  unfolding simple_of closed_of simple_or lined_of lined_simple striped solid_paths
  round-lined zero h = absurd (omega (arith, (round-within 0 h).0))
  round-lined (suc zero) h = refl
  round-lined (suc (suc zero)) h = refl
  round-lined (suc (suc (suc zero))) h = refl
  round-lined (suc (suc (suc (suc zero)))) h = absurd (round-not 4 4 h (omega arith) (omega arith) refl)
  round-lined (suc (suc (suc (suc (suc zero))))) h = absurd (round-not 5 5 h (omega arith) (omega arith) refl)
  round-lined (suc (suc (suc (suc (suc (suc zero)))))) h = absurd (round-not 6 6 h (omega arith) (omega arith) refl)
  round-lined (suc (suc (suc (suc (suc (suc (suc zero))))))) h = absurd (round-not 7 7 h (omega arith) (omega arith) refl)
  round-lined (suc (suc (suc (suc (suc (suc (suc (suc zero)))))))) h = refl
  round-lined (suc (suc (suc (suc (suc (suc (suc (suc (suc zero))))))))) h = refl
  round-lined (suc (suc (suc (suc (suc (suc (suc (suc (suc (suc k)))))))))) h = absurd (omega (arith, (round-within (suc (suc (suc (suc (suc (suc (suc (suc (suc (suc k)))))))))) h).1))

  cube-lined : lined_of F own (simple_or (simple_of 4 n) e) ≡ lined_simple (simple_of 4 n) det []
  unfolding simple_of simple_or lined_of lined_simple solid_paths
  cube-lined = refl

  triangle-lined : lined_of F own (simple_or (simple_of 5 n) e) ≡ lined_simple (simple_of 5 n) 0 []
  unfolding simple_of simple_or lined_of lined_simple solid_paths
  triangle-lined = refl

  composite-lined : (k : ℕ) → (k ≡ 6) ⊎ (k ≡ 7) → lined_of F own (simple_or (simple_of k n) e) ≡ lined_of F own e
  unfolding simple_of closed_of simple_or
  composite-lined k (inl q) = rw q
  composite-lined k (inr q) = rw q

-- ---- kinds that are none
differ : true ≡ false → ⊥
differ e = let z : ◌≡◌ {A = ℕ} 1 0 = ap (λ (b : Bool). cond b 1 0) e in omega (arith, z)

not_round : (k j : ℕ) → is_round k ≡ false → is_round j ≡ true → k ≡ j → ⊥
not_round k j h t e = differ (sym t ∙ ap is_round (sym e) ∙ h)

rounds : (is_round 1 ≡ true) × (is_round 2 ≡ true) × (is_round 3 ≡ true) × (is_round 8 ≡ true) × (is_round 9 ≡ true)
unfolding is_round
rounds = (refl, refl, refl, refl, refl)

pub other-simple : (k : ℕ) (n : Numbers) → is_round k ≡ false → eqb k 4 ≡ false → eqb k 5 ≡ false → simple_of k n ≡ None
unfolding simple_of closed_of
other-simple k n h e4 e5 =
    rw (ne_eqb k 1 (λ e. not_round k 1 h rounds.0 e), ne_eqb k 2 (λ e. not_round k 2 h rounds.1 e), ne_eqb k 3 (λ e. not_round k 3 h rounds.2 e), e4, e5, ne_eqb k 8 (λ e. not_round k 8 h rounds.3 e), ne_eqb k 9 (λ e. not_round k 9 h rounds.4 e))

pub none-kind : (k : ℕ) → is_round k ≡ false → eqb k 4 ≡ false → eqb k 5 ≡ false → eqb k 6 ≡ false → eqb k 7 ≡ false → is_kind k ≡ false
unfolding is_kind
none-kind zero h e4 e5 e6 e7 = refl
none-kind (suc zero) h e4 e5 e6 e7 = absurd (not_round 1 1 h rounds.0 refl)
none-kind (suc (suc zero)) h e4 e5 e6 e7 = absurd (not_round 2 2 h rounds.1 refl)
none-kind (suc (suc (suc zero))) h e4 e5 e6 e7 = absurd (not_round 3 3 h rounds.2 refl)
none-kind (suc (suc (suc (suc zero)))) h e4 e5 e6 e7 = absurd (differ e4)
none-kind (suc (suc (suc (suc (suc zero))))) h e4 e5 e6 e7 = absurd (differ e5)
none-kind (suc (suc (suc (suc (suc (suc zero)))))) h e4 e5 e6 e7 = absurd (differ e6)
none-kind (suc (suc (suc (suc (suc (suc (suc zero))))))) h e4 e5 e6 e7 = absurd (differ e7)
none-kind (suc (suc (suc (suc (suc (suc (suc (suc zero)))))))) h e4 e5 e6 e7 = absurd (not_round 8 8 h rounds.3 refl)
none-kind (suc (suc (suc (suc (suc (suc (suc (suc (suc zero))))))))) h e4 e5 e6 e7 = absurd (not_round 9 9 h rounds.4 refl)
none-kind (suc (suc (suc (suc (suc (suc (suc (suc (suc (suc k)))))))))) h e4 e5 e6 e7 = rw (lt-leb (suc (suc (suc (suc (suc (suc (suc (suc (suc (suc k)))))))))) 9 (omega arith)) (and-false (leb 1 (suc (suc (suc (suc (suc (suc (suc (suc (suc (suc k))))))))))))

-- ---- an entry as its form
module _ (F : ℕ → Lined) (G : ℕ → Form) (alike : (k : ℕ) → F k ≡ lined_form (G k)) (m : Marks) (r : List Float) (ls : List (List Vector)) where
  abbrev whole : Lined
  whole = lined_of F (λ (s : Solid). solid_paths s m.detail ls) (entry_of m (numbers_of r) (inverse_of (numbers_of r)))

  abbrev composite : Option Entry
  composite = composite_of m (numbers_of r) (inverse_of (numbers_of r))

  abbrev simply : ℕ → Lined
  simply k = lined_of F (λ (s : Solid). solid_paths s m.detail ls) (simple_or (simple_of k (numbers_of r)) composite)

  placed-part : m.kind ≡ 6 → lined_of F (λ (s : Solid). solid_paths s m.detail ls) composite ≡ lined_form (placed_form (take 16 r) (G m.first))
  unfolding composite_of lined_of lined_form
  placed-part q = rw (eq-eqb m.kind 6 q) (ap₂ (λ (n : Numbers) (x : Lined). placed_lines (matrix_of n) (matrix_of (inverse_of n)) x) (matrix-used r) (alike m.first))

  cut-part : m.kind ≡ 7 → lined_of F (λ (s : Solid). solid_paths s m.detail ls) composite ≡ lined_form (cut_form m.detail (G m.first) (G m.second))
  unfolding composite_of cut_of lined_form lined_of
  cut-part q = rw q (by (leb m.detail 3))
    where
      by : (t : Bool) → lined_of F (λ (s : Solid). solid_paths s m.detail ls) (cond t (Some (Cut (op_of m.detail) m.first m.second)) None) ≡ cond t (cut_lines (op_of m.detail) (lined_form (G m.first)) (lined_form (G m.second))) no_lines
      by true = ap₂ (cut_lines (op_of m.detail)) (alike m.first) (alike m.second)
      by false = refl

  none-part : is_round m.kind ≡ false → eqb m.kind 4 ≡ false → eqb m.kind 5 ≡ false → eqb m.kind 6 ≡ false → eqb m.kind 7 ≡ false → whole ≡ no_lines
  unfolding entry_of composite_of simple_or lined_of
  none-part h e4 e5 e6 e7 = rw (other-simple m.kind (numbers_of r) h e4 e5, e6, e7)

  whole_is : whole ≡ simply m.kind
  unfolding entry_of
  whole_is = refl

  round-case : is_round m.kind ≡ true → whole ≡ lined_form (round_form m.kind (stripe_count m) (take (measures m.kind) r) ls)
  unfolding lined_form stripe_count
  round-case h = whole_is ∙ round-lined F (numbers_of r) m.detail ls composite m.kind h ∙ ap (λ (z : Option Solid). lined_simple z (cond (striped m.kind) m.detail 0) ls) (simple-used m.kind (measures m.kind) r refl)

  cube-case : m.kind ≡ 4 → whole ≡ lined_form (cube_form m.detail (take 6 r))
  unfolding lined_form
  cube-case q = whole_is ∙ ap simply q ∙ cube-lined F (numbers_of r) m.detail ls composite ∙ ap (λ (z : Option Solid). lined_simple z m.detail []) (simple-used 4 6 r four)

  triangle-case : m.kind ≡ 5 → whole ≡ lined_form (triangle_form (take 9 r))
  unfolding lined_form
  triangle-case q = whole_is ∙ ap simply q ∙ triangle-lined F (numbers_of r) m.detail ls composite ∙ ap (λ (z : Option Solid). lined_simple z 0 []) (simple-used 5 9 r five)

  none-case : is_round m.kind ≡ false → eqb m.kind 4 ≡ false → eqb m.kind 5 ≡ false → eqb m.kind 6 ≡ false → eqb m.kind 7 ≡ false → whole ≡ lined_form no_form
  unfolding lined_form
  none-case h e4 e5 e6 e7 = none-part h e4 e5 e6 e7

  pub lined-as : whole ≡ lined_form (form_of m r ls G)
  lined-as =
      form-by (λ (f : Form). whole ≡ lined_form f) m r ls G round-case cube-case triangle-case
      (λ q. whole_is ∙ composite-lined F (numbers_of r) m.detail ls composite m.kind (inl q) ∙ placed-part q)
      (λ q. whole_is ∙ composite-lined F (numbers_of r) m.detail ls composite m.kind (inr q) ∙ cut-part q)
      none-case

-- a mark beyond the last entry is 0
beyond : (ms : List ℕ) (i : ℕ) → length ms ≤ i * 4 → row 4 i ms ≡ []
beyond ms i l = ap (take 4) (nothing (drop (i * 4) ms) (length-drop (i * 4) ms ∙ omega (arith, l))) ∙ take-nil 4
  where
    nothing : (xs : List ℕ) → length xs ≡ 0 → xs ≡ []
    nothing [] e = refl
    nothing (x ∷ xs) e = absurd (omega (arith, e))

none-there : (xs : List Float) (ls : List (List Vector)) (sub : ℕ → Form) → form_of (marks_of []) xs ls sub ≡ no_form
unfolding form_of is_round
none-there xs ls sub = refl

nought : no_lines ≡ lined_form no_form
unfolding lined_form
nought = refl

off : (F : ℕ → Lined) (o : Solid → List (List Vector)) (t : Bool) (e : Option Entry) → lined_of F o (cond (t && false) e None) ≡ no_lines
unfolding lined_of
off F o true e = refl
off F o false e = refl

module _ (s : Scene) (fit : entries_of s * 16 ≤ length s.numbers) (even : length s.marks ≡ entries_of s * 4) where
  module _ (F : ℕ → Lined) (G : ℕ → Form) (alike : (k : ℕ) → F k ≡ lined_form (G k)) (i : ℕ) where
    detail-there : i < entries_of s → detail_at s.marks i ≡ (marks_at s.marks i).detail
    unfolding detail_at
    detail-there l = rw (lt-ltb i (length s.marks / 4) l)

    entry_read : i < entries_of s → own_entry s.numbers s.marks i ≡ entry_of (marks_at s.marks i) (numbers_at s.numbers i) (inverse_of (numbers_at s.numbers i))
    unfolding own_entry
    entry_read l = rw (lt-ltb i (length s.numbers / 16) (omega (arith, l, fit)), lt-ltb i (length s.marks / 4) l)

    entry-there : i < entries_of s → lined_of F (own_lines s.marks s.points s.starts s.owners i) (own_entry s.numbers s.marks i) ≡ lined_form (form_of (marks_at s.marks i) (row 16 i s.numbers) (lines_at s i) G)
    unfolding own_lines
    entry-there l =
        ap₂ (λ (d : ℕ) (e : Option Entry). lined_of F (λ (x : Solid). solid_paths x d (lines_at s i)) e) (detail-there l) (entry_read l)
        ∙ lined-as F G alike (marks_at s.marks i) (row 16 i s.numbers) (lines_at s i)

    entry-off : entries_of s ≤ i → lined_of F (own_lines s.marks s.points s.starts s.owners i) (own_entry s.numbers s.marks i) ≡ lined_form (form_of (marks_at s.marks i) (row 16 i s.numbers) (lines_at s i) G)
    unfolding own_entry
    entry-off l =
        rw (le-ltb i (length s.marks / 4) l) (off F (own_lines s.marks s.points s.starts s.owners i) (ltb i (length s.numbers / 16)) _)
        ∙ nought ∙ ap lined_form (sym (ap (λ (r : List ℕ). form_of (marks_of r) (row 16 i s.numbers) (lines_at s i) G) (beyond s.marks i (omega (arith, l, even))) ∙ none-there (row 16 i s.numbers) (lines_at s i) G))

  -- The drawn value at an entry is its form's.
  pub lined-is : (d i : ℕ) → read_lined d (own_entry s.numbers s.marks) (own_lines s.marks s.points s.starts s.owners) i ≡ lined_form (form_at d s i)
  unfolding read_lined form_at
  lined-is zero i = nought
  lined-is (suc d) i = by (le-or-lt (entries_of s) i) (λ k. lined-is d k)
    where
      by : (entries_of s ≤ i) ⊎ (i < entries_of s) → ((k : ℕ) → read_lined d (own_entry s.numbers s.marks) (own_lines s.marks s.points s.starts s.owners) k ≡ lined_form (form_at d s k))
          → lined_of (read_lined d (own_entry s.numbers s.marks) (own_lines s.marks s.points s.starts s.owners)) (own_lines s.marks s.points s.starts s.owners i) (own_entry s.numbers s.marks i)
          ≡ lined_form (form_of (marks_at s.marks i) (row 16 i s.numbers) (lines_at s i) (form_at d s))
      by (inl l) rec = entry-off _ (form_at d s) rec i l
      by (inr l) rec = entry-there _ (form_at d s) rec i l
