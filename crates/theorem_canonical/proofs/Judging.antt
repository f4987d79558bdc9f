-- The check's tests of an entry are tests of its form. Assumes nothing.
use Prim.Native.Nat.{ℕ, zero, suc, ◌+◌, ◌*◌, ◌/◌, ◌<◌, ◌≤◌}
use mathlib.Core.Path.{◌≡◌, refl, sym, ap, ap₂, ◌∙◌, subst}
use mathlib.Core.List.{List, [], ◌∷◌}
use mathlib.Core.Bool.{Bool, true, false, cond, ◌&&◌, and-eq-true_iff}
use native.Mathlib.Omega.{arith}
use lib.ListN.{length, take}
use lib.Dec.{eqb, ltb, leb}
use lib.Ieee.{Float}
use Rattle.geometry.specs.declared.vector.Vector.{Vector}
use Rattle.matrix_inverse.specs.Inverses.{inverted}
use Rattle.rows.specs.Rows.{row}
use Rattle.rows.specs.Entries.{numbers_of}
use Rattle.rows.specs.declared.Marks.{Marks}
use Rattle.rows.specs.declared.Numbers.{Numbers}
use Rattle.scene.specs.Entries.{closed_of, simple_of, striped, stripe_count, matrix_of, marks_at, numbers_at, own_entry}
use Rattle.scene.specs.Scenes.{Scene, entries_of}
use Rattle.scene_shape.specs.Shapes.{shape_box}
use Rattle.check_parts.specs.Parts.{parts_ok}
use Rattle.check_parts.specs.Owners.{is_round}
use Rattle.check_parts.proofs.Depths.{Part, part-six, part-seven}
use Rattle.check_measures.specs.Values.{is_kind, is_stripes, known, few_stripes}
use Rattle.check_measures.specs.Measures.{simple_measured, measured}
use Rattle.check_scene.specs.Extents.{own_box}
use Rattle.check_scene.specs.Placings.{invertible, placing_ok}
use Rattle.limits.specs.Limits.{within_matrix, within_box}
use Rattle.draw_collect.specs.Lined.{Lined, bare, read_lined, own_lines}
use Rattle.draw_collect.proofs.Nesting.{bare-read}
use Rattle.text_heads.specs.Heads.{measures}
use Rattle.text_canonical.specs.Forms.{Form, round_form, cube_form, triangle_form, placed_form, cut_form, no_form, lines_at, form_of, form_at}
use Rattle.text_canonical.proofs.Rereading.{round-not, round-within}
use Rattle.theorem_canonical.proofs.Opened.{form-by, form-opens}
use Rattle.theorem_canonical.proofs.Values.{simple-used, matrix-used, four, five, none-kind, other-simple, lined_form, lined-is}
use Rattle.std.specs.Prelude.{Option}
use Rattle.solids.specs.declared.solid.Solid.{Solid}

-- numbers 3, 14, 5 and 6 of an entry
abbrev pub tested : Marks → Numbers → Bool
tested m n = known m && (few_stripes m && (measured m n && placing_ok m n))

-- the same of a form
unfoldable pub test_form : Form → Bool
test_form (round_form k n xs ls) = leb n 360 && (simple_measured (simple_of k (numbers_of xs)) && true)
test_form (cube_form n xs) = is_stripes n && (simple_measured (simple_of 4 (numbers_of xs)) && true)
test_form (triangle_form xs) = simple_measured (simple_of 5 (numbers_of xs)) && true
test_form (placed_form xs f) = within_matrix (matrix_of (numbers_of xs)) && invertible (inverted (matrix_of (numbers_of xs)))
test_form (cut_form o f g) = leb o 3 && true
test_form no_form = false

abbrev marked : ℕ → ℕ → Marks
marked k v = record { kind = k; detail = v; first = 0; second = 0 }

round-test : (k v : ℕ) (n : Numbers) → is_round k ≡ true → tested (marked k v) n ≡ (leb (cond (striped k) v 0) 360 && (simple_measured (simple_of k n) && true))
unfolding known is_kind few_stripes stripe_count striped measured placing_ok
round-test zero v n h = absurd (omega (arith, (round-within 0 h).0))
round-test (suc zero) v n h = refl
round-test (suc (suc zero)) v n h = refl
round-test (suc (suc (suc zero))) v n h = refl
round-test (suc (suc (suc (suc zero)))) v n h = absurd (round-not 4 4 h (omega arith) (omega arith) refl)
round-test (suc (suc (suc (suc (suc zero))))) v n h = absurd (round-not 5 5 h (omega arith) (omega arith) refl)
round-test (suc (suc (suc (suc (suc (suc zero)))))) v n h = absurd (round-not 6 6 h (omega arith) (omega arith) refl)
round-test (suc (suc (suc (suc (suc (suc (suc zero))))))) v n h = absurd (round-not 7 7 h (omega arith) (omega arith) refl)
round-test (suc (suc (suc (suc (suc (suc (suc (suc zero)))))))) v n h = refl
round-test (suc (suc (suc (suc (suc (suc (suc (suc (suc zero))))))))) v n h = refl
round-test (suc (suc (suc (suc (suc (suc (suc (suc (suc (suc k)))))))))) v n h = absurd (omega (arith, (round-within (suc (suc (suc (suc (suc (suc (suc (suc (suc (suc k)))))))))) h).1))

cube-test : (v : ℕ) (n : Numbers) → tested (marked 4 v) n ≡ (is_stripes v && (simple_measured (simple_of 4 n) && true))
unfolding known is_kind few_stripes stripe_count striped measured placing_ok
cube-test v n = refl

triangle_test : (v : ℕ) (n : Numbers) → tested (marked 5 v) n ≡ (simple_measured (simple_of 5 n) && true)
unfolding known is_kind few_stripes stripe_count striped measured placing_ok
triangle_test v n = refl

placed-test : (v : ℕ) (n : Numbers) → tested (marked 6 v) n ≡ (within_matrix (matrix_of n) && invertible (inverted (matrix_of n)))
unfolding known is_kind few_stripes stripe_count striped measured placing_ok
placed-test v n = refl

cut-test : (v : ℕ) (n : Numbers) → tested (marked 7 v) n ≡ (leb v 3 && true)
unfolding known is_kind few_stripes stripe_count striped measured placing_ok simple_of closed_of simple_measured
cut-test v n = refl

none-test : (k v : ℕ) (n : Numbers) → is_kind k ≡ false → eqb k 4 ≡ false → eqb k 7 ≡ false → tested (marked k v) n ≡ false
unfolding known
none-test k v n h e4 e7 = rw (e4, e7, h)

module _ (m : Marks) (r : List Float) (ls : List (List Vector)) (sub : ℕ → Form) where
  abbrev n : Numbers
  n = numbers_of r

  marks-alone : tested m n ≡ tested (marked m.kind m.detail) n
  unfolding known few_stripes stripe_count measured placing_ok
  marks-alone = refl

  at-kind : (k : ℕ) → m.kind ≡ k → tested m n ≡ tested (marked k m.detail) n
  at-kind k q = marks-alone ∙ ap (λ (j : ℕ). tested (marked j m.detail) n) q

  round-case : is_round m.kind ≡ true → tested m n ≡ test_form (round_form m.kind (stripe_count m) (take (measures m.kind) r) ls)
  unfolding test_form stripe_count
  round-case h = marks-alone ∙ round-test m.kind m.detail n h ∙ ap (λ (z : Option Solid). leb (cond (striped m.kind) m.detail 0) 360 && (simple_measured z && true)) (simple-used m.kind (measures m.kind) r refl)

  cube-case : m.kind ≡ 4 → tested m n ≡ test_form (cube_form m.detail (take 6 r))
  unfolding test_form
  cube-case q = at-kind 4 q ∙ cube-test m.detail n ∙ ap (λ (z : Option Solid). is_stripes m.detail && (simple_measured z && true)) (simple-used 4 6 r four)

  triangle-case : m.kind ≡ 5 → tested m n ≡ test_form (triangle_form (take 9 r))
  unfolding test_form
  triangle-case q = at-kind 5 q ∙ triangle_test m.detail n ∙ ap (λ (z : Option Solid). simple_measured z && true) (simple-used 5 9 r five)

  placed-case : m.kind ≡ 6 → tested m n ≡ test_form (placed_form (take 16 r) (sub m.first))
  unfolding test_form
  placed-case q = at-kind 6 q ∙ placed-test m.detail n ∙ ap (λ (z : Numbers). within_matrix (matrix_of z) && invertible (inverted (matrix_of z))) (matrix-used r)

  cut-case : m.kind ≡ 7 → tested m n ≡ test_form (cut_form m.detail (sub m.first) (sub m.second))
  unfolding test_form
  cut-case q = at-kind 7 q ∙ cut-test m.detail n

  none-case : is_round m.kind ≡ false → eqb m.kind 4 ≡ false → eqb m.kind 5 ≡ false → eqb m.kind 6 ≡ false → eqb m.kind 7 ≡ false → tested m n ≡ test_form no_form
  unfolding test_form
  none-case h e4 e5 e6 e7 = marks-alone ∙ none-test m.kind m.detail n (none-kind m.kind h e4 e5 e6 e7) e4 e7

  -- an entry passes exactly if its form does
  pub test-is : tested m n ≡ test_form (form_of m r ls sub)
  test-is = form-by (λ (f : Form). tested m n ≡ test_form f) m r ls sub round-case cube-case triangle-case placed-case cut-case none-case

pub test_at : (d : ℕ) (s : Scene) (i : ℕ) → tested (marks_at s.marks i) (numbers_at s.numbers i) ≡ test_form (form_at (suc d) s i)
unfolding form_at
test_at d s i = test-is (marks_at s.marks i) (row 16 i s.numbers) (lines_at s i) (form_at d s)

-- ---- number 7
abbrev pub box_tested : Form → Bool
box_tested f = within_box (shape_box (bare (lined_form f)))

module _ (s : Scene) (fit : entries_of s * 16 ≤ length s.numbers) (even : length s.marks ≡ entries_of s * 4) where
  pub box-at : (i : ℕ) → within_box (own_box s.numbers s.marks i) ≡ box_tested (form_at 8 s i)
  box-at i =
      sym (ap (λ x. within_box (shape_box x)) (bare-read (own_entry s.numbers s.marks) (own_lines s.marks s.points s.starts s.owners) 8 i))
      ∙ ap (λ (x : Lined). within_box (shape_box (bare x))) (lined-is s fit even 8 i)

-- ---- a form all of whose entries pass
abbrev pub Passes : Form → Type 0
Passes f = (test_form f ≡ true) × (box_tested f ≡ true)

unfoldable pub AllPass : Form → Type 0
AllPass (round_form k n xs ls) = Passes (round_form k n xs ls)
AllPass (cube_form n xs) = Passes (cube_form n xs)
AllPass (triangle_form xs) = Passes (triangle_form xs)
AllPass (placed_form xs f) = Passes (placed_form xs f) × AllPass f
AllPass (cut_form o f g) = Passes (cut_form o f g) × AllPass f × AllPass g
AllPass no_form = Passes no_form

pub at_top : (f : Form) → AllPass f → Passes f
unfolding AllPass
at_top (round_form k n xs ls) h = h
at_top (cube_form n xs) h = h
at_top (triangle_form xs) h = h
at_top (placed_form xs f) h = h.0
at_top (cut_form o f g) h = h.0
at_top no_form h = h

all-of-entry : (m : Marks) (r : List Float) (ls : List (List Vector)) (sub : ℕ → Form) → (m.kind ≡ 6 → AllPass (sub m.first)) → (m.kind ≡ 7 → AllPass (sub m.first) × AllPass (sub m.second))
    → Passes (form_of m r ls sub) → AllPass (form_of m r ls sub)
unfolding AllPass
all-of-entry m r ls sub six seven =
    form-by (λ (f : Form). Passes f → AllPass f) m r ls sub (λ e h. h) (λ e h. h) (λ e h. h) (λ e h. (h, six e)) (λ e h. (h, (seven e).0, (seven e).1)) (λ e0 e4 e5 e6 e7 h. h)

-- of a scene that names its parts well, each of whose entries passes, each form does so throughout
module _ (s : Scene) (ok : parts_ok s.marks (entries_of s) ≡ true) (each : (i : ℕ) → i < entries_of s → Passes (form_at 8 s i)) where
  pass_below : (n i : ℕ) → i < n → i < entries_of s → AllPass (form_at 8 s i)
  pass_below zero i l h = absurd (omega arith)
  pass_below (suc n) i l h =
      let o = form-opens s ok i h in
      let m = marks_at s.marks i in
      subst AllPass (sym o)
      (all-of-entry m (row 16 i s.numbers) (lines_at s i) (form_at 8 s)
      (λ e. let p = part-six s.marks (entries_of s) ok i h e in pass_below n m.first (omega (arith, p.0)) (omega (arith, p.0)))
      (λ e. let p = part-seven s.marks (entries_of s) ok i h e in (pass_below n m.first (omega (arith, p.0.0)) (omega (arith, p.0.0)), pass_below n m.second (omega (arith, p.1.0)) (omega (arith, p.1.0))))
      (subst Passes o (each i h)))

  pub all_pass : (i : ℕ) → i < entries_of s → AllPass (form_at 8 s i)
  all_pass i h = pass_below (suc i) i (omega arith) h
