-- The forms of a scene that names its parts well: a form is its entry with the forms of its parts. Assumes nothing.
use Prim.Native.Nat.{ℕ, zero, suc, ◌+◌, ◌<◌, ◌≤◌}
use mathlib.Core.Path.{◌≡◌, refl, ap, ap₂}
use mathlib.Core.List.{List}
use mathlib.Core.Bool.{Bool, true, false, cond}
use native.Mathlib.Omega.{arith}
use lib.ListN.{take}
use lib.Dec.{eqb, ltb}
use lib.Ieee.{Float}
use borrow.Author.Tests.{eqb-true}
use Rattle.geometry.specs.declared.vector.Vector.{Vector}
use Rattle.rows.specs.Rows.{row}
use Rattle.rows.specs.declared.Marks.{Marks}
use Rattle.scene.specs.Entries.{marks_at, stripe_count}
use Rattle.scene.specs.Scenes.{Scene, entries_of}
use Rattle.check_parts.specs.Parts.{parts_ok, larger}
use Rattle.check_parts.specs.Owners.{is_round}
use Rattle.check_parts.proofs.Depths.{depth_at, Part, shallow, part-six, part-seven}
use Rattle.text_heads.specs.Heads.{measures}
use Rattle.text_canonical.specs.Forms.{Form, round_form, cube_form, triangle_form, placed_form, cut_form, no_form, lines_at, form_of, form_at}
use Rattle.text_canonical.proofs.Added.{deep_of}

-- a form by the tests of its kind
abbrev pub form_by : Bool → Bool → Bool → Bool → Bool → Marks → List Float → List (List Vector) → (ℕ → Form) → Form
form_by t0 t4 t5 t6 t7 m xs ls sub =
    cond t0 (round_form m.kind (stripe_count m) (take (measures m.kind) xs) ls)
    (cond t4 (cube_form m.detail (take 6 xs))
    (cond t5 (triangle_form (take 9 xs))
    (cond t6 (placed_form (take 16 xs) (sub m.first))
    (cond t7 (cut_form m.detail (sub m.first) (sub m.second))
    no_form))))

-- what is read of an entry hangs on its parts alone
form-as : (m : Marks) (xs : List Float) (ls : List (List Vector)) (g h : ℕ → Form) → (m.kind ≡ 6 → g m.first ≡ h m.first) → (m.kind ≡ 7 → (g m.first ≡ h m.first) × (g m.second ≡ h m.second))
    → form_of m xs ls g ≡ form_of m xs ls h
unfolding form_of
form-as m xs ls g h six seven = by (is_round m.kind) (eqb m.kind 4) (eqb m.kind 5) (eqb m.kind 6) (eqb m.kind 7) refl refl
  where
    by : (t0 t4 t5 t6 t7 : Bool) → eqb m.kind 6 ≡ t6 → eqb m.kind 7 ≡ t7 → form_by t0 t4 t5 t6 t7 m xs ls g ≡ form_by t0 t4 t5 t6 t7 m xs ls h
    by true t4 t5 t6 t7 e6 e7 = refl
    by false true t5 t6 t7 e6 e7 = refl
    by false false true t6 t7 e6 e7 = refl
    by false false false true t7 e6 e7 = ap (placed_form (take 16 xs)) (six (eqb-true m.kind 6 e6))
    by false false false false true e6 e7 = let w = seven (eqb-true m.kind 7 e7) in ap₂ (cut_form m.detail) w.0 w.1
    by false false false false false e6 e7 = refl

-- what holds of each kind of form holds of what is read of an entry
pub form-by : (P : Form → Type 0) (m : Marks) (xs : List Float) (ls : List (List Vector)) (sub : ℕ → Form)
    → (is_round m.kind ≡ true → P (round_form m.kind (stripe_count m) (take (measures m.kind) xs) ls)) → (m.kind ≡ 4 → P (cube_form m.detail (take 6 xs))) → (m.kind ≡ 5 → P (triangle_form (take 9 xs)))
    → (m.kind ≡ 6 → P (placed_form (take 16 xs) (sub m.first))) → (m.kind ≡ 7 → P (cut_form m.detail (sub m.first) (sub m.second)))
    → (is_round m.kind ≡ false → eqb m.kind 4 ≡ false → eqb m.kind 5 ≡ false → eqb m.kind 6 ≡ false → eqb m.kind 7 ≡ false → P no_form) → P (form_of m xs ls sub)
unfolding form_of
form-by P m xs ls sub round four five six seven none = by (is_round m.kind) (eqb m.kind 4) (eqb m.kind 5) (eqb m.kind 6) (eqb m.kind 7) refl refl refl refl refl
  where
    by : (t0 t4 t5 t6 t7 : Bool) → is_round m.kind ≡ t0 → eqb m.kind 4 ≡ t4 → eqb m.kind 5 ≡ t5 → eqb m.kind 6 ≡ t6 → eqb m.kind 7 ≡ t7 → P (form_by t0 t4 t5 t6 t7 m xs ls sub)
    by true t4 t5 t6 t7 e0 e4 e5 e6 e7 = round e0
    by false true t5 t6 t7 e0 e4 e5 e6 e7 = four (eqb-true m.kind 4 e4)
    by false false true t6 t7 e0 e4 e5 e6 e7 = five (eqb-true m.kind 5 e5)
    by false false false true t7 e0 e4 e5 e6 e7 = six (eqb-true m.kind 6 e6)
    by false false false false true e0 e4 e5 e6 e7 = seven (eqb-true m.kind 7 e7)
    by false false false false false e0 e4 e5 e6 e7 = none e0 e4 e5 e6 e7

module _ (s : Scene) (ok : parts_ok s.marks (entries_of s) ≡ true) where
  -- deeper than its parts go a form does not change
  settles : (d i : ℕ) → i < entries_of s → depth_at s.marks i < d → form_at d s i ≡ form_at (suc d) s i
  unfolding form_at
  settles zero i h l = absurd (omega arith)
  settles (suc d) i h l =
      form-as (marks_at s.marks i) (row 16 i s.numbers) (lines_at s i) (form_at d s) (form_at (suc d) s)
      (λ e. let p = part-six s.marks (entries_of s) ok i h e in settles d (marks_at s.marks i).first (omega (arith, p.0)) (omega (arith, p.1)))
      (λ e. let p = part-seven s.marks (entries_of s) ok i h e in (settles d (marks_at s.marks i).first (omega (arith, p.0.0)) (omega (arith, p.0.1)), settles d (marks_at s.marks i).second (omega (arith, p.1.0)) (omega (arith, p.1.1))))

  -- a form is its entry with the forms of its parts
  pub form-opens : (i : ℕ) → i < entries_of s → form_at 8 s i ≡ form_of (marks_at s.marks i) (row 16 i s.numbers) (lines_at s i) (form_at 8 s)
  unfolding form_at
  form-opens i h =
      let d = shallow s.marks (entries_of s) ok i h in
      form-as (marks_at s.marks i) (row 16 i s.numbers) (lines_at s i) (form_at 7 s) (form_at 8 s)
      (λ e. let p = part-six s.marks (entries_of s) ok i h e in settles 7 (marks_at s.marks i).first (omega (arith, p.0)) (omega (arith, p.1, d)))
      (λ e. let p = part-seven s.marks (entries_of s) ok i h e in (settles 7 (marks_at s.marks i).first (omega (arith, p.0.0)) (omega (arith, p.0.1, d)), settles 7 (marks_at s.marks i).second (omega (arith, p.1.0)) (omega (arith, p.1.1, d))))

-- ---- a form is no deeper than it is read
larger-le : (x y z : ℕ) → x ≤ z → y ≤ z → larger x y ≤ z
unfolding larger
larger-le x y z g h = by (ltb x y)
  where
    by : (t : Bool) → cond t y x ≤ z
    by true = h
    by false = g

pub deep-at : (d : ℕ) (s : Scene) (i : ℕ) → deep_of (form_at d s i) ≤ d
unfolding form_at deep_of
deep-at zero s i = omega arith
deep-at (suc d) s i =
    form-by (λ (f : Form). deep_of f ≤ suc d) (marks_at s.marks i) (row 16 i s.numbers) (lines_at s i) (form_at d s)
    (λ e. omega arith) (λ e. omega arith) (λ e. omega arith) (λ e. omega (arith, deep-at d s (marks_at s.marks i).first))
    (λ e. omega (arith, larger-le (deep_of (form_at d s (marks_at s.marks i).first)) (deep_of (form_at d s (marks_at s.marks i).second)) d (deep-at d s (marks_at s.marks i).first) (deep-at d s (marks_at s.marks i).second)))
    (λ e0 e4 e5 e6 e7. omega arith)
