-- What an entry of a kind is as a form, and what is known of its parts. Assumes nothing.
use Prim.Native.Nat.{ℕ, zero, suc, ◌+◌, ◌-◌, ◌*◌, ◌≤◌, ◌<◌}
use mathlib.Core.Path.{◌≡◌, refl, sym, ap, ap₂, ◌∙◌}
use mathlib.Core.Bool.{Bool, true, false}
use mathlib.Core.List.{List}
use native.Mathlib.Numerals.{sub-one}
use native.Mathlib.Omega.{arith}
use borrow.Author.Tests.{eq-eqb, ne_eqb}
use lib.ListN.{length, take, drop}
use lib.Seq.{take-take}
use lib.Ieee.{Float}
use Rattle.geometry.specs.declared.vector.Vector.{Vector}
use Rattle.rows.specs.Rows.{row}
use Rattle.rows.specs.declared.Marks.{Marks}
use Rattle.rows.proofs.Rows.{length-row}
use Rattle.scene.specs.Entries.{marks_at, stripe_count}
use Rattle.scene.specs.Scenes.{Scene, entries}
use Rattle.check_parts.specs.Owners.{is_round}
use Rattle.check_parts.proofs.Depths.{part-six, part-seven}
use Rattle.text_heads.specs.Heads.{measures}
use Rattle.text_canonical.specs.Forms.{Form, round_form, cube_form, triangle_form, placed_form, cut_form, no_form, lines_at, form_of, form_at}
use Rattle.text_entries.specs.Entries.{Formed}

-- ---- by the kind
module _ (m : Marks) (xs : List Float) (ls : List (List Vector)) (part : ℕ → Form) where
  pub round-form : {b : Bool} {n k : ℕ} → b ≡ is_round m.kind → b ≡ true → n ≡ measures m.kind → k ≡ stripe_count m → round_form m.kind k (take n xs) ls ≡ form_of m xs ls part
  unfolding form_of
  round-form e t p q = sym (rw (← e, t, ← p, ← q))

  module _ {b : Bool} (e : b ≡ is_round m.kind) (f : b ≡ false) where
    pub cube-form : m.kind ≡ 4 → cube_form m.detail (take 6 xs) ≡ form_of m xs ls part
    unfolding form_of
    cube-form k = sym (rw (← e, f, eq-eqb m.kind 4 k))

    pub triangle-form : (m.kind ≡ 4 → ⊥) → m.kind ≡ 5 → triangle_form (take 9 xs) ≡ form_of m xs ls part
    unfolding form_of
    triangle-form a k = sym (rw (← e, f, ne_eqb m.kind 4 a, eq-eqb m.kind 5 k))

    pub no-form : (m.kind ≡ 4 → ⊥) → (m.kind ≡ 5 → ⊥) → (m.kind ≡ 6 → ⊥) → (m.kind ≡ 7 → ⊥) → no_form ≡ form_of m xs ls part
    unfolding form_of
    no-form a k g h = sym (rw (← e, f, ne_eqb m.kind 4 a, ne_eqb m.kind 5 k, ne_eqb m.kind 6 g, ne_eqb m.kind 7 h))

  placed-form : m.kind ≡ 6 → placed_form (take 16 xs) (part m.first) ≡ form_of m xs ls part
  unfolding form_of is_round
  placed-form k = sym (rw k)

  cut-form : m.kind ≡ 7 → cut_form m.detail (part m.first) (part m.second) ≡ form_of m xs ls part
  unfolding form_of is_round
  cut-form k = sym (rw k)

-- ---- the 16 numbers of entry i, as a part of the slice
pub row_is : (i : ℕ) (ns : List Float) → take (i * 16 + 16 - i * 16) (drop (i * 16) ns) ≡ row 16 i ns
row_is i ns = let e : i * 16 + 16 - i * 16 ≡ 16 = omega arith in ap (λ (n : ℕ). take n (drop (i * 16) ns)) e

pub row-long : (i : ℕ) (ns : List Float) → i * 16 + 16 ≤ length ns → 16 ≤ length (take (i * 16 + 16 - i * 16) (drop (i * 16) ns))
row-long i ns h = rw (row_is i ns, length-row 16 i ns h) (omega arith)

-- ---- at a depth
pub form-none : (d : ℕ) (s : Scene) (i : ℕ) → d ≡ 0 → no_form ≡ form_at d s i
unfolding form_at
form-none d s i e = sym (rw e)

form-opens : (d : ℕ) (s : Scene) (i : ℕ) → (d ≡ 0 → ⊥) → form_of (marks_at s.marks i) (row 16 i s.numbers) (lines_at s i) (form_at (d - 1) s) ≡ form_at d s i
unfolding form_at
form-opens zero s i n = absurd (n refl)
form-opens (suc d) s i n = rw sub-one

module _ (d : ℕ) (s : Scene) (i : ℕ) (n : d ≡ 0 → ⊥) {m : Marks} (e : m ≡ marks_at s.marks i) where
  pub opens-so : {xs : List Float} → xs ≡ row 16 i s.numbers → form_of m xs (lines_at s i) (form_at (d - 1) s) ≡ form_at d s i
  opens-so q = ap₂ (λ (a : Marks) (b : List Float). form_of a b (lines_at s i) (form_at (d - 1) s)) e q ∙ form-opens d s i n

  pub placed-so : m.kind ≡ 6 → {p : ℕ} → p ≡ m.first → {xs : List Float} → xs ≡ row 16 i s.numbers → placed_form xs (form_at (d - 1) s p) ≡ form_at d s i
  placed-so k q r =
      ap₂ placed_form (r ∙ sym (take-take 16 16 (drop (i * 16) s.numbers) (omega arith))) (ap (form_at (d - 1) s) q)
      ∙ placed-form m (row 16 i s.numbers) (lines_at s i) (form_at (d - 1) s) k
      ∙ opens-so refl

  pub cut-so : m.kind ≡ 7 → {p q : ℕ} → p ≡ m.first → q ≡ m.second → cut_form m.detail (form_at (d - 1) s p) (form_at (d - 1) s q) ≡ form_at d s i
  cut-so k a b =
      ap₂ (cut_form m.detail) (ap (form_at (d - 1) s) a) (ap (form_at (d - 1) s) b)
      ∙ cut-form m (row 16 i s.numbers) (lines_at s i) (form_at (d - 1) s) k
      ∙ opens-so refl

-- ---- a part can be written too
module _ (ns : List Float) (ms : List ℕ) (i : ℕ) (F : Formed ns ms i) {m : Marks} (e : m ≡ marks_at ms i) where
  kind-is : {k : ℕ} → m.kind ≡ k → (marks_at ms i).kind ≡ k
  kind-is q = sym (ap (λ (a : Marks). a.kind) e) ∙ q

  formed : (p : ℕ) → p < i → Formed ns ms p
  formed p l = record { there = omega (arith, l, F.there); numbers = F.numbers; parts = F.parts }

  pub placed-formed : m.kind ≡ 6 → {p : ℕ} → p ≡ m.first → Formed ns ms p
  placed-formed k {p} q =
      let f : p ≡ (marks_at ms i).first = q ∙ ap (λ (a : Marks). a.first) e in
      formed p (rw f (part-six ms (entries ms) F.parts i F.there (kind-is k)).0)

  pub first-formed : m.kind ≡ 7 → {p : ℕ} → p ≡ m.first → Formed ns ms p
  first-formed k {p} q =
      let f : p ≡ (marks_at ms i).first = q ∙ ap (λ (a : Marks). a.first) e in
      formed p (rw f (part-seven ms (entries ms) F.parts i F.there (kind-is k)).0.0)

  pub second-formed : m.kind ≡ 7 → {p : ℕ} → p ≡ m.second → Formed ns ms p
  second-formed k {p} q =
      let f : p ≡ (marks_at ms i).second = q ∙ ap (λ (a : Marks). a.second) e in
      formed p (rw f (part-seven ms (entries ms) F.parts i F.there (kind-is k)).1.0)
