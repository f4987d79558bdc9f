-- The scene read back passes each test that the scene passed. Assumes nothing.
use Prim.Native.Nat.{ℕ, zero, suc, ◌+◌, ◌-◌, ◌*◌, ◌/◌, ◌<◌, ◌≤◌}
use mathlib.Core.Path.{◌≡◌, refl, sym, ap, ap₂, ◌∙◌, subst}
use mathlib.Core.Logic.{◌⊎◌, inl, inr}
use mathlib.Core.List.{List, [], ◌∷◌}
use mathlib.Core.Bool.{Bool, true, false, cond, ◌&&◌, and-eq-true_iff}
use native.Mathlib.Omega.{arith}
use lib.ListN.{length}
use lib.Dec.{eqb, leb}
use lib.Ieee.{Float}
use borrow.Author.Tests.{leb-true, eqb-true, le-leb, eq-eqb}
use Rattle.floats.proofs.Order.{le-or-lt}
use Rattle.scene.specs.Entries.{marks_at, numbers_at}
use Rattle.scene.specs.Scenes.{Scene, entries_of}
use Rattle.check_parts.specs.Parts.{parts_ok, larger}
use Rattle.check_parts.specs.Drawn.{drawn}
use Rattle.check_measures.specs.Values.{known, few_stripes}
use Rattle.check_measures.specs.Measures.{measured}
use Rattle.check_scene.specs.Placings.{placing_ok}
use Rattle.check_scene.specs.Extents.{own_box}
use Rattle.check_scene.specs.Checks.{lengths_agree, values_ok, stripes_ok, names_ok, lines_owned, starts_ok, measures_ok, placings_ok, extents_ok, first_met, check_of}
use Rattle.refusals.specs.declared.Refusal.{Refusal}
use Rattle.check_sound.specs.Passing.{Passing}
use Rattle.limits.specs.Limits.{within_box}
use Rattle.lists.specs.Lists.{Each, all_of}
use Rattle.lists.proofs.Tests.{all-at}
use Rattle.text_heads.specs.Lines.{point_count}
use Rattle.text_forms.specs.Forms.{last, entered}
use Rattle.text_scene.specs.Texts.{empty_scene}
use Rattle.text_canonical.specs.Forms.{Form, round_form, cube_form, triangle_form, placed_form, cut_form, no_form, form_at}
use Rattle.text_canonical.specs.Writable.{Writable, form_entries, sum_of}
use Rattle.text_canonical.proofs.Added.{head_of, added, added_all, deep_of}
use Rattle.text_canonical.proofs.Rereading.{grows}
use Rattle.text_canonical.proofs.Readback.{Sane, Extends, Back, back, form-kept, larger-left, entered-extends, entered-count}
use Rattle.text_canonical.proofs.Again.{AllLow}
use Rattle.text_canonical.proofs.Owning.{Lawful}
use Rattle.theorem_canonical.proofs.Judging.{tested, test_at, test_form, box_tested, box-at, Passes, AllPass, at_top}
use Rattle.std.specs.Prelude.{Ok, Result}

-- each entry passes, as its form
abbrev pub EachPasses : Scene → Type 0
EachPasses s = (i : ℕ) → i < entries_of s → Passes (form_at 8 s i)

one_more : (a t : Scene) (f : Form) → Sane a → Extends a t → entries_of t ≡ entries_of a + 1 → form_at 8 t (last t) ≡ f → Passes f → EachPasses a → EachPasses t
one_more a t f S E c is p h i l = by (le-or-lt (entries_of a) i)
  where
    by : (entries_of a ≤ i) ⊎ (i < entries_of a) → Passes (form_at 8 t i)
    by (inl g) = let q : i ≡ last t = omega (arith, g, l, c) in subst Passes (sym (ap (form_at 8 t) q ∙ is)) p
    by (inr g) = subst Passes (sym (form-kept 8 a t S E i g)) (h i g)

added-passes : (f : Form) (s : Scene) → Sane s → Writable f → deep_of f ≤ 8 → AllPass f → EachPasses s → EachPasses (added f s)
unfolding added Writable deep_of AllPass form_entries
added-passes (round_form k n xs ls) s S g l p h = let b = back (round_form k n xs ls) 8 s S g l in one_more s (added (round_form k n xs ls) s) (round_form k n xs ls) S b.extends b.count b.is p h
added-passes (cube_form n xs) s S g l p h = let b = back (cube_form n xs) 8 s S g l in one_more s (added (cube_form n xs) s) (cube_form n xs) S b.extends b.count b.is p h
added-passes (triangle_form xs) s S g l p h = let b = back (triangle_form xs) 8 s S g l in one_more s (added (triangle_form xs) s) (triangle_form xs) S b.extends b.count b.is p h
added-passes (placed_form xs f) s S g l p h =
    let a = added f s in
    let b = back f 8 s S g.2 (omega (arith, l)) in
    let t = back (placed_form xs f) 8 s S g l in
    one_more a (added (placed_form xs f) s) (placed_form xs f) b.sane (entered-extends (head_of 6 0 xs) (last a) 0 a b.sane) (entered-count (head_of 6 0 xs) (last a) 0 a b.sane) t.is p.0
    (added-passes f s S g.2 (omega (arith, l)) p.1 h)
added-passes (cut_form o f j) s S g l p h =
    let w = larger-left (deep_of f) (deep_of j) in
    let a = added f s in
    let c = added j a in
    let b = back f 8 s S g.1 (omega (arith, l, w.0)) in
    let r = back j 8 a b.sane g.2 (omega (arith, l, w.1)) in
    let t = back (cut_form o f j) 8 s S g l in
    one_more c (added (cut_form o f j) s) (cut_form o f j) r.sane (entered-extends (head_of 7 o []) (last a) (last c) c r.sane) (entered-count (head_of 7 o []) (last a) (last c) c r.sane) t.is p.0
    (added-passes j a b.sane g.2 (omega (arith, l, w.1)) p.2 (added-passes f s S g.1 (omega (arith, l, w.0)) p.1 h))
added-passes no_form s S g l p h = absurd g

pub added-all-pass : (fs : List Form) (s : Scene) → Sane s → Each Writable fs → AllLow fs → Each AllPass fs → EachPasses s → EachPasses (added_all fs s)
unfolding added_all Each
added-all-pass [] s S g l p h = h
added-all-pass (f ∷ fs) s S g l p h = added-all-pass fs (added f s) (back f 8 s S g.0 l.0).sane g.1 l.1 p.1 (added-passes f s S g.0 l.0 p.0 h)

-- how many entries there are
pub count-all : (fs : List Form) (s : Scene) → entries_of (added_all fs s) ≡ entries_of s + sum_of form_entries fs
unfolding added_all sum_of
count-all [] s = omega arith
count-all (f ∷ fs) s = count-all fs (added f s) ∙ rw (grows f s).entries (omega arith)

-- ---- lengths
pub lengths-are : (s : Scene) → lengths_agree s ≡ true → (entries_of s ≤ 1024) × (length s.marks ≡ entries_of s * 4) × (entries_of s * 16 ≤ length s.numbers)
unfolding lengths_agree
lengths-are s h =
    let a = (and-eq-true_iff (leb (entries_of s) 1024) _).0 h in
    let b = (and-eq-true_iff (eqb (entries_of s * 4) (length s.marks)) _).0 a.1 in
    let c = (and-eq-true_iff (eqb (entries_of s * 16) (length s.numbers)) _).0 b.1 in
    (leb-true (entries_of s) 1024 a.0, sym (eqb-true (entries_of s * 4) (length s.marks) b.0), omega (arith, eqb-true (entries_of s * 16) (length s.numbers) c.0))

sane-lengths : (s : Scene) → Sane s → entries_of s ≤ 1024 → lengths_agree s ≡ true
unfolding lengths_agree
sane-lengths s S l =
    ap₂ ◌&&◌ (le-leb (entries_of s) 1024 l)
    (ap₂ ◌&&◌ (eq-eqb (entries_of s * 4) (length s.marks) (sym S.marks))
    (ap₂ ◌&&◌ (eq-eqb (entries_of s * 16) (length s.numbers) (sym S.numbers))
    (ap₂ ◌&&◌ (eq-eqb (length s.starts) (length s.owners) (sym S.owners))
    (eq-eqb (length s.points / 3 * 3) (length s.points) (sym S.points)))))

-- ---- of an accepted scene each entry passes
four-of : (a b c d : Bool) → a ≡ true → b ≡ true → c ≡ true → d ≡ true → (a && (b && (c && d))) ≡ true
four-of a b c d p q r t = ap₂ ◌&&◌ p (ap₂ ◌&&◌ q (ap₂ ◌&&◌ r t))

pub passing-each : (s : Scene) → Passing s → EachPasses s
passing-each s P i l =
    let n = lengths-are s P.lengths in
    let m = marks_at s.marks i in
    let x = numbers_at s.numbers i in (
      sym (test_at 7 s i) ∙ four-of (known m) (few_stripes m) (measured m x) (placing_ok m x)
          (all-at (λ j. known (marks_at s.marks j)) (entries_of s) i P.values l)
          (all-at (λ j. few_stripes (marks_at s.marks j)) (entries_of s) i P.stripes l)
          (all-at (λ j. measured (marks_at s.marks j) (numbers_at s.numbers j)) (entries_of s) i P.measures l)
          (all-at (λ j. placing_ok (marks_at s.marks j) (numbers_at s.numbers j)) (entries_of s) i P.placings l),
      sym (box-at s n.2 n.1 i) ∙ all-at (λ j. within_box (own_box s.numbers s.marks j)) (entries_of s) i P.extents l,
    )

-- ---- and a scene each of whose entries passes is accepted
all-of : (p : ℕ → Bool) (n : ℕ) → ((i : ℕ) → i < n → p i ≡ true) → all_of p n ≡ true
unfolding all_of
all-of p zero h = refl
all-of p (suc n) h = ap₂ ◌&&◌ (all-of p n (λ i l. h i (omega (arith, l)))) (h n (omega arith))

module _ (s : Scene) (S : Sane s) (few : entries_of s ≤ 1024) (ok : parts_ok s.marks (entries_of s) ≡ true) (W : Lawful s) (each : EachPasses s) where
  at : (i : ℕ) → i < entries_of s → tested (marks_at s.marks i) (numbers_at s.numbers i) ≡ true
  at i l = test_at 7 s i ∙ (each i l).0

  first_of : (i : ℕ) → i < entries_of s → (known (marks_at s.marks i) ≡ true) × (few_stripes (marks_at s.marks i) ≡ true) × (measured (marks_at s.marks i) (numbers_at s.numbers i) ≡ true) × (placing_ok (marks_at s.marks i) (numbers_at s.numbers i) ≡ true)
  first_of i l =
      let a = (and-eq-true_iff (known (marks_at s.marks i)) _).0 (at i l) in
      let b = (and-eq-true_iff (few_stripes (marks_at s.marks i)) _).0 a.1 in
      let c = (and-eq-true_iff (measured (marks_at s.marks i) (numbers_at s.numbers i)) (placing_ok (marks_at s.marks i) (numbers_at s.numbers i))).0 b.1 in
      (a.0, b.0, c.0, c.1)

  pub each-passing : Passing s
  each-passing = record {
    lengths = sane-lengths s S few;
    values = all-of (λ i. known (marks_at s.marks i)) (entries_of s) (λ i l. (first_of i l).0);
    stripes = all-of (λ i. few_stripes (marks_at s.marks i)) (entries_of s) (λ i l. (first_of i l).1);
    names = ok;
    owners = W.owners;
    starts = W.starts;
    measures = all-of (λ i. measured (marks_at s.marks i) (numbers_at s.numbers i)) (entries_of s) (λ i l. (first_of i l).2);
    placings = all-of (λ i. placing_ok (marks_at s.marks i) (numbers_at s.numbers i)) (entries_of s) (λ i l. (first_of i l).3);
    extents = all-of (λ i. within_box (own_box s.numbers s.marks i)) (entries_of s) (λ i l. box-at s (omega (arith, S.numbers)) S.marks i ∙ (each i l).1);
  }

-- a test that holds is passed
step : (t : Bool) (x y v : Result ℕ Refusal) → t ≡ true → x ≡ v → cond t x y ≡ v
step t x y v e h = ap (λ (b : Bool). cond b x y) e ∙ h

pub passing-accepted : (s : Scene) → Passing s → check_of s ≡ Ok (length (drawn s.marks))
unfolding check_of first_met
passing-accepted s P =
    let v : Result ℕ Refusal = Ok (length (drawn s.marks)) in
    step (lengths_agree s) _ _ v P.lengths
    (step (values_ok s) _ _ v P.values
    (step (stripes_ok s) _ _ v P.stripes
    (step (names_ok s && (lines_owned s && starts_ok s)) _ _ v (ap₂ ◌&&◌ P.names (ap₂ ◌&&◌ P.owners P.starts))
    (step (measures_ok s) _ _ v P.measures
    (step (placings_ok s) _ _ v P.placings
    (step (extents_ok s) _ _ v P.extents refl))))))
