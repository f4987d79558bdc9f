-- The verdict, by the first test that fails; and how the slices are left. Assumes nothing.
use Prim.Native.Nat.{ℕ, zero, suc, ◌-◌, ◌*◌, ◌≤◌}
use mathlib.Core.Path.{◌≡◌, sym, ap, subst, ◌∙◌}
use mathlib.Core.List.{List, [], ◌∷◌, ◌++◌}
use mathlib.Core.Bool.{Bool, true, false, cond, and-eq-true_iff}
use native.Mathlib.Omega.{arith}
use lib.ListN.{length, take, replicate, length-append}
use lib.Dec.{leb, eqb}
use lib.Ieee.{Float}
use borrow.Author.Tests.{leb-true, eqb-true}
use Rattle.rows.specs.Rows.{view, flat, padded}
use Rattle.rows.proofs.Rows.{flat_view, padded-take}
use Rattle.refusals.specs.declared.Refusal.{Refusal}
use Rattle.refusals.specs.declared.Refusal.TheVariants.{Lengths, Values, Stripes, Parts, Measures, Placing, Extent}
use Rattle.check_parts.specs.Parts.{named_before}
use Rattle.scene.specs.Scenes.{entries, Scene, entries_of}
use Rattle.check_parts.specs.Drawn.{unnamed, drawn}
use Rattle.check_parts.proofs.Parts.{never}
use Rattle.check_scene.specs.Checks.{lengths_agree, values_ok, stripes_ok, names_ok, lines_owned, starts_ok, measures_ok, placings_ok, extents_ok, check_of, first_met}
use Rattle.check_scene.specs.Stored.{Held}
use Rattle.std.specs.Prelude.{Err, Ok, Result}

-- ---- what number 2 gives
module _ (s : Scene) {a : Bool} (e : a ≡ lengths_agree s) (t : a ≡ true) where
  pub lengths-few : entries_of s ≤ 1024
  unfolding lengths_agree
  lengths-few = leb-true (entries_of s) 1024 ((and-eq-true_iff (leb (entries_of s) 1024) _).0 (sym e ∙ t)).0

  pub lengths-numbers : entries_of s * 16 ≡ length s.numbers
  unfolding lengths_agree
  lengths-numbers =
      let u = ((and-eq-true_iff (leb (entries_of s) 1024) _).0 (sym e ∙ t)).1 in
      let v = ((and-eq-true_iff (eqb (entries_of s * 4) (length s.marks)) _).0 u).1 in
      eqb-true (entries_of s * 16) (length s.numbers) ((and-eq-true_iff (eqb (entries_of s * 16) (length s.numbers)) _).0 v).0

-- ---- the tests in their order
module _ (s : Scene) {a : Bool} (ea : a ≡ lengths_agree s) where
  pub is-lengths : a ≡ false → Err Lengths ≡ check_of s
  unfolding check_of first_met
  is-lengths f = rw (← ea, f)

  module _ (ta : a ≡ true) {b : Bool} (eb : b ≡ values_ok s) where
    pub is-values : b ≡ false → Err Values ≡ check_of s
    unfolding check_of first_met
    is-values f = rw (← ea, ta, ← eb, f)

    module _ (tb : b ≡ true) {z : Bool} (ez : z ≡ stripes_ok s) where
      pub is-striped : z ≡ false → Err Stripes ≡ check_of s
      unfolding check_of first_met
      is-striped f = rw (← ea, ta, ← eb, tb, ← ez, f)

      module _ (tz : z ≡ true) {c : Bool} (ec : c ≡ names_ok s) where
        pub is-named : c ≡ false → Err Parts ≡ check_of s
        unfolding check_of first_met
        is-named f = rw (← ea, ta, ← eb, tb, ← ez, tz, ← ec, f)

        module _ (tc : c ≡ true) {d : Bool} (ed : d ≡ lines_owned s) where
          pub is-owners : d ≡ false → Err Parts ≡ check_of s
          unfolding check_of first_met
          is-owners f = rw (← ea, ta, ← eb, tb, ← ez, tz, ← ec, tc, ← ed, f)

          module _ (td : d ≡ true) {e : Bool} (ee : e ≡ starts_ok s) where
            pub is-starts : e ≡ false → Err Parts ≡ check_of s
            unfolding check_of first_met
            is-starts f = rw (← ea, ta, ← eb, tb, ← ez, tz, ← ec, tc, ← ed, td, ← ee, f)

            module _ (te : e ≡ true) {g : Bool} (eg : g ≡ measures_ok s) where
              pub is-measures : g ≡ false → Err Measures ≡ check_of s
              unfolding check_of first_met
              is-measures f = rw (← ea, ta, ← eb, tb, ← ez, tz, ← ec, tc, ← ed, td, ← ee, te, ← eg, f)

              module _ (tg : g ≡ true) {h : Bool} (eh : h ≡ placings_ok s) where
                pub is-placing : h ≡ false → Err Placing ≡ check_of s
                unfolding check_of first_met
                is-placing f = rw (← ea, ta, ← eb, tb, ← ez, tz, ← ec, tc, ← ed, td, ← ee, te, ← eg, tg, ← eh, f)

                module _ (th : h ≡ true) {i : Bool} (ei : i ≡ extents_ok s) where
                  pub is-extent : i ≡ false → Err Extent ≡ check_of s
                  unfolding check_of first_met
                  is-extent f = rw (← ea, ta, ← eb, tb, ← ez, tz, ← ec, tc, ← ed, td, ← ee, te, ← eg, tg, ← eh, th, ← ei, f)

                  pub is-accepted : i ≡ true → {n : ℕ} → n ≡ length (drawn s.marks) → Ok n ≡ check_of s
                  unfolding check_of first_met
                  is-accepted t q = rw (← ea, ta, ← eb, tb, ← ez, tz, ← ec, tc, ← ed, td, ← ee, te, ← eg, tg, ← eh, th, ← ei, t, q)

-- ---- the two verdicts apart
abbrev is_accepted : Result ℕ Refusal → Bool
is_accepted (Ok n) = true
is_accepted (Err k) = false

abbrev count_of : Result ℕ Refusal → ℕ
count_of (Ok n) = n
count_of (Err k) = 0

pub not-accepted : {k : Refusal} {n : ℕ} {A : Type 0} → Err k ≡ Ok n → A
not-accepted e = never (ap is_accepted e)

pub accepted-same : {a b : ℕ} → ◌≡◌ {A = Result ℕ Refusal} (Ok a) (Ok b) → a ≡ b
accepted-same e = ap count_of e

pub held-as : {s : Scene} {d : ℕ} {vs bs : List Float} {ds : List ℕ} → Held s d vs bs ds → (n : ℕ) → ◌≡◌ {A = Result ℕ Refusal} (Ok d) (Ok n) → Held s n vs bs ds
held-as {s} {d} {vs} {bs} {ds} h n e = subst (λ (m : ℕ). Held s m vs bs ds) (ap count_of e) h

-- ---- no more are listed than there are
unnamed-few : (g : ℕ → Bool) (n : ℕ) → length (unnamed g n) ≤ n
unfolding unnamed
unnamed-few g zero = omega arith
unnamed-few g (suc n) = go (unnamed-few g n) (g n)
  where
    go : length (unnamed g n) ≤ n → (t : Bool) → length (unnamed g n ++ cond t [] (n ∷ [])) ≤ suc n
    go h true = omega (arith, length-append (unnamed g n) [], h)
    go h false = omega (arith, length-append (unnamed g n) (n ∷ []), h)

pub drawn-few : (marks : List ℕ) → length (drawn marks) ≤ entries marks
drawn-few marks = unnamed-few (named_before marks (entries marks)) (entries marks)

-- ---- how a slice is left
module _ {A : Type 0} (z : A) (xs : List A) {L : ℕ} (same : length xs ≡ L) {ys : List A} where
  pub cleared : ys ≡ take 0 xs ++ replicate (length xs - 0) z → ys ≡ padded z L []
  unfolding padded
  cleared e = e ∙ rw same

  pub left-first : (n : ℕ) {l : List A} → n ≤ length xs → ys ≡ take n xs ++ replicate (length xs - n) z → take n xs ≡ l → ys ≡ padded z L l
  left-first n fit e t = e ∙ padded-take z xs n fit ∙ rw (t, same)

pub rows_are : {A B : Type 0} (k : ℕ) (f : List A → B) (g : B → List A) → ((b : B) → length (g b) ≡ k) → ((r : List A) → length r ≡ k → g (f r) ≡ r) → (n : ℕ) (xs : List A) {bs : List B} → n * k ≤ length xs → view k f n xs ≡ bs → take (n * k) xs ≡ flat g bs
rows_are k f g wide back n xs fit h = sym (flat_view k f g wide back n xs fit) ∙ ap (flat g) h
