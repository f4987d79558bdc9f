-- What a scene that names its parts well has: each part is earlier than its entry and less deep, and no entry is deeper than 8. Assumes nothing.
use Prim.Native.Nat.{ℕ, zero, suc, ◌+◌, ◌<◌, ◌≤◌}
use mathlib.Core.Path.{◌≡◌, refl, subst, ◌∙◌}
use mathlib.Core.List.{List, [], ◌∷◌, ◌++◌}
use mathlib.Core.Bool.{Bool, true, false, ◌&&◌, ◌||◌, cond, and-eq-true_iff}
use native.Mathlib.Omega.{arith}
use native.Mathlib.Numerals.{add-one}
use lib.ListN.{length, get_or, length-append, get_or-append}
use lib.Seq.{get_or-append_seam}
use lib.Dec.{ltb, eqb}
use borrow.Author.Tests.{ltb-true, ltb-false}
use Rattle.check_parts.specs.Parts.{kind_at, first_at, second_at, named_before, larger, deepest, depths_to, free_for, parts_free, entry_ok, parts_ok}

-- how deep the deepest part of entry i is
unfoldable pub depth_at : List ℕ → ℕ → ℕ
depth_at ms i = deepest (kind_at ms i) (first_at ms i) (second_at ms i) (depths_to ms i)

-- the list of depths: entry a's stands at a
depths-length : (ms : List ℕ) (i : ℕ) → length (depths_to ms i) ≡ i
unfolding depths_to
depths-length ms zero = refl
depths-length ms (suc i) = length-append (depths_to ms i) _ ∙ rw (depths-length ms i) (add-one i)

depth-at : (ms : List ℕ) (i a : ℕ) → a < i → get_or (depths_to ms i) a 0 ≡ depth_at ms a + 1
unfolding depths_to depth_at
depth-at ms zero a h = absurd (omega arith)
depth-at ms (suc i) a h = last (λ l. depth-at ms i a l) (ltb a i) refl
  where
    last : (a < i → get_or (depths_to ms i) a 0 ≡ depth_at ms a + 1) → (t : Bool) → ltb a i ≡ t → get_or (depths_to ms i ++ ((deepest (kind_at ms i) (first_at ms i) (second_at ms i) (depths_to ms i) + 1) ∷ [])) a 0 ≡ depth_at ms a + 1
    last rec true e = let l : a < i = ltb-true a i e in get_or-append (depths_to ms i) _ 0 a (rw (depths-length ms i) l) ∙ rec l
    last rec false e =
        let l : i ≤ a = ltb-false a i e in
        let q : a ≡ i = omega arith in
        rw q (subst (λ (n : ℕ). get_or (depths_to ms i ++ ((deepest (kind_at ms i) (first_at ms i) (second_at ms i) (depths_to ms i) + 1) ∷ [])) n 0 ≡ deepest (kind_at ms i) (first_at ms i) (second_at ms i) (depths_to ms i) + 1) (depths-length ms i) (get_or-append_seam (depths_to ms i) _ [] 0))

ok_at : (ms : List ℕ) (n i : ℕ) → i < n → parts_ok ms n ≡ true → entry_ok ms i ≡ true
unfolding parts_ok
ok_at ms zero i h e = absurd (omega arith)
ok_at ms (suc n) i h e = pick ((and-eq-true_iff (parts_ok ms n) (entry_ok ms n)).0 e) (λ q l. ok_at ms n i l q) (ltb i n) refl
  where
    pick : (parts_ok ms n ≡ true) × (entry_ok ms n ≡ true) → (parts_ok ms n ≡ true → i < n → entry_ok ms i ≡ true) → (t : Bool) → ltb i n ≡ t → entry_ok ms i ≡ true
    pick both rec true q = rec both.0 (ltb-true i n q)
    pick both rec false q =
        let l : n ≤ i = ltb-false i n q in
        let w : i ≡ n = omega arith in
        rw w both.1

larger-both : (x y z : ℕ) → larger x y < z → (x < z) × (y < z)
unfolding larger
larger-both x y z h = pick (ltb x y) refl h
  where
    pick : (t : Bool) → ltb x y ≡ t → cond t y x < z → (x < z) × (y < z)
    pick true e g = let l : x < y = ltb-true x y e in (omega arith, g)
    pick false e g = let l : y ≤ x = ltb-false x y e in (g, omega arith)

-- a part that entry i may have
abbrev pub Part : List ℕ → ℕ → ℕ → Type 0
Part ms i k = (k < i) × (depth_at ms k < depth_at ms i)

module _ (ms : List ℕ) (n : ℕ) (ok : parts_ok ms n ≡ true) (i : ℕ) (h : i < n) where
  free : parts_free (kind_at ms i) (first_at ms i) (second_at ms i) i (named_before ms i) ≡ true
  unfolding entry_ok
  free = ((and-eq-true_iff (parts_free (kind_at ms i) (first_at ms i) (second_at ms i) i (named_before ms i)) _).0 (ok_at ms n i h ok)).0

  pub shallow : depth_at ms i < 8
  unfolding entry_ok depth_at
  shallow = ltb-true _ _ ((and-eq-true_iff (parts_free (kind_at ms i) (first_at ms i) (second_at ms i) i (named_before ms i)) _).0 (ok_at ms n i h ok)).1

  earlier : (named : ℕ → Bool) (p : ℕ) → free_for i named p ≡ true → p < i
  earlier named p e = ltb-true p i ((and-eq-true_iff (ltb p i) _).0 e).0

  pub part-six : kind_at ms i ≡ 6 → Part ms i (first_at ms i)
  unfolding parts_free depth_at deepest
  part-six e =
      let w : free_for i (named_before ms i) (first_at ms i) ≡ true = rw e at free in
      let l : first_at ms i < i = earlier (named_before ms i) (first_at ms i) w in
      let d : depth_at ms i ≡ get_or (depths_to ms i) (first_at ms i) 0 = rw e in
      (l, omega (arith, d, depth-at ms i (first_at ms i) l))

  pub part-seven : kind_at ms i ≡ 7 → Part ms i (first_at ms i) × Part ms i (second_at ms i)
  unfolding parts_free depth_at deepest
  part-seven e =
      let w : (free_for i (named_before ms i) (first_at ms i) && free_for i (λ p. eqb p (first_at ms i) || named_before ms i p) (second_at ms i)) ≡ true = rw e at free in
      let v = (and-eq-true_iff (free_for i (named_before ms i) (first_at ms i)) _).0 w in
      let la : first_at ms i < i = earlier (named_before ms i) (first_at ms i) v.0 in
      let lb : second_at ms i < i = earlier (λ p. eqb p (first_at ms i) || named_before ms i p) (second_at ms i) v.1 in
      let d : depth_at ms i ≡ larger (get_or (depths_to ms i) (first_at ms i) 0) (get_or (depths_to ms i) (second_at ms i) 0) = rw e in
      let b = larger-both (get_or (depths_to ms i) (first_at ms i) 0) (get_or (depths_to ms i) (second_at ms i) 0) (depth_at ms i + 1) (omega (arith, d)) in
      ((la, omega (arith, b.0, depth-at ms i (first_at ms i) la)), (lb, omega (arith, b.1, depth-at ms i (second_at ms i) lb)))
