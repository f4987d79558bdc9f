-- Parts that are well named in two scenes are well named in the merged one, which draws what both draw. Assumes nothing.
use Prim.Native.Nat.{ℕ, zero, suc, ◌+◌, ◌-◌, ◌<◌, ◌≤◌}
use mathlib.Core.Path.{◌≡◌, refl, ap, ap₂, sym, ◌∙◌, subst, fun_ext}
use mathlib.Core.Logic.{◌⊎◌, inl, inr}
use mathlib.Core.List.{List, [], ◌∷◌, ◌++◌, map, append_assoc, append-nil}
use mathlib.Core.Bool.{Bool, true, false, not, ◌&&◌, ◌||◌, cond, and-eq-true_iff}
use lib.ListN.{length, get_or, length-append}
use lib.Dec.{ltb, eqb}
use native.Mathlib.Nat.{add-suc, add-zero, zero-add, suc-add}
use native.Mathlib.Omega.{arith}
use Rattle.floats.proofs.Order.{le-or-lt}
use borrow.Author.Tests.{ltb-true, lt-ltb, le-ltb, eqb-true, eqb-false, eq-eqb, ne_eqb}
use Rattle.rows.specs.declared.Marks.{Marks}
use Rattle.scene.specs.Entries.{marks_at}
use Rattle.scene_merge.specs.MergedScenes.{raised}
use Rattle.check_parts.specs.Drawn.{unnamed}
use Rattle.check_parts.specs.Parts.{kind_at, first_at, second_at, names, named_before, larger, deepest, depths_to, free_for, parts_free, entry_ok, parts_ok}

-- M has the a entries of A, then the b entries of B, raised
pub record Appended (A : List ℕ) (a : ℕ) (B : List ℕ) (b : ℕ) (M : List ℕ) : Type 0 where
  pub first : (i : ℕ) → i < a → marks_at M i ≡ marks_at A i
  pub second : (j : ℕ) → j < b → marks_at M (a + j) ≡ raised a (marks_at B j)

-- ---- numbers
eqb-add : (n p q : ℕ) → eqb (n + p) (n + q) ≡ eqb p q
eqb-add n p q = by (eqb p q) refl
  where
    by : (t : Bool) → eqb p q ≡ t → eqb (n + p) (n + q) ≡ t
    by true e = eq-eqb (n + p) (n + q) (ap (λ (x : ℕ). n + x) (eqb-true p q e))
    by false e = ne_eqb (n + p) (n + q) (λ z. eqb-false p q e (omega (arith, z)))

ltb-add : (n p q : ℕ) → ltb (n + p) (n + q) ≡ ltb p q
ltb-add n p q = by (le-or-lt q p)
  where
    by : (q ≤ p) ⊎ (p < q) → ltb (n + p) (n + q) ≡ ltb p q
    by (inl h) = le-ltb (n + p) (n + q) (omega (arith, h)) ∙ sym (le-ltb p q h)
    by (inr h) = lt-ltb (n + p) (n + q) (omega (arith, h)) ∙ sym (lt-ltb p q h)

beyond : (ds es : List ℕ) (q : ℕ) → get_or (ds ++ es) (length ds + q) 0 ≡ get_or es q 0
beyond [] es q = ap (λ (n : ℕ). get_or es n 0) (zero-add q)
beyond (d ∷ ds) es q = ap (λ (n : ℕ). get_or (d ∷ (ds ++ es)) n 0) (suc-add (length ds) q) ∙ beyond ds es q

-- ---- names
module _ (n : ℕ) (k f g : ℕ) where
  abbrev F : ℕ
  F = cond (eqb k 6 || eqb k 7) (n + f) f

  abbrev G : ℕ
  G = cond (eqb k 7) (n + g) g

  -- a raised entry names a raised number as the old entry names it
  names-up : (q : ℕ) → names k F G (n + q) ≡ names k f g q
  unfolding names
  names-up q = by (eqb k 6) (eqb k 7)
    where
      by : (s t : Bool) → cond s (eqb (n + q) (cond (s || t) (n + f) f)) (cond t (eqb (n + q) (cond t (n + g) g) || eqb (n + q) (cond (s || t) (n + f) f)) false) ≡ cond s (eqb q f) (cond t (eqb q g || eqb q f) false)
      by true t = eqb-add n q f
      by false true = ap₂ ◌||◌ (eqb-add n q g) (eqb-add n q f)
      by false false = refl

  -- and no number below n
  names-low : (p : ℕ) → p < n → names k F G p ≡ false
  unfolding names
  names-low p l = by (eqb k 6) (eqb k 7)
    where
      by : (s t : Bool) → cond s (eqb p (cond (s || t) (n + f) f)) (cond t (eqb p (cond t (n + g) g) || eqb p (cond (s || t) (n + f) f)) false) ≡ false
      by true t = ne_eqb p (n + f) (λ e. omega (arith, e, l))
      by false true = ap₂ ◌||◌ (ne_eqb p (n + g) (λ e. omega (arith, e, l))) (ne_eqb p (n + f) (λ e. omega (arith, e, l)))
      by false false = refl

-- an entry that is well named names only what is before it
named-before-it : (k f g i : ℕ) (nb : ℕ → Bool) → parts_free k f g i nb ≡ true → (p : ℕ) → i ≤ p → names k f g p ≡ false
unfolding names parts_free
named-before-it k f g i nb h p l = by (eqb k 6) (eqb k 7) h
  where
    by : (s t : Bool) → cond s (free_for i nb f) (cond t (free_for i nb f && free_for i (λ q. eqb q f || nb q) g) true) ≡ true → cond s (eqb p f) (cond t (eqb p g || eqb p f) false) ≡ false
    by true t e = let a = (and-eq-true_iff (ltb f i) _).0 e in ne_eqb p f (λ z. omega (arith, z, l, ltb-true f i a.0))
    by false true e =
        let c = (and-eq-true_iff (free_for i nb f) _).0 e in
        let a = (and-eq-true_iff (ltb f i) _).0 c.0 in
        let b = (and-eq-true_iff (ltb g i) _).0 c.1 in
        ap₂ ◌||◌ (ne_eqb p g (λ z. omega (arith, z, l, ltb-true g i b.0))) (ne_eqb p f (λ z. omega (arith, z, l, ltb-true f i a.0)))
    by false false e = refl

pub ok_at : (ms : List ℕ) (n i : ℕ) → parts_ok ms n ≡ true → i < n → entry_ok ms i ≡ true
unfolding parts_ok
ok_at ms zero i h l = absurd (omega (arith, l))
ok_at ms (suc n) i h l =
    let a = (and-eq-true_iff (parts_ok ms n) (entry_ok ms n)).0 h in
    by (λ m. ok_at ms n i a.0 m) a.1 (le-or-lt n i)
  where
    by : (i < n → entry_ok ms i ≡ true) → entry_ok ms n ≡ true → (n ≤ i) ⊎ (i < n) → entry_ok ms i ≡ true
    by rec e (inl m) = let z : i ≡ n = omega (arith, m, l) in rw z e
    by rec e (inr m) = rec m

free-at : (ms : List ℕ) (i : ℕ) → entry_ok ms i ≡ true → parts_free (kind_at ms i) (first_at ms i) (second_at ms i) i (named_before ms i) ≡ true
unfolding entry_ok
free-at ms i h = ((and-eq-true_iff (parts_free (kind_at ms i) (first_at ms i) (second_at ms i) i (named_before ms i)) _).0 h).0

pub none-beyond : (ms : List ℕ) (n i p : ℕ) → parts_ok ms n ≡ true → i ≤ n → n ≤ p → named_before ms i p ≡ false
unfolding named_before
none-beyond ms n zero p h l m = refl
none-beyond ms n (suc i) p h l m = ap₂ ◌||◌ (named-before-it (kind_at ms i) (first_at ms i) (second_at ms i) i (named_before ms i) (free-at ms i (ok_at ms n i h (omega (arith, l)))) p (omega (arith, l, m))) (none-beyond ms n i p h (omega (arith, l)) m)

module _ (A : List ℕ) (a : ℕ) (B : List ℕ) (b : ℕ) (M : List ℕ) (W : Appended A a B b M) (okA : parts_ok A a ≡ true) (okB : parts_ok B b ≡ true) where
  -- what an entry names, and what was named before
  abbrev also : ℕ → Marks → Bool → Bool
  also p m x = names m.kind m.first m.second p || x

  first-named : (i p : ℕ) → i ≤ a → named_before M i p ≡ named_before A i p
  unfolding named_before
  first-named zero p l = refl
  first-named (suc i) p l = ap₂ (also p) (W.first i (omega (arith, l))) (first-named i p (omega (arith, l)))

  second-named : (j q : ℕ) → j ≤ b → named_before M (a + j) (a + q) ≡ named_before B j q
  unfolding named_before raised
  second-named zero q l = rw (add-zero a) (first-named a (a + q) (omega arith) ∙ none-beyond A a a (a + q) okA (omega arith) (omega arith))
  second-named (suc j) q l =
      ap (λ (n : ℕ). named_before M n (a + q)) (add-suc a j) ∙ ap₂ (also (a + q)) (W.second j (omega (arith, l))) (second-named j q (omega (arith, l)))
      ∙ ap (λ (x : Bool). x || named_before B j q) (names-up a (kind_at B j) (first_at B j) (second_at B j) q)

  low-named : (j p : ℕ) → j ≤ b → p < a → named_before M (a + j) p ≡ named_before A a p
  unfolding named_before raised
  low-named zero p l m = rw (add-zero a) (first-named a p (omega arith))
  low-named (suc j) p l m =
      ap (λ (n : ℕ). named_before M n p) (add-suc a j) ∙ ap₂ (also p) (W.second j (omega (arith, l))) (low-named j p (omega (arith, l)) m)
      ∙ ap (λ (x : Bool). x || named_before A a p) (names-low a (kind_at B j) (first_at B j) (second_at B j) p m)

  -- ---- depths
  depths-length : (ms : List ℕ) (n : ℕ) → length (depths_to ms n) ≡ n
  unfolding depths_to
  depths-length ms zero = refl
  depths-length ms (suc n) = length-append (depths_to ms n) _ ∙ ap (λ (x : ℕ). x + 1) (depths-length ms n) ∙ omega arith

  abbrev deep : Marks → List ℕ → ℕ
  deep m ds = deepest m.kind m.first m.second ds

  first-depths : (i : ℕ) → i ≤ a → depths_to M i ≡ depths_to A i
  unfolding depths_to
  first-depths zero l = refl
  first-depths (suc i) l =
      ap₂ (λ (ds : List ℕ) (m : Marks). ds ++ ((deep m ds + 1) ∷ [])) (first-depths i (omega (arith, l))) (W.first i (omega (arith, l)))

  -- the deepest part of a raised entry, the depths of B after a others
  deepest-up : (k f g : ℕ) (ds es : List ℕ) → length ds ≡ a → deepest k (F a k f g) (G a k f g) (ds ++ es) ≡ deepest k f g es
  unfolding deepest
  deepest-up k f g ds es e = by (eqb k 6) (eqb k 7)
    where
      at : (q : ℕ) → get_or (ds ++ es) (a + q) 0 ≡ get_or es q 0
      at q = rw (← e) (beyond ds es q)

      by : (s t : Bool) → cond s (get_or (ds ++ es) (cond (s || t) (a + f) f) 0) (cond t (larger (get_or (ds ++ es) (cond (s || t) (a + f) f) 0) (get_or (ds ++ es) (cond t (a + g) g) 0)) 0)
          ≡ cond s (get_or es f 0) (cond t (larger (get_or es f 0) (get_or es g 0)) 0)
      by true t = at f
      by false true = ap₂ larger (at f) (at g)
      by false false = refl

  second-depths : (j : ℕ) → j ≤ b → depths_to M (a + j) ≡ depths_to A a ++ depths_to B j
  unfolding depths_to raised
  second-depths zero l = ap (depths_to M) (add-zero a) ∙ first-depths a (omega arith) ∙ sym (append-nil (depths_to A a))
  second-depths (suc j) l =
      let m : Marks = marks_at B j in
      let d : depths_to M (a + j) ≡ depths_to A a ++ depths_to B j = second-depths j (omega (arith, l)) in
      ap (depths_to M) (add-suc a j)
      ∙ ap₂ (λ (ds : List ℕ) (x : Marks). ds ++ ((deep x ds + 1) ∷ [])) d (W.second j (omega (arith, l)))
      ∙ ap (λ (n : ℕ). (depths_to A a ++ depths_to B j) ++ ((n + 1) ∷ [])) (deepest-up m.kind m.first m.second (depths_to A a) (depths_to B j) (depths-length A a))
      ∙ append_assoc (depths_to A a) (depths_to B j) _

  -- ---- entries
  abbrev entry : ℕ → Marks → (ℕ → Bool) → List ℕ → Bool
  entry i m nb ds = parts_free m.kind m.first m.second i nb && ltb (deep m ds) 8

  free_up : (k f g i : ℕ) (nb nb' : ℕ → Bool) → ((q : ℕ) → nb (a + q) ≡ nb' q) → parts_free k (F a k f g) (G a k f g) (a + i) nb ≡ parts_free k f g i nb'
  unfolding parts_free
  free_up k f g i nb nb' h = by (eqb k 6) (eqb k 7)
    where
      one : (q : ℕ) → free_for (a + i) nb (a + q) ≡ free_for i nb' q
      one q = ap₂ (λ (x y : Bool). x && not y) (ltb-add a q i) (h q)

      two : (p q : ℕ) → free_for (a + i) (λ r. eqb r (a + p) || nb r) (a + q) ≡ free_for i (λ r. eqb r p || nb' r) q
      two p q = ap₂ (λ (x y : Bool). x && not y) (ltb-add a q i) (ap₂ ◌||◌ (eqb-add a q p) (h q))

      by : (s t : Bool) → cond s (free_for (a + i) nb (cond (s || t) (a + f) f)) (cond t (free_for (a + i) nb (cond (s || t) (a + f) f) && free_for (a + i) (λ r. eqb r (cond (s || t) (a + f) f) || nb r) (cond t (a + g) g)) true)
          ≡ cond s (free_for i nb' f) (cond t (free_for i nb' f && free_for i (λ r. eqb r f || nb' r) g) true)
      by true t = one f
      by false true = ap₂ ◌&&◌ (one f) (two f g)
      by false false = refl

  second-entry : (j : ℕ) → j < b → entry_ok M (a + j) ≡ entry_ok B j
  unfolding entry_ok raised
  second-entry j l =
      let m : Marks = marks_at B j in
      ap₂ (λ (x : Marks) (ds : List ℕ). entry (a + j) x (named_before M (a + j)) ds) (W.second j l) (second-depths j (omega (arith, l)))
      ∙ ap₂ (λ (x : Bool) (n : ℕ). x && ltb n 8)
      (free_up m.kind m.first m.second j (named_before M (a + j)) (named_before B j) (λ q. second-named j q (omega (arith, l))))
      (deepest-up m.kind m.first m.second (depths_to A a) (depths_to B j) (depths-length A a))

  first_entry : (i : ℕ) → i < a → entry_ok M i ≡ entry_ok A i
  unfolding entry_ok
  first_entry i l =
      ap₂ (λ (x : Marks) (nb : ℕ → Bool). entry i x nb (depths_to M i)) (W.first i l) (fun_ext (λ (p : ℕ). first-named i p (omega (arith, l))))
      ∙ ap (λ (ds : List ℕ). entry i (marks_at A i) (named_before A i) ds) (first-depths i (omega (arith, l)))

  first-ok : (i : ℕ) → i ≤ a → parts_ok M i ≡ parts_ok A i
  unfolding parts_ok
  first-ok zero l = refl
  first-ok (suc i) l = ap₂ ◌&&◌ (first-ok i (omega (arith, l))) (first_entry i (omega (arith, l)))

  second-ok : (j : ℕ) → j ≤ b → parts_ok M (a + j) ≡ parts_ok B j
  unfolding parts_ok
  second-ok zero l = ap (parts_ok M) (add-zero a) ∙ first-ok a (omega arith) ∙ okA
  second-ok (suc j) l = ap (parts_ok M) (add-suc a j) ∙ ap₂ ◌&&◌ (second-ok j (omega (arith, l))) (second-entry j (omega (arith, l)))

  -- Number 4 of parts lets the merged scene pass.
  pub merged-ok : parts_ok M (a + b) ≡ true
  merged-ok = second-ok b (omega arith) ∙ okB

  -- ---- the drawn entries: the first's, then the second's raised
  unnamed-low : (n : ℕ) → n ≤ a → unnamed (named_before M (a + b)) n ≡ unnamed (named_before A a) n
  unfolding unnamed
  unnamed-low zero l = refl
  unnamed-low (suc i) l = ap₂ (λ (x : List ℕ) (t : Bool). x ++ cond t [] (i ∷ [])) (unnamed-low i (omega (arith, l))) (low-named b i (omega arith) (omega (arith, l)))

  unnamed-up : (j : ℕ) → j ≤ b → unnamed (named_before M (a + b)) (a + j) ≡ unnamed (named_before A a) a ++ map (λ (i : ℕ). a + i) (unnamed (named_before B b) j)
  unfolding unnamed
  unnamed-up zero l = ap (unnamed (named_before M (a + b))) (add-zero a) ∙ unnamed-low a (omega arith) ∙ sym (append-nil (unnamed (named_before A a) a))
  unnamed-up (suc j) l =
      ap (unnamed (named_before M (a + b))) (add-suc a j)
      ∙ ap₂ (λ (x : List ℕ) (t : Bool). x ++ cond t [] ((a + j) ∷ [])) (unnamed-up j (omega (arith, l))) (second-named b j (omega arith))
      ∙ append_assoc (unnamed (named_before A a) a) (map (λ (i : ℕ). a + i) (unnamed (named_before B b) j)) (cond (named_before B b j) [] ((a + j) ∷ []))
      ∙ ap (λ (x : List ℕ). unnamed (named_before A a) a ++ x) (up (unnamed (named_before B b) j) (named_before B b j))
    where
      up : (xs : List ℕ) (t : Bool) → map (λ (i : ℕ). a + i) xs ++ cond t [] ((a + j) ∷ []) ≡ map (λ (i : ℕ). a + i) (xs ++ cond t [] (j ∷ []))
      up [] true = refl
      up [] false = refl
      up (x ∷ xs) t = ap (λ (y : List ℕ). (a + x) ∷ y) (up xs t)

  pub merged-drawn : unnamed (named_before M (a + b)) (a + b) ≡ unnamed (named_before A a) a ++ map (λ (i : ℕ). a + i) (unnamed (named_before B b) b)
  merged-drawn = unnamed-up b (omega arith)
