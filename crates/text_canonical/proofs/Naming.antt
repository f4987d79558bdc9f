-- Of the entries that a form adds the last one is named by nobody, the others by one of them; parts are well named, and as deep as the form. Assumes nothing.
use Prim.Native.Nat.{ℕ, zero, suc, ◌+◌, ◌-◌, ◌≤◌, ◌<◌}
use mathlib.Core.Path.{◌≡◌, refl, sym, ap, ap₂, ◌∙◌, subst, fun_ext}
use mathlib.Core.Logic.{◌⊎◌, inl, inr}
use mathlib.Core.Bool.{Bool, true, false, cond, not, ◌&&◌, ◌||◌, and-eq-true_iff}
use mathlib.Core.List.{List, [], ◌∷◌, ◌++◌, append-nil}
use native.Mathlib.Nat.{add-suc, add-zero}
use native.Mathlib.Omega.{arith}
use borrow.Author.Tests.{lt-ltb, eq-eqb, ne_eqb, ltb-true}
use lib.Dec.{ltb, eqb}
use lib.ListN.{length, get_or, length-append}
use Rattle.floats.proofs.Order.{le-or-lt}
use Rattle.rows.specs.declared.Marks.{Marks}
use Rattle.scene.specs.Entries.{marks_at}
use Rattle.check_parts.specs.Parts.{kind_at, first_at, second_at, names, named_before, larger, deepest, depths_to, free_for, parts_free, entry_ok, parts_ok}
use Rattle.check_parts.specs.Drawn.{unnamed}
use Rattle.check_parts.proofs.Depths.{depth_at, shallow}
use Rattle.scene.specs.Scenes.{Scene, entries_of}
use Rattle.text_heads.specs.declared.Head.{Head}
use Rattle.text_forms.specs.Forms.{last, entered}
use Rattle.text_canonical.specs.Forms.{Form, round_form, cube_form, triangle_form, placed_form, cut_form, no_form}
use Rattle.text_canonical.specs.Writable.{Writable}
use Rattle.text_canonical.proofs.Added.{head_of, with_lines, added, deep_of}
use Rattle.text_canonical.proofs.Rereading.{round-not}
use Rattle.text_canonical.proofs.Readback.{Sane, Extends, back, last-is, some-entries, larger-left, entered-extends, new-marks, entered-count, L, round-count, round-extends}

-- an entry that is well named names only what is before it
named-before-it : (k f g i : ℕ) (nb : ℕ → Bool) → parts_free k f g i nb ≡ true → (p : ℕ) → i ≤ p → names k f g p ≡ false
unfolding names parts_free
named-before-it k f g i nb h p l = by (eqb k 6) (eqb k 7) h
  where
    by : (s t : Bool) → cond s (free_for i nb f) (cond t (free_for i nb f && free_for i (λ q. eqb q f || nb q) g) true) ≡ true → cond s (eqb p f) (cond t (eqb p g || eqb p f) false) ≡ false
    by true t e = let a = (and-eq-true_iff (ltb f i) _).0 e in ne_eqb p f (λ z. omega (arith, z, l, ltb-true f i a.0))
    by false true e =
        let c = (and-eq-true_iff (free_for i nb f) _).0 e in
        let a = (and-eq-true_iff (ltb f i) _).0 c.0 in
        let b = (and-eq-true_iff (ltb g i) _).0 c.1 in
        ap₂ ◌||◌ (ne_eqb p g (λ z. omega (arith, z, l, ltb-true g i b.0))) (ne_eqb p f (λ z. omega (arith, z, l, ltb-true f i a.0)))
    by false false e = refl

ok_at : (ms : List ℕ) (n i : ℕ) → parts_ok ms n ≡ true → i < n → entry_ok ms i ≡ true
unfolding parts_ok
ok_at ms zero i h l = absurd (omega (arith, l))
ok_at ms (suc n) i h l =
    let a = (and-eq-true_iff (parts_ok ms n) (entry_ok ms n)).0 h in
    by (λ m. ok_at ms n i a.0 m) a.1 (le-or-lt n i)
  where
    by : (i < n → entry_ok ms i ≡ true) → entry_ok ms n ≡ true → (n ≤ i) ⊎ (i < n) → entry_ok ms i ≡ true
    by rec e (inl m) = let z : i ≡ n = omega (arith, m, l) in rw z e
    by rec e (inr m) = rec m

free-at : (ms : List ℕ) (i : ℕ) → entry_ok ms i ≡ true → parts_free (kind_at ms i) (first_at ms i) (second_at ms i) i (named_before ms i) ≡ true
unfolding entry_ok
free-at ms i h = ((and-eq-true_iff (parts_free (kind_at ms i) (first_at ms i) (second_at ms i) i (named_before ms i)) _).0 h).0

none-beyond : (ms : List ℕ) (n i p : ℕ) → parts_ok ms n ≡ true → i ≤ n → n ≤ p → named_before ms i p ≡ false
unfolding named_before
none-beyond ms n zero p h l m = refl
none-beyond ms n (suc i) p h l m = ap₂ ◌||◌ (named-before-it (kind_at ms i) (first_at ms i) (second_at ms i) i (named_before ms i) (free-at ms i (ok_at ms n i h (omega (arith, l)))) p (omega (arith, l, m))) (none-beyond ms n i p h (omega (arith, l)) m)

-- ---- what hangs on the first entries alone
module _ (s t : List ℕ) (n : ℕ) (same : (i : ℕ) → i < n → marks_at t i ≡ marks_at s i) where
  named-kept : (i p : ℕ) → i ≤ n → named_before t i p ≡ named_before s i p
  unfolding named_before
  named-kept zero p l = refl
  named-kept (suc i) p l = ap₂ (λ (m : Marks) (x : Bool). names m.kind m.first m.second p || x) (same i (omega (arith, l))) (named-kept i p (omega (arith, l)))

  depths-kept : (i : ℕ) → i ≤ n → depths_to t i ≡ depths_to s i
  unfolding depths_to
  depths-kept zero l = refl
  depths-kept (suc i) l = ap₂ (λ (ds : List ℕ) (m : Marks). ds ++ ((deepest m.kind m.first m.second ds + 1) ∷ [])) (depths-kept i (omega (arith, l))) (same i (omega (arith, l)))

  abbrev entry : ℕ → Marks → (ℕ → Bool) → List ℕ → Bool
  entry i m nb ds = parts_free m.kind m.first m.second i nb && ltb (deepest m.kind m.first m.second ds) 8

  ok-kept : (i : ℕ) → i ≤ n → parts_ok t i ≡ parts_ok s i
  unfolding parts_ok entry_ok
  ok-kept zero l = refl
  ok-kept (suc i) l =
      ap₂ ◌&&◌ (ok-kept i (omega (arith, l)))
      (ap₂ (λ (m : Marks) (nb : ℕ → Bool). entry i m nb (depths_to t i)) (same i (omega (arith, l))) (fun_ext (λ (p : ℕ). named-kept i p (omega (arith, l))))
      ∙ ap (entry i (marks_at s i) (named_before s i)) (depths-kept i (omega (arith, l))))

depths-length : (ms : List ℕ) (n : ℕ) → length (depths_to ms n) ≡ n
unfolding depths_to
depths-length ms zero = refl
depths-length ms (suc n) = length-append (depths_to ms n) _ ∙ ap (λ (x : ℕ). x + 1) (depths-length ms n) ∙ omega arith

get-front : (ds es : List ℕ) (p : ℕ) → p < length ds → get_or (ds ++ es) p 0 ≡ get_or ds p 0
get-front [] es p l = absurd (omega (arith, l))
get-front (d ∷ ds) es zero l = refl
get-front (d ∷ ds) es (suc p) l = get-front ds es p (omega (arith, l))

get_seam : (ds : List ℕ) (e : ℕ) → get_or (ds ++ (e ∷ [])) (length ds) 0 ≡ e
get_seam [] e = refl
get_seam (d ∷ ds) e = get_seam ds e

-- ---- one more entry on top: M has n entries more, the last of which is m
module _ (s t : List ℕ) (n : ℕ) (same : (i : ℕ) → i < n → marks_at t i ≡ marks_at s i) (m : Marks) (new : marks_at t n ≡ m) where
  top-named : (p : ℕ) → named_before t (suc n) p ≡ (names m.kind m.first m.second p || named_before s n p)
  unfolding named_before
  top-named p = ap₂ (λ (x : Marks) (b : Bool). names x.kind x.first x.second p || b) new (named-kept s t n same n p (omega arith))

  top-depths : depths_to t (suc n) ≡ depths_to s n ++ ((deepest m.kind m.first m.second (depths_to s n) + 1) ∷ [])
  unfolding depths_to
  top-depths = ap₂ (λ (ds : List ℕ) (x : Marks). ds ++ ((deepest x.kind x.first x.second ds + 1) ∷ [])) (depths-kept s t n same n (omega arith)) new

  top-depth : get_or (depths_to t (suc n)) n 0 ≡ deepest m.kind m.first m.second (depths_to s n) + 1
  top-depth = ap (λ (ds : List ℕ). get_or ds n 0) top-depths ∙ subst (λ (k : ℕ). get_or (depths_to s n ++ ((deepest m.kind m.first m.second (depths_to s n) + 1) ∷ [])) k 0 ≡ deepest m.kind m.first m.second (depths_to s n) + 1) (depths-length s n) (get_seam (depths_to s n) _)

  low-depth : (p : ℕ) → p < n → get_or (depths_to t (suc n)) p 0 ≡ get_or (depths_to s n) p 0
  low-depth p l = ap (λ (ds : List ℕ). get_or ds p 0) top-depths ∙ get-front (depths_to s n) _ p (subst (λ (k : ℕ). p < k) (sym (depths-length s n)) l)

  top-ok : parts_ok s n ≡ true → parts_free m.kind m.first m.second n (named_before s n) ≡ true → deepest m.kind m.first m.second (depths_to s n) < 8 → parts_ok t (suc n) ≡ true
  unfolding parts_ok entry_ok
  top-ok h f d =
      ap₂ ◌&&◌ (ok-kept s t n same n (omega arith) ∙ h)
      (ap₂ (λ (x : Marks) (nb : ℕ → Bool). entry s t n same n x nb (depths_to t n)) new (fun_ext (λ (p : ℕ). named-kept s t n same n p (omega arith)))
      ∙ ap (entry s t n same n m (named_before s n)) (depths-kept s t n same n (omega arith))
      ∙ ap₂ ◌&&◌ f (lt-ltb (deepest m.kind m.first m.second (depths_to s n)) 8 d))

-- t has the entries of s and then those of a form, h deep
pub record Group (h : ℕ) (s t : Scene) : Type 0 where
  pub low : (p : ℕ) → p < entries_of s → named_before t.marks (entries_of t) p ≡ named_before s.marks (entries_of s) p
  pub inner : (p : ℕ) → entries_of s ≤ p → p < last t → named_before t.marks (entries_of t) p ≡ true
  pub top : named_before t.marks (entries_of t) (last t) ≡ false
  pub deep : get_or (depths_to t.marks (entries_of t)) (last t) 0 ≡ h
  pub old : (p : ℕ) → p < entries_of s → get_or (depths_to t.marks (entries_of t)) p 0 ≡ get_or (depths_to s.marks (entries_of s)) p 0
  pub ok : parts_ok t.marks (entries_of t) ≡ true

-- an entry without parts
module _ (k f g : ℕ) (n6 : k ≡ 6 → ⊥) (n7 : k ≡ 7 → ⊥) where
  bare-names : (p : ℕ) → names k f g p ≡ false
  unfolding names
  bare-names p = rw (ne_eqb k 6 n6, ne_eqb k 7 n7)

  bare-free : (i : ℕ) (nb : ℕ → Bool) → parts_free k f g i nb ≡ true
  unfolding parts_free
  bare-free i nb = rw (ne_eqb k 6 n6, ne_eqb k 7 n7)

  bare-deep : (ds : List ℕ) → deepest k f g ds ≡ 0
  unfolding deepest
  bare-deep ds = rw (ne_eqb k 6 n6, ne_eqb k 7 n7)

-- t has one entry more than s, with the marks m
module _ (s t : Scene) (count : entries_of t ≡ entries_of s + 1) (same : (i : ℕ) → i < entries_of s → marks_at t.marks i ≡ marks_at s.marks i) (m : Marks) (new : marks_at t.marks (entries_of s) ≡ m)
    (ok : parts_ok s.marks (entries_of s) ≡ true) where
  up : entries_of t ≡ suc (entries_of s)
  up = count ∙ omega arith

  abbrev named : ℕ → Bool
  named = named_before s.marks (entries_of s)

  abbrev depths : List ℕ
  depths = depths_to s.marks (entries_of s)

  last-new : last t ≡ entries_of s
  last-new = last-is t (entries_of s) count

  then-named : (p : ℕ) → named_before t.marks (entries_of t) p ≡ (names m.kind m.first m.second p || named p)
  then-named p = ap (λ (k : ℕ). named_before t.marks k p) up ∙ top-named s.marks t.marks (entries_of s) same m new p

  then-deep : get_or (depths_to t.marks (entries_of t)) (last t) 0 ≡ deepest m.kind m.first m.second depths + 1
  then-deep = ap₂ (λ (k p : ℕ). get_or (depths_to t.marks k) p 0) up last-new ∙ top-depth s.marks t.marks (entries_of s) same m new

  then-old : (p : ℕ) → p < entries_of s → get_or (depths_to t.marks (entries_of t)) p 0 ≡ get_or depths p 0
  then-old p l = ap (λ (k : ℕ). get_or (depths_to t.marks k) p 0) up ∙ low-depth s.marks t.marks (entries_of s) same m new p l

  then_ok : parts_free m.kind m.first m.second (entries_of s) named ≡ true → deepest m.kind m.first m.second depths < 8 → parts_ok t.marks (entries_of t) ≡ true
  then_ok f d = ap (parts_ok t.marks) up ∙ top-ok s.marks t.marks (entries_of s) same m new ok f d

  none-new : named (entries_of s) ≡ false
  none-new = none-beyond s.marks (entries_of s) (entries_of s) (entries_of s) ok (omega arith) (omega arith)

  -- without parts
  pub bare-group : (m.kind ≡ 6 → ⊥) → (m.kind ≡ 7 → ⊥) → Group 1 s t
  bare-group n6 n7 =
      let none : (p : ℕ) → named_before t.marks (entries_of t) p ≡ named p = λ p. then-named p ∙ ap (λ (x : Bool). x || named p) (bare-names m.kind m.first m.second n6 n7 p) in
      let flat = bare-deep m.kind m.first m.second n6 n7 depths in
      record {
        low = λ p l. none p;
        inner = λ p l r. absurd (omega (arith, l, r, last-new));
        top = none (last t) ∙ ap named last-new ∙ none-new;
        deep = then-deep ∙ ap (λ (x : ℕ). x + 1) flat;
        old = then-old;
        ok = then_ok (bare-free m.kind m.first m.second n6 n7 (entries_of s) named) (rw flat (omega arith));
      }

-- a placed part on top of a group
six-names : (p x : ℕ) → names 6 p 0 x ≡ eqb x p
unfolding names
six-names p x = refl

six-free : (p i : ℕ) (nb : ℕ → Bool) → parts_free 6 p 0 i nb ≡ free_for i nb p
unfolding parts_free
six-free p i nb = refl

six-deep : (p : ℕ) (ds : List ℕ) → deepest 6 p 0 ds ≡ get_or ds p 0
unfolding deepest
six-deep p ds = refl

seven-names : (p q x : ℕ) → names 7 p q x ≡ (eqb x q || eqb x p)
unfolding names
seven-names p q x = refl

seven-free : (p q i : ℕ) (nb : ℕ → Bool) → parts_free 7 p q i nb ≡ (free_for i nb p && free_for i (λ r. eqb r p || nb r) q)
unfolding parts_free
seven-free p q i nb = refl

seven-deep : (p q : ℕ) (ds : List ℕ) → deepest 7 p q ds ≡ larger (get_or ds p 0) (get_or ds q 0)
unfolding deepest
seven-deep p q ds = refl

or-true : (x y : Bool) → y ≡ true → (x || y) ≡ true
or-true true y e = refl
or-true false y e = e

module _ (h : ℕ) (s a t : Scene) (some : 1 ≤ entries_of a) (more : entries_of s < entries_of a) (G : Group h s a) (count : entries_of t ≡ entries_of a + 1)
    (same : (i : ℕ) → i < entries_of a → marks_at t.marks i ≡ marks_at a.marks i) (v : ℕ) (new : marks_at t.marks (entries_of a) ≡ record { kind = 6; detail = v; first = last a; second = 0 }) (low8 : h < 8) where
  abbrev m6 : Marks
  m6 = record { kind = 6; detail = v; first = last a; second = 0 }

  on : (p : ℕ) → named_before t.marks (entries_of t) p ≡ (eqb p (last a) || named_before a.marks (entries_of a) p)
  on p = then-named a t count same m6 new G.ok p ∙ ap (λ (x : Bool). x || named_before a.marks (entries_of a) p) (six-names (last a) p)

  pub placed-group : Group (h + 1) s t
  placed-group = record {
    low = λ p l. on p ∙ ap₂ ◌||◌ (ne_eqb p (last a) (λ e. omega (arith, e, l, more))) (G.low p l);
    inner = λ p l r. inside p l r (le-or-lt (last a) p);
    top = on (last t) ∙ ap₂ ◌||◌ (ne_eqb (last t) (last a) (λ e. omega (arith, e, last-new a t count same m6 new G.ok, some))) (ap (named_before a.marks (entries_of a)) (last-new a t count same m6 new G.ok) ∙ none-new a t count same m6 new G.ok);
    deep = then-deep a t count same m6 new G.ok ∙ ap (λ (x : ℕ). x + 1) (six-deep (last a) (depths_to a.marks (entries_of a)) ∙ G.deep);
    old = λ p l. then-old a t count same m6 new G.ok p (omega (arith, l, more)) ∙ G.old p l;
    ok = then_ok a t count same m6 new G.ok
        (six-free (last a) (entries_of a) (named_before a.marks (entries_of a)) ∙ ap₂ (λ (x y : Bool). x && not y) (lt-ltb (last a) (entries_of a) (omega (arith, some))) G.top)
        (subst (λ (x : ℕ). x < 8) (sym (six-deep (last a) (depths_to a.marks (entries_of a)) ∙ G.deep)) low8);
  }
    where
      inside : (p : ℕ) → entries_of s ≤ p → p < last t → (last a ≤ p) ⊎ (p < last a) → named_before t.marks (entries_of t) p ≡ true
      inside p l r (inl e) = on p ∙ ap (λ (x : Bool). x || named_before a.marks (entries_of a) p) (eq-eqb p (last a) (omega (arith, e, r, last-new a t count same m6 new G.ok)))
      inside p l r (inr e) = on p ∙ or-true (eqb p (last a)) _ (G.inner p l e)

-- a cut on top of two groups
module _ (h k : ℕ) (s a c t : Scene) (more : entries_of s < entries_of a) (most : entries_of a < entries_of c) (G : Group h s a) (H : Group k a c) (count : entries_of t ≡ entries_of c + 1)
    (same : (i : ℕ) → i < entries_of c → marks_at t.marks i ≡ marks_at c.marks i) (o : ℕ) (new : marks_at t.marks (entries_of c) ≡ record { kind = 7; detail = o; first = last a; second = last c }) (low8 : larger h k < 8) where
  abbrev m7 : Marks
  m7 = record { kind = 7; detail = o; first = last a; second = last c }

  abbrev before : ℕ → Bool
  before = named_before c.marks (entries_of c)

  at-end : last t ≡ entries_of c
  at-end = last-new c t count same m7 new H.ok

  over : (p : ℕ) → named_before t.marks (entries_of t) p ≡ ((eqb p (last c) || eqb p (last a)) || before p)
  over p = then-named c t count same m7 new H.ok p ∙ ap (λ (x : Bool). x || before p) (seven-names (last a) (last c) p)

  over_by : (p : ℕ) {x y z : Bool} → eqb p (last c) ≡ x → eqb p (last a) ≡ y → before p ≡ z → named_before t.marks (entries_of t) p ≡ ((x || y) || z)
  over_by p e f g = over p ∙ ap₂ ◌||◌ (ap₂ ◌||◌ e f) g

  deep-both : deepest 7 (last a) (last c) (depths_to c.marks (entries_of c)) ≡ larger h k
  deep-both = seven-deep (last a) (last c) (depths_to c.marks (entries_of c)) ∙ ap₂ larger (H.old (last a) (omega (arith, more)) ∙ G.deep) H.deep

  first-free : before (last a) ≡ false
  first-free = H.low (last a) (omega (arith, more)) ∙ G.top

  pub both-group : Group (larger h k + 1) s t
  both-group = record {
    low = λ p l. over_by p (ne_eqb p (last c) (λ e. omega (arith, e, l, more, most))) (ne_eqb p (last a) (λ e. omega (arith, e, l, more))) (H.low p (omega (arith, l, more)) ∙ G.low p l);
    inner = λ p l r. inside p l r (le-or-lt (entries_of a) p) (le-or-lt (last a) p) (le-or-lt (last c) p);
    top = over_by (last t) (ne_eqb (last t) (last c) (λ e. omega (arith, e, at-end, most))) (ne_eqb (last t) (last a) (λ e. omega (arith, e, at-end, most, more))) (ap before at-end ∙ none-new c t count same m7 new H.ok);
    deep = then-deep c t count same m7 new H.ok ∙ ap (λ (x : ℕ). x + 1) deep-both;
    old = λ p l. then-old c t count same m7 new H.ok p (omega (arith, l, more, most)) ∙ H.old p (omega (arith, l, more)) ∙ G.old p l;
    ok = then_ok c t count same m7 new H.ok
        (seven-free (last a) (last c) (entries_of c) before
        ∙ ap₂ ◌&&◌ (ap₂ (λ (x y : Bool). x && not y) (lt-ltb (last a) (entries_of c) (omega (arith, more, most))) first-free)
        (ap₂ (λ (x y : Bool). x && not y) (lt-ltb (last c) (entries_of c) (omega (arith, most))) (ap₂ ◌||◌ (ne_eqb (last c) (last a) (λ e. omega (arith, e, more, most))) H.top)))
        (subst (λ (x : ℕ). x < 8) (sym deep-both) low8);
  }
    where
      inside : (p : ℕ) → entries_of s ≤ p → p < last t → (entries_of a ≤ p) ⊎ (p < entries_of a) → (last a ≤ p) ⊎ (p < last a) → (last c ≤ p) ⊎ (p < last c) → named_before t.marks (entries_of t) p ≡ true
      inside p l r (inl x) y (inl z) = over p ∙ ap (λ (b : Bool). (b || eqb p (last a)) || before p) (eq-eqb p (last c) (omega (arith, z, r, at-end)))
      inside p l r (inl x) y (inr z) = over p ∙ or-true (eqb p (last c) || eqb p (last a)) (before p) (H.inner p x z)
      inside p l r (inr x) (inl y) z = over p ∙ ap (λ (b : Bool). b || before p) (or-true (eqb p (last c)) (eqb p (last a)) (eq-eqb p (last a) (omega (arith, x, y))))
      inside p l r (inr x) (inr y) z = over p ∙ or-true (eqb p (last c) || eqb p (last a)) (before p) (H.low p x ∙ G.inner p l y)

-- The entries of a form: a group as deep as the form.
pub grouped : (f : Form) (s : Scene) → Sane s → Writable f → parts_ok s.marks (entries_of s) ≡ true → deep_of f ≤ 8 → Group (deep_of f) s (added f s)
unfolding added Writable deep_of
grouped (round_form k n xs ls) s S g ok l =
    bare-group s (with_lines (entries_of s) ls (entered (head_of k n xs) 0 0 s)) (round-count k n xs ls 0 s S g.3 g.0 g.2) (λ i r. (round-extends k n xs ls 0 s S g.3 g.0 g.2).marks i r) _
    (ap (λ (ms : List ℕ). marks_at ms (entries_of s)) (L k n xs ls 0 s S g.3 g.0 g.2).marks ∙ new-marks (head_of k n xs) 0 0 s S) ok (λ e. round-not k 6 g.0 (omega arith) (omega arith) e) (λ e. round-not k 7 g.0 (omega arith) (omega arith) e)
grouped (cube_form n xs) s S g ok l =
    bare-group s (entered (head_of 4 n xs) 0 0 s) (entered-count (head_of 4 n xs) 0 0 s S) (λ i r. (entered-extends (head_of 4 n xs) 0 0 s S).marks i r) _ (new-marks (head_of 4 n xs) 0 0 s S) ok (λ e. omega (arith, e)) (λ e. omega (arith, e))
grouped (triangle_form xs) s S g ok l =
    bare-group s (entered (head_of 5 0 xs) 0 0 s) (entered-count (head_of 5 0 xs) 0 0 s S) (λ i r. (entered-extends (head_of 5 0 xs) 0 0 s S).marks i r) _ (new-marks (head_of 5 0 xs) 0 0 s S) ok (λ e. omega (arith, e)) (λ e. omega (arith, e))
grouped (placed_form xs f) s S g ok l =
    let a = added f s in
    let b = back f (deep_of f) s S g.2 (omega arith) in
    let m : entries_of s < entries_of a = omega (arith, b.count, some-entries f g.2) in
    placed-group (deep_of f) s a (entered (head_of 6 0 xs) (last a) 0 a) (omega (arith, m)) m (grouped f s S g.2 ok (omega (arith, l))) (entered-count (head_of 6 0 xs) (last a) 0 a b.sane)
    (λ i r. (entered-extends (head_of 6 0 xs) (last a) 0 a b.sane).marks i r) 0 (new-marks (head_of 6 0 xs) (last a) 0 a b.sane) (omega (arith, l))
grouped (cut_form o f j) s S g ok l =
    let a = added f s in
    let c = added j a in
    let b = back f (deep_of f) s S g.1 (omega arith) in
    let r = back j (deep_of j) a b.sane g.2 (omega arith) in
    let w = larger-left (deep_of f) (deep_of j) in
    let G = grouped f s S g.1 ok (omega (arith, l, w.0)) in
    both-group (deep_of f) (deep_of j) s a c (entered (head_of 7 o []) (last a) (last c) c) (omega (arith, b.count, some-entries f g.1)) (omega (arith, r.count, some-entries j g.2)) G (grouped j a b.sane g.2 G.ok (omega (arith, l, w.1)))
    (entered-count (head_of 7 o []) (last a) (last c) c r.sane) (λ i q. (entered-extends (head_of 7 o []) (last a) (last c) c r.sane).marks i q) o (new-marks (head_of 7 o []) (last a) (last c) c r.sane) (omega (arith, l))
grouped no_form s S g ok l = absurd g

-- ---- which are named by nobody
unnamed-as : (g h : ℕ → Bool) (n : ℕ) → ((p : ℕ) → p < n → g p ≡ h p) → unnamed g n ≡ unnamed h n
unfolding unnamed
unnamed-as g h zero e = refl
unnamed-as g h (suc n) e = ap₂ (λ (x : List ℕ) (t : Bool). x ++ cond t [] (n ∷ [])) (unnamed-as g h n (λ p l. e p (omega (arith, l)))) (e n (omega arith))

unnamed-skip : (g : ℕ → Bool) (n k : ℕ) → ((p : ℕ) → n ≤ p → p < n + k → g p ≡ true) → unnamed g (n + k) ≡ unnamed g n
unfolding unnamed
unnamed-skip g n zero e = ap (unnamed g) (add-zero n)
unnamed-skip g n (suc k) e =
    ap (unnamed g) (add-suc n k) ∙ ap₂ (λ (x : List ℕ) (t : Bool). x ++ cond t [] ((n + k) ∷ [])) (unnamed-skip g n k (λ p l r. e p l (omega (arith, r)))) (e (n + k) (omega arith) (omega arith)) ∙ append-nil (unnamed g n)

-- The drawn entries: one more, the form's last.
pub drawn-more : (h : ℕ) (s t : Scene) → entries_of s < entries_of t → Group h s t → unnamed (named_before t.marks (entries_of t)) (entries_of t) ≡ unnamed (named_before s.marks (entries_of s)) (entries_of s) ++ (last t ∷ [])
unfolding unnamed
drawn-more h s t l G =
    let g : ℕ → Bool = named_before t.marks (entries_of t) in
    let e : entries_of t ≡ suc (last t) = omega (arith, l) in
    let k : entries_of s + (last t - entries_of s) ≡ last t = omega (arith, l) in
    let inner : unnamed g (last t) ≡ unnamed g (entries_of s) = ap (unnamed g) (sym k) ∙ unnamed-skip g (entries_of s) (last t - entries_of s) (λ p x y. G.inner p x (omega (arith, y, k))) in
    ap (unnamed g) e
    ∙ ap₂ (λ (x : List ℕ) (b : Bool). x ++ cond b [] (last t ∷ [])) (inner ∙ unnamed-as g (named_before s.marks (entries_of s)) (entries_of s) (λ p x. G.low p x)) G.top

-- ---- a form whose entries name their parts well is at most 8 deep
ok-below : (ms : List ℕ) (n m : ℕ) → m ≤ n → parts_ok ms n ≡ true → parts_ok ms m ≡ true
unfolding parts_ok
ok-below ms zero m l h = let z : m ≡ 0 = omega (arith, l) in ap (parts_ok ms) z ∙ h
ok-below ms (suc n) m l h = by (le-or-lt (suc n) m) (λ k. ok-below ms n m k ((and-eq-true_iff (parts_ok ms n) (entry_ok ms n)).0 h).0)
  where
    by : (suc n ≤ m) ⊎ (m < suc n) → (m ≤ n → parts_ok ms m ≡ true) → parts_ok ms m ≡ true
    by (inl k) rec = let z : m ≡ suc n = omega (arith, l, k) in ap (parts_ok ms) z ∙ h
    by (inr k) rec = rec (omega (arith, k))

pub ok-back : (s t : Scene) → Extends s t → parts_ok t.marks (entries_of t) ≡ true → parts_ok s.marks (entries_of s) ≡ true
ok-back s t E h = sym (ok-kept s.marks t.marks (entries_of s) E.marks (entries_of s) (omega arith)) ∙ ok-below t.marks (entries_of t) (entries_of s) E.more h

-- how deep the parts of an entry are that was added to a
module _ (h : Head) (p q : ℕ) (a : Scene) (S : Sane a) (ok : parts_ok (entered h p q a).marks (entries_of (entered h p q a)) ≡ true) where
  top-low : deepest h.kind p q (depths_to a.marks (entries_of a)) < 8
  unfolding depth_at
  top-low =
      let t = entered h p q a in
      let c = entered-count h p q a S in
      let d : depth_at t.marks (entries_of a) < 8 = shallow t.marks (entries_of t) ok (entries_of a) (omega (arith, c)) in
      let e : depth_at t.marks (entries_of a) ≡ deepest h.kind p q (depths_to a.marks (entries_of a))
      = ap₂ (λ (m : Marks) (ds : List ℕ). deepest m.kind m.first m.second ds) (new-marks h p q a S) (depths-kept a.marks t.marks (entries_of a) (λ i l. (entered-extends h p q a S).marks i l) (entries_of a) (omega arith)) in
      subst (λ (k : ℕ). k < 8) e d

  before-ok : parts_ok a.marks (entries_of a) ≡ true
  before-ok = ok-back a (entered h p q a) (entered-extends h p q a S) ok

pub low_of : (f : Form) (s : Scene) → Sane s → Writable f → parts_ok (added f s).marks (entries_of (added f s)) ≡ true → deep_of f ≤ 8
unfolding added Writable deep_of
low_of (round_form k n xs ls) s S g ok = omega arith
low_of (cube_form n xs) s S g ok = omega arith
low_of (triangle_form xs) s S g ok = omega arith
low_of (placed_form xs f) s S g ok =
    let a = added f s in
    let b = back f (deep_of f) s S g.2 (omega arith) in
    let oa = before-ok (head_of 6 0 xs) (last a) 0 a b.sane ok in
    let G = grouped f s S g.2 (ok-back s a b.extends oa) (low_of f s S g.2 oa) in
    let d : deepest 6 (last a) 0 (depths_to a.marks (entries_of a)) ≡ deep_of f = six-deep (last a) (depths_to a.marks (entries_of a)) ∙ G.deep in
    omega (arith, d, top-low (head_of 6 0 xs) (last a) 0 a b.sane ok)
low_of (cut_form o f j) s S g ok =
    let a = added f s in
    let c = added j a in
    let b = back f (deep_of f) s S g.1 (omega arith) in
    let r = back j (deep_of j) a b.sane g.2 (omega arith) in
    let oc = before-ok (head_of 7 o []) (last a) (last c) c r.sane ok in
    let oa = ok-back a c r.extends oc in
    let G = grouped f s S g.1 (ok-back s a b.extends oa) (low_of f s S g.1 oa) in
    let H = grouped j a b.sane g.2 oa (low_of j a b.sane g.2 oc) in
    let m : last a < entries_of a = omega (arith, b.count, some-entries f g.1) in
    let d : deepest 7 (last a) (last c) (depths_to c.marks (entries_of c)) ≡ larger (deep_of f) (deep_of j) = seven-deep (last a) (last c) (depths_to c.marks (entries_of c)) ∙ ap₂ larger (H.old (last a) m ∙ G.deep) H.deep in
    omega (arith, d, top-low (head_of 7 o []) (last a) (last c) c r.sane ok)
low_of no_form s S g ok = absurd g
