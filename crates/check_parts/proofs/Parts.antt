-- Laws on the lists of the check of parts. Assumes nothing.
use Prim.Native.Nat.{ℕ, zero, suc, ◌+◌, ◌-◌, ◌<◌, ◌≤◌}
use mathlib.Core.Path.{◌≡◌, refl, ap, sym, ◌∙◌, subst}
use mathlib.Core.List.{List, ◌++◌}
use mathlib.Core.Bool.{Bool, true, false, not, ◌&&◌, ◌||◌, cond}
use lib.ListN.{length, take, get_or, set, replicate, length-set, get_or-replicate, length-replicate}
use lib.Seq.{get_or-set_same, get_or-set_other, take-suc-set, get_or-take}
use lib.Dec.{ltb, eqb}
use native.Mathlib.Omega.{arith}
use native.Mathlib.Nat.{lt_of_lt_of_le, zero-add, suc-add, sub-add_cancel}
use native.Mathlib.Numerals.{add-one}
use borrow.Author.Tests.{ltb-true, eqb-true, eqb-false, eq-eqb, ne_eqb}
use Rattle.rows.specs.declared.Marks.{Marks}
use Rattle.check_parts.specs.Parts.{kind_at, first_at, second_at, names, named_before, larger, deepest, depths_to, free_for, parts_free, entry_ok, parts_ok, flag, Flags, Known}

-- the marks of an entry, one by one
abbrev pub kind_of : Marks → ℕ
kind_of m = m.kind

abbrev pub first_of : Marks → ℕ
first_of m = m.first

abbrev pub second_of : Marks → ℕ
second_of m = m.second

or_assoc : (x y z : Bool) → ((x || y) || z) ≡ (x || (y || z))
or_assoc true y z = refl
or_assoc false y z = refl

flag-eqb : (b : Bool) → eqb (flag b) 0 ≡ not b
flag-eqb true = refl
flag-eqb false = refl

and_left : (x y : Bool) → (x && y) ≡ true → x ≡ true
and_left true y e = refl
and_left false y e = e

-- a flag that stands for what is named
module _ (g : ℕ → Bool) (fs : List ℕ) (F : Flags g fs) where
  takes : (i p : ℕ) → i ≤ length fs → (t : Bool) → ltb p i ≡ t → (t && eqb (get_or fs p 0) 0) ≡ (t && not (g p))
  takes i p h true e = rw (F p (lt_of_lt_of_le (ltb-true p i e) h)) (flag-eqb (g p))
  takes i p h false e = refl

  pub taken : (i p : ℕ) → i ≤ length fs → (ltb p i && eqb (get_or fs p 0) 0) ≡ free_for i g p
  taken i p h = takes i p h (ltb p i) refl

  sets : (p q : ℕ) → q < length fs → (t : Bool) → eqb q p ≡ t → get_or (set fs p 1) q 0 ≡ flag (t || g q)
  sets p q h true e = rw (eqb-true q p e) (get_or-set_same fs p 1 0 (subst (λ (n : ℕ). n < length fs) (eqb-true q p e) h))
  sets p q h false e = get_or-set_other fs p q 1 0 (eqb-false q p e) ∙ F q h

  pub flagged : (p : ℕ) → Flags (λ q. eqb q p || g q) (set fs p 1)
  flagged p q h = sets p q (subst (λ (n : ℕ). q < n) (length-set fs p 1) h) (eqb q p) refl

-- the look at entry i of kind k, with the parts a and b
module _ (ms ds fs : List ℕ) (i : ℕ) (K : Known ms i ds fs) (dr : i < length ds) (fr : i < length fs)
    {k a b : ℕ} (ek : k ≡ kind_at ms i) (ea : a ≡ first_at ms i) (eb : b ≡ second_at ms i) where
  deep-at : (p : ℕ) → p < i → get_or (depths_to ms i) p 0 ≡ get_or ds p 0
  deep-at p h = rw (← K.deep) (get_or-take i ds p 0 h)

  known_next : (d : ℕ) (fs' : List ℕ) → deepest k a b (depths_to ms i) ≡ d → Flags (λ q. names k a b q || named_before ms i q) fs' → Known ms (i + 1) (set ds i (d + 1)) fs'
  unfolding depths_to named_before
  known_next d fs' e F = rw (add-one i) (record { deep = take-suc-set ds i (d + 1) dr ∙ rw (K.deep, ← ek, ← ea, ← eb, e); flags = rw (← ek, ← ea, ← eb) F })

  ill : parts_free k a b i (named_before ms i) ≡ false → false ≡ entry_ok ms i
  unfolding entry_ok
  ill e = rw (← ek, ← ea, ← eb, e)

  -- the parts are taken, and the depth is stored if it is small enough
  good : (d : ℕ) {fs' : List ℕ} → deepest k a b (depths_to ms i) ≡ d → parts_free k a b i (named_before ms i) ≡ true → Flags (λ q. names k a b q || named_before ms i q) fs' → {r : Bool} {ds' : List ℕ} → r ≡ ltb d 8 → ds' ≡ cond (ltb d 8) (set ds i (d + 1)) ds → (r ≡ entry_ok ms i) × (r ≡ true → Known ms (i + 1) ds' fs')
  unfolding entry_ok
  good d {fs'} e f F er es = (er ∙ rw (← ek, ← ea, ← eb, f, e), λ rt. rw (es, ← er, rt) (known_next d fs' e F))

  pub other : (k ≡ 6 → ⊥) → (k ≡ 7 → ⊥) → {r : Bool} {ds' : List ℕ} → r ≡ ltb 0 8 → ds' ≡ cond (ltb 0 8) (set ds i (0 + 1)) ds → (r ≡ entry_ok ms i) × (r ≡ true → Known ms (i + 1) ds' fs)
  unfolding deepest parts_free names
  other n6 n7 er es = good 0 (rw (ne_eqb k 6 n6, ne_eqb k 7 n7)) (rw (ne_eqb k 6 n6, ne_eqb k 7 n7)) (rw (ne_eqb k 6 n6, ne_eqb k 7 n7) K.flags) er es

  -- the first part, asked
  module _ {t : Bool} {f1 : List ℕ} (et : t ≡ (ltb a i && eqb (get_or fs a 0) 0)) (ef : f1 ≡ cond (ltb a i && eqb (get_or fs a 0) 0) (set fs a 1) fs) where
    pub before-it : t ≡ true → a < i
    before-it e = ltb-true a i (and_left _ _ (sym et ∙ e))

    is_free : {u : Bool} → t ≡ u → free_for i (named_before ms i) a ≡ u
    is_free e = sym (taken (named_before ms i) fs K.flags i a (omega arith)) ∙ sym et ∙ e

    first-set : t ≡ true → f1 ≡ set fs a 1
    first-set e = ef ∙ rw (← et, e)

    first-flags : t ≡ true → Flags (λ q. eqb q a || named_before ms i q) f1
    first-flags e = rw (first-set e) (flagged (named_before ms i) fs K.flags a)

    pub six-no : k ≡ 6 → t ≡ false → false ≡ entry_ok ms i
    unfolding parts_free
    six-no e6 e = ill (rw (eq-eqb k 6 e6) (is_free e))

    pub six-yes : k ≡ 6 → t ≡ true → {r : Bool} {ds' : List ℕ} → r ≡ ltb (get_or ds a 0) 8 → ds' ≡ cond (ltb (get_or ds a 0) 8) (set ds i (get_or ds a 0 + 1)) ds → (r ≡ entry_ok ms i) × (r ≡ true → Known ms (i + 1) ds' f1)
    unfolding deepest parts_free names
    six-yes e6 e er es = good (get_or ds a 0) (rw (eq-eqb k 6 e6) (deep-at a (before-it e))) (rw (eq-eqb k 6 e6) (is_free e)) (rw (eq-eqb k 6 e6) (first-flags e)) er es

    -- the second part, asked after the first was taken
    module _ (e7 : k ≡ 7) (n6 : k ≡ 6 → ⊥) where
      seven-first-no : t ≡ false → false ≡ entry_ok ms i
      unfolding parts_free
      seven-first-no e = ill (rw (ne_eqb k 6 n6, eq-eqb k 7 e7, is_free e))

      pub seven-no-first : t ≡ false → false ≡ entry_ok ms i
      seven-no-first e = seven-first-no e

      module _ (e : t ≡ true) {u : Bool} {f2 : List ℕ} (eu : u ≡ (ltb b i && eqb (get_or f1 b 0) 0)) (eg : f2 ≡ cond (ltb b i && eqb (get_or f1 b 0) 0) (set f1 b 1) f1) where
        pub second-before : u ≡ true → b < i
        second-before h = ltb-true b i (and_left _ _ (sym eu ∙ h))

        kept-length : length f1 ≡ length fs
        kept-length = ap length (first-set e) ∙ simp length-set

        second-free : {v : Bool} → u ≡ v → free_for i (λ q. eqb q a || named_before ms i q) b ≡ v
        second-free h = sym (taken (λ q. eqb q a || named_before ms i q) f1 (first-flags e) i b (omega (arith, kept-length))) ∙ sym eu ∙ h

        pub seven-no : u ≡ false → false ≡ entry_ok ms i
        unfolding parts_free
        seven-no h = ill (rw (ne_eqb k 6 n6, eq-eqb k 7 e7, is_free e) (second-free h))

        second-flags : u ≡ true → Flags (λ q. (eqb q b || eqb q a) || named_before ms i q) f2
        second-flags h = rw (eg, ← eu, h) (λ q l. flagged (λ x. eqb x a || named_before ms i x) f1 (first-flags e) b q l ∙ ap flag (sym (or_assoc (eqb q b) (eqb q a) (named_before ms i q))))

        pub seven-yes : u ≡ true → {d : ℕ} → d ≡ larger (get_or ds a 0) (get_or ds b 0) → {r : Bool} {ds' : List ℕ} → r ≡ ltb d 8 → ds' ≡ cond (ltb d 8) (set ds i (d + 1)) ds → (r ≡ entry_ok ms i) × (r ≡ true → Known ms (i + 1) ds' f2)
        unfolding deepest parts_free names
        seven-yes h {d} ed er es = good d (rw (ne_eqb k 6 n6, eq-eqb k 7 e7, deep-at a (before-it e), deep-at b (second-before h)) (sym ed)) (rw (ne_eqb k 6 n6, eq-eqb k 7 e7, is_free e) (second-free h)) (rw (ne_eqb k 6 n6, eq-eqb k 7 e7) (second-flags h)) er es

-- nothing is known yet, and no flag is set
known-none : (ms ds : List ℕ) (n : ℕ) → Known ms 0 ds (replicate n 0)
unfolding depths_to named_before
known-none ms ds n = record { deep = refl; flags = λ p h. get_or-replicate n p 0 0 (subst (λ (m : ℕ). p < m) (length-replicate n 0) h) }

pub known-cleared : (ms ds fs : List ℕ) {cleared : List ℕ} → cleared ≡ take 0 fs ++ replicate (length fs - 0) 0 → Known ms 0 ds cleared
known-cleared ms ds fs e = rw e (known-none ms ds (length fs - 0))

-- an ill entry makes the whole ill
ok_step : (ms : List ℕ) (i : ℕ) {t : Bool} → parts_ok ms i ≡ true → t ≡ entry_ok ms i → t ≡ parts_ok ms (suc i)
unfolding parts_ok
ok_step ms i p e = e ∙ rw p

pub ok-more : (ms : List ℕ) (i : ℕ) {t : Bool} → parts_ok ms i ≡ true → t ≡ entry_ok ms i → t ≡ parts_ok ms (i + 1)
ok-more ms i p e = rw (add-one i) (ok_step ms i p e)

ill-more : (ms : List ℕ) (i k : ℕ) → false ≡ parts_ok ms i → false ≡ parts_ok ms (k + i)
unfolding parts_ok
ill-more ms i zero e = rw (zero-add i) e
ill-more ms i (suc k) e = rw (suc-add k i, ← ill-more ms i k e)

pub ill-all : (ms : List ℕ) (i n : ℕ) → i < n → parts_ok ms i ≡ true → false ≡ entry_ok ms i → false ≡ parts_ok ms n
ill-all ms i n h p e = subst (λ (m : ℕ). false ≡ parts_ok ms m) (sub-add_cancel {n = n} {m = i + 1} (omega arith)) (ill-more ms (i + 1) (n - (i + 1)) (ok-more ms i p e))

pub never : {A : Type 0} → false ≡ true → A
never e = absurd (let z : flag false ≡ flag true = ap flag e in omega (arith, z))
