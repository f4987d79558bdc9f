-- Words added one after the other, in a row of calls or in a loop. Assumes nothing.
use Prim.Native.Nat.{ℕ, ◌+◌, ◌≤◌, ◌<◌}
use mathlib.Core.Path.{◌≡◌, refl, sym, ap, ◌∙◌, subst}
use mathlib.Core.List.{List, [], ◌∷◌, ◌++◌, append-nil}
use native.Mathlib.Omega.{arith}
use native.Mathlib.Numerals.{add-one}
use borrow.Author.Tests.{lt-ltb, le-ltb}
use lib.ListN.{length, take, drop, get_or, set, length-set, drop_of_length-le}
use lib.Seq.{take-suc-set, length-take-le, drop-cons}
use Rattle.refusals.specs.declared.Refusal.{Refusal}
use Rattle.refusals.specs.declared.Refusal.TheVariants.{Room}
use Rattle.paths.specs.Paths.{push, push_all}
use Rattle.paths.proofs.Runs.{extend-append, extend-one}
use Rattle.text_drawing.specs.Writing.{sofar, adds, CountWithin, Writes}
use Rattle.std.specs.Prelude.{Err, Ok, Result}

module _ (room : ℕ) where
  pub adds-append : (a : Result (List ℕ) Refusal) (v w : List ℕ) → adds room a (v ++ w) ≡ adds room (adds room a v) w
  unfolding adds
  adds-append (Ok s) v w = extend-append room s v w
  adds-append (Err k) v w = refl

  pub adds-nothing : (a : Result (List ℕ) Refusal) → adds room a [] ≡ a
  unfolding adds push_all
  adds-nothing (Ok s) = refl
  adds-nothing (Err k) = refl

-- ---- a byte
module _ (xs : List ℕ) (b : ℕ) where
  pub byte-refused : (c : Result ℕ Refusal) {k : Refusal} → c ≡ Err k → Writes (b ∷ []) xs c xs (Err k)
  unfolding adds
  byte-refused c {k} e = record { is = sym (ap (λ (d : Result ℕ Refusal). adds (length xs) (sofar d xs) (b ∷ [])) e); fits = λ n q. clash n q }
    where
      clash : (n : ℕ) → Err k ≡ Ok n → n ≤ length xs
      clash n q = let z : ◌≡◌ {A = ℕ} 0 1 = cc in absurd (omega arith)

  pushed : (c : Result ℕ Refusal) {n : ℕ} → c ≡ Ok n → adds (length xs) (sofar c xs) (b ∷ []) ≡ push (length xs) (take n xs) b
  unfolding adds
  pushed c {n} e = ap (λ (d : Result ℕ Refusal). adds (length xs) (sofar d xs) (b ∷ [])) e ∙ extend-one (length xs) (take n xs) b

  module _ {n : ℕ} (h : n ≤ length xs) where
    push-full : length xs ≤ n → push (length xs) (take n xs) b ≡ Err Room
    unfolding push
    push-full l = rw (length-take-le n xs h, le-ltb n (length xs) l)

    push-put : n < length xs → push (length xs) (take n xs) b ≡ Ok (take (n + 1) (set xs n b))
    unfolding push
    push-put l = rw (length-take-le n xs h, lt-ltb n (length xs) l, add-one n, take-suc-set xs n b l)

  pub byte_full : (c : Result ℕ Refusal) {n : ℕ} → c ≡ Ok n → n ≤ length xs → length xs ≤ n → Writes (b ∷ []) xs c xs (Err Room)
  byte_full c {n} e h l = record { is = sym (pushed c e ∙ push-full h l); fits = λ m q. clash m q }
    where
      clash : (m : ℕ) → Err Room ≡ Ok m → m ≤ length xs
      clash m q = let z : ◌≡◌ {A = ℕ} 0 1 = cc in absurd (omega arith)

  pub byte_put : (c : Result ℕ Refusal) {n : ℕ} → c ≡ Ok n → n < length xs → Writes (b ∷ []) xs c (set xs n b) (Ok (n + 1))
  byte_put c {n} e h = record { is = sym (pushed c e ∙ push-put (omega arith) h); fits = λ m q. fit m q }
    where
      fit : (m : ℕ) → ◌≡◌ {A = Result ℕ Refusal} (Ok (n + 1)) (Ok m) → m ≤ length (set xs n b)
      fit m q = let z : n + 1 ≡ m = cc in omega (arith, length-set xs n b)

-- ---- what is left to add answers as the whole does
pub record Writing (w xs : List ℕ) (c : Result ℕ Refusal) (ys : List ℕ) (d : Result ℕ Refusal) (rest : List ℕ) : Type 0 where
  pub same : length ys ≡ length xs
  pub fits : CountWithin d (length ys)
  pub left : adds (length xs) (sofar d ys) rest ≡ adds (length xs) (sofar c xs) w

module _ {w xs : List ℕ} {c : Result ℕ Refusal} where
  pub writing_start : CountWithin c (length xs) → Writing w xs c xs c w
  writing_start h = record { same = refl; fits = h; left = refl }

  pub writing-turn : {ys : List ℕ} {d : Result ℕ Refusal} (v rest : List ℕ) {zs : List ℕ} {e : Result ℕ Refusal} → Writing w xs c ys d (v ++ rest) → Writes v ys d zs e → length zs ≡ length ys → Writing w xs c zs e rest
  writing-turn {ys} {d} v rest {zs} {e} h k l = record {
    same = l ∙ h.same;
    fits = k.fits;
    left = ap (λ (a : Result (List ℕ) Refusal). adds (length xs) a rest) (k.is ∙ ap (λ (n : ℕ). adds n (sofar d ys) v) h.same) ∙ sym (adds-append (length xs) (sofar d ys) v rest) ∙ h.left;
  }

  pub writing-end : {ys : List ℕ} {d : Result ℕ Refusal} → Writing w xs c ys d [] → Writes w xs c ys d
  writing-end {ys} {d} h = record { is = sym (adds-nothing (length xs) (sofar d ys)) ∙ h.left; fits = h.fits }

  pub writing-as : {ys : List ℕ} {d : Result ℕ Refusal} {r s : List ℕ} → r ≡ s → Writing w xs c ys d r → Writing w xs c ys d s
  writing-as {ys} {d} e h = subst (λ (t : List ℕ). Writing w xs c ys d t) e h

-- ---- a last word
pub writes-last : {w xs : List ℕ} {c : Result ℕ Refusal} {ys : List ℕ} {d : Result ℕ Refusal} (v : List ℕ) {zs : List ℕ} {e : Result ℕ Refusal} → Writing w xs c ys d v → Writes v ys d zs e → length zs ≡ length ys → Writes w xs c zs e
writes-last {w} {xs} {c} v h k l = writing-end (writing-turn v [] (writing-as (sym (append-nil v)) h) k l)

-- ---- one word after the other, and none
pub writes_nothing : {xs : List ℕ} {c : Result ℕ Refusal} → CountWithin c (length xs) → Writes [] xs c xs c
writes_nothing h = writing-end (writing_start h)

pub writes-on : {v xs : List ℕ} {c : Result ℕ Refusal} {ys : List ℕ} {d : Result ℕ Refusal} (w : List ℕ) {zs : List ℕ} {e : Result ℕ Refusal} → Writes v xs c ys d → length ys ≡ length xs → Writes w ys d zs e → Writes (v ++ w) xs c zs e
writes-on {v} {xs} {c} {ys} {d} w h k g = record { is = g.is ∙ ap (λ (n : ℕ). adds n (sofar d ys) w) k ∙ ap (λ (a : Result (List ℕ) Refusal). adds (length xs) a w) h.is ∙ sym (adds-append (length xs) (sofar c xs) v w); fits = g.fits }

pub writes_as : {v w xs : List ℕ} {c : Result ℕ Refusal} {ys : List ℕ} {d : Result ℕ Refusal} → v ≡ w → Writes v xs c ys d → Writes w xs c ys d
writes_as {xs = xs} {c = c} {ys = ys} {d = d} e h = subst (λ (t : List ℕ). Writes t xs c ys d) e h

-- ---- the loop over a word
pub word-turn : {w xs : List ℕ} {c : Result ℕ Refusal} {ys : List ℕ} {d : Result ℕ Refusal} {zs : List ℕ} {e : Result ℕ Refusal} (i : ℕ) → i < length w → Writing w xs c ys d (drop i w) → Writes (get_or w i 0 ∷ []) ys d zs e → length zs ≡ length ys → Writing w xs c zs e (drop (i + 1) w)
word-turn {w} i l h k g = writing-turn (get_or w i 0 ∷ []) (drop (i + 1) w) (writing-as (rw add-one (drop-cons w i 0 l)) h) k g

pub word_end : {w xs : List ℕ} {c : Result ℕ Refusal} {ys : List ℕ} {d : Result ℕ Refusal} (i : ℕ) → length w ≤ i → Writing w xs c ys d (drop i w) → Writes w xs c ys d
word_end {w} i l h = writing-end (writing-as (drop_of_length-le w {i = i} l) h)
