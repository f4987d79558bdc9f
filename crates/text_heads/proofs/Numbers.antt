-- Numbers into a row, one after the other; the row of an entry. Assumes nothing.
use Prim.Native.Nat.{ℕ, zero, suc, ◌+◌, ◌-◌, ◌≤◌, ◌<◌}
use mathlib.Core.Path.{◌≡◌, refl, sym, ap, ◌∙◌}
use mathlib.Core.List.{List, []}
use native.Mathlib.Numerals.{add-one}
use native.Mathlib.Nat.{suc-sub-suc}
use native.Mathlib.Omega.{arith}
use lib.Ieee.{Float}
use lib.ListN.{length, take, drop, set, length-set, length-drop, replicate}
use lib.Seq.{take-suc-set, drop-set-lt, take_all, length-take-le}
use Rattle.rows.proofs.Rows.{padded-of}
use Rattle.floats.specs.Arith.{zero_f}
use Rattle.rows.specs.Rows.{padded, row}
use Rattle.rows.specs.Entries.{numbers_of}
use Rattle.rows.specs.declared.Numbers.{Numbers}
use Rattle.view.specs.declared.View.{View}
use Rattle.text_tokens.specs.Tokens.{left, and_then, number_in, close_in}
use Rattle.text_tokens.specs.Seen.{found_as, counted_as, step_as}
use Rattle.text_heads.specs.Heads.{numbers_in, kind_in, detail_in, measures, stripes_in, opening_in, named_in, view_word, view_of, view_in}
use Rattle.text_heads.specs.Cursors.{numbers_as, opened_as, viewed_as}
use Rattle.std.specs.Prelude.{None, Option, Some}

-- i numbers are read, up to place a; the row held row₀
pub record Gathered (s : List ℕ) (at n : ℕ) (row₀ row : List Float) (a i : ℕ) : Type 0 where
  pub upto : i ≤ n
  pub long : length row ≡ length row₀
  pub same : numbers_in [] n (left s at) ≡ numbers_in (take i row) (n - i) (left s a)
  pub rest : drop n row ≡ drop n row₀

module _ (s : List ℕ) (at n : ℕ) (row₀ : List Float) (fits : n ≤ length row₀) where
  pub gathered-start : Gathered s at n row₀ row₀ at 0
  gathered-start = record { upto = omega arith; long = refl; same = (let e : n - 0 ≡ n = omega arith in rw e); rest = refl }

  module _ (row : List Float) (a i : ℕ) (h : Gathered s at n row₀ row a i) where
    module _ (l : i < n) {x : Option (Float × ℕ)} (f : found_as s x ≡ number_in (left s a)) where
      pub gathered-turn : {v : Float} {e : ℕ} → x ≡ Some (v, e) → Gathered s at n row₀ (set row i v) e (i + 1)
      unfolding numbers_in and_then found_as
      gathered-turn {v} {e} g =
          let t : n - i ≡ suc (n - (i + 1)) = omega arith in
          record {
            upto = omega arith;
            long = length-set row i v ∙ h.long;
            same = h.same ∙ rw (t, ← f, g, add-one i, take-suc-set row i v (omega (arith, l, fits, h.long)));
            rest = drop-set-lt n row i v l ∙ h.rest;
          }

      pub gathered-stray : x ≡ None → numbers_as s n row None ≡ numbers_in [] n (left s at)
      unfolding numbers_in and_then found_as numbers_as
      gathered-stray g = let t : n - i ≡ suc (n - (i + 1)) = omega arith in sym (h.same ∙ rw (t, ← f, g))

    pub gathered-end : n ≤ i → numbers_as s n row (Some a) ≡ numbers_in [] n (left s at)
    unfolding numbers_in numbers_as
    gathered-end l = let t : n - i ≡ 0 = omega arith in let e : n ≡ i = omega (arith, l, h.upto) in sym (h.same ∙ rw (t, e))

drop-zeros : (n m : ℕ) (z : Float) → n ≤ m → drop n (replicate m z) ≡ replicate (m - n) z
drop-zeros zero m z h = let e : m - 0 ≡ m = omega arith in rw e
drop-zeros (suc n) zero z h = absurd (omega arith)
drop-zeros (suc n) (suc m) z h = rw suc-sub-suc (drop-zeros n m z (omega arith))

-- a row of sixteen that was zeros, of which the first n are read now
pub padded-row : (n : ℕ) (xs : List Float) → n ≤ 16 → length xs ≡ 16 → drop n xs ≡ drop n (replicate 16 zero_f) → row 16 0 xs ≡ padded zero_f 16 (take n xs)
padded-row n xs l e d =
    let w : xs ≡ padded zero_f (length xs) (take n xs) = padded-of zero_f xs (take n xs) n refl (length-take-le n xs (omega (arith, l, e))) (d ∙ drop-zeros n 16 zero_f l ∙ rw e) in
    take_all 16 xs (omega (arith, e)) ∙ w ∙ rw e

-- the last sixteen of 22
pub rest-row : (xs : List Float) → length xs ≡ 22 → row 16 0 (take (length xs - 6) (drop 6 xs)) ≡ drop 6 xs
rest-row xs e =
    let n : length xs - 6 ≡ 16 = omega (arith, e) in
    let l : length (drop 6 xs) ≡ 16 = length-drop 6 xs ∙ n in
    rw n (ap (take 16) (take_all 16 (drop 6 xs) (omega (arith, l))) ∙ take_all 16 (drop 6 xs) (omega (arith, l)))

-- a form's beginning: its kind, its detail, its numbers and its stripes
module _ (s : List ℕ) (at : ℕ) {h : Option (ℕ × ℕ)} (head : counted_as s h ≡ kind_in (left s at)) {k i : ℕ} (kind : h ≡ Some (k, i)) {d : Option (ℕ × ℕ)} (detail : counted_as s d ≡ detail_in k (left s i)) where
  pub opening-undetailed : d ≡ None → opened_as s None ≡ opening_in (left s at)
  unfolding opened_as opening_in and_then counted_as
  opening-undetailed p = rw (← head, kind, ← detail, p)

  module _ {v j : ℕ} (p : d ≡ Some (v, j)) {n : ℕ} (count : n ≡ measures k) (xs : List Float) {b : Option ℕ} (numbers : numbers_as s n xs b ≡ numbers_in [] n (left s j)) where
    pub opening-short : b ≡ None → opened_as s None ≡ opening_in (left s at)
    unfolding opened_as opening_in and_then counted_as numbers_as
    opening-short q = rw (← head, kind, ← detail, p, ← count, ← numbers, q)

    module _ {e : ℕ} (q : b ≡ Some e) {t : Option (ℕ × ℕ)} (stripes : counted_as s t ≡ stripes_in k v (left s e)) where
      pub opening-miscounted : t ≡ None → opened_as s None ≡ opening_in (left s at)
      unfolding opened_as opening_in and_then counted_as numbers_as
      opening-miscounted u = rw (← head, kind, ← detail, p, ← count, ← numbers, q, ← stripes, u)

      pub opening_of : n ≤ 16 → length xs ≡ 16 → drop n xs ≡ drop n (replicate 16 zero_f) → {w m : ℕ} → t ≡ Some (w, m) → {r : Numbers} → r ≡ numbers_of (row 16 0 xs)
          → opened_as s (Some ((record { kind = k; detail = w; row = r }), m)) ≡ opening_in (left s at)
      unfolding opened_as opening_in and_then counted_as numbers_as
      opening_of l long rest u is = rw (← head, kind, ← detail, p, ← count, ← numbers, q, ← stripes, u, is, padded-row n xs l long rest)

-- the view
module _ (s : List ℕ) (at : ℕ) {h : Option ℕ} (head : step_as s h ≡ named_in view_word (left s at)) {i : ℕ} (goes : h ≡ Some i) (xs : List Float) {b : Option ℕ} (numbers : numbers_as s 22 xs b ≡ numbers_in [] 22 (left s i)) where
  pub view-short : b ≡ None → viewed_as s None ≡ view_in (left s at)
  unfolding viewed_as view_in and_then step_as numbers_as
  view-short q = rw (← head, goes, ← numbers, q)

  module _ {j : ℕ} (q : b ≡ Some j) {c : Option ℕ} (close : step_as s c ≡ close_in (left s j)) where
    pub view-open : c ≡ None → viewed_as s None ≡ view_in (left s at)
    unfolding viewed_as view_in and_then step_as numbers_as
    view-open p = rw (← head, goes, ← numbers, q, ← close, p)

    pub view-seen : length xs ≡ 22 → {k : ℕ} → c ≡ Some k → {v : View} → v ≡ view_of xs → viewed_as s (Some (v, k)) ≡ view_in (left s at)
    unfolding viewed_as view_in and_then step_as numbers_as
    view-seen l p w = rw (← head, goes, ← numbers, q, ← close, p, w, take_all 22 xs (omega (arith, l)))
