-- The lines of an entry, written one after the other. Assumes nothing.
use Prim.Native.Nat.{ℕ, zero, suc, ◌+◌, ◌-◌, ◌*◌, ◌≤◌, ◌<◌}
use mathlib.Core.Path.{◌≡◌, refl, sym, ap, ap₂, ◌∙◌}
use mathlib.Core.Bool.{Bool, true, false, ◌&&◌, and-false}
use mathlib.Core.List.{List, [], ◌∷◌, ◌++◌, append_assoc, append-nil}
use native.Mathlib.Omega.{arith}
use borrow.Author.Tests.{lt-ltb, le-ltb, eq-eqb, ne_eqb}
use lib.Dec.{ltb, eqb}
use lib.ListN.{length, take, drop, get_or, length-drop}
use lib.Seq.{slice, slice_empty, length-take-le, take-add, drop-drop}
use lib.Ieee.{Float}
use Rattle.geometry.specs.declared.vector.Vector.{Vector}
use Rattle.rows.specs.Rows.{row, flat}
use Rattle.rows.specs.Points.{point_of, point_row}
use Rattle.rows.proofs.Rows.{length-row}
use Rattle.rows.proofs.Backs.{point-back}
use Rattle.rows.specs.Starts.{end_of}
use Rattle.paths.specs.Paths.{paths_of}
use Rattle.paths.specs.Ends.{places, all_points}
use Rattle.paths.specs.Ranges.{range_of}
use Rattle.paths.specs.declared.Range.{Range}
use Rattle.paths.proofs.Parts.{part-cons, span-slice}
use Rattle.draw_lines.specs.Lines.{owned_by, own_path, own_paths}
use Rattle.draw_lines.proofs.Owning.{ownLeft, own_turn, own-end}
use Rattle.text_heads.specs.Heads.{line_word}
use Rattle.text_drawing.specs.Writing.{CountWithin, Writes}
use Rattle.text_drawing.proofs.Adding.{Writing, writing_start, writing-turn, writing-end, writing-as, writes-last, writes_as, writes_nothing}
use Rattle.text_canonical.specs.Canonical.{numbers_text, line_text}
use Rattle.refusals.specs.declared.Refusal.{Refusal}
use Rattle.std.specs.Prelude.{Result}

-- ---- the numbers of a path's points are a part of the slice
module _ (xs : List Float) (end : ℕ) (fit : end * 3 ≤ length xs) where
  numbers_of : (k from : ℕ) → from + k ≡ end → flat point_row (slice from end (all_points xs)) ≡ take (k * 3) (drop (from * 3) xs)
  unfolding flat
  numbers_of zero from e = let f : from ≡ end = omega (arith, e) in ap (λ (i : ℕ). flat point_row (slice i end (all_points xs))) f ∙ ap (flat point_row) (slice_empty end (all_points xs))
  numbers_of (suc k) from e =
      let r = row 3 from xs in
      let l : length r ≡ 3 = length-row 3 from xs (omega (arith, e, fit)) in
      let a : slice from end (all_points xs) ≡ point_of r ∷ slice (from + 1) end (all_points xs) = part-cons xs from end fit (point_of r) (omega (arith, e)) refl in
      let b = numbers_of k (from + 1) (omega (arith, e)) in
      let m : (from + 1) * 3 ≡ from * 3 + 3 = omega arith in
      let n : suc k * 3 ≡ 3 + k * 3 = omega arith in
      ap (flat point_row) a
      ∙ ap₂ (λ (p q : List Float). p ++ q) (point-back r l) (b ∙ ap (λ (i : ℕ). take (k * 3) (drop i xs)) m ∙ ap (take (k * 3)) (sym (drop-drop 3 (from * 3) xs)))
      ∙ sym (ap (λ (i : ℕ). take i (drop (from * 3) xs)) n ∙ take-add 3 (k * 3) (drop (from * 3) xs))

  pub line-numbers : (from : ℕ) → from ≤ end → take (end * 3 - from * 3) (drop (from * 3) xs) ≡ flat point_row (slice from end (all_points xs))
  line-numbers from l =
      let m : end * 3 - from * 3 ≡ (end - from) * 3 = omega (arith, l) in
      ap (λ (i : ℕ). take i (drop (from * 3) xs)) m ∙ sym (numbers_of (end - from) from (omega (arith, l)))

-- ---- a line
module _ {xs ys zs us : List ℕ} {c d e f : Result ℕ Refusal} (h : CountWithin c (length xs)) where
  pub line-put : (ps : List Vector) (ns : List Float) → ns ≡ flat point_row ps → Writes (32 ∷ 40 ∷ line_word) xs c ys d → length ys ≡ length xs
      → Writes (numbers_text ns) ys d zs e → length zs ≡ length ys → Writes (41 ∷ []) zs e us f → length us ≡ length zs → Writes (line_text ps) xs c us f
  unfolding line_text
  line-put ps ns q p l r m s k =
      let n = numbers_text (flat point_row ps) in
      writes-last (41 ∷ []) (writing-turn n (41 ∷ []) (writing-turn (32 ∷ 40 ∷ line_word) (n ++ (41 ∷ [])) (writing_start h) p l) (writes_as (ap numbers_text q) r) m) s k

-- ---- the loop over the lines of entry i
flat-both : {A : Type 0} (g : A → List ℕ) (ks ls : List A) → flat g (ks ++ ls) ≡ flat g ks ++ flat g ls
unfolding flat
flat-both g [] ls = refl
flat-both g (k ∷ ks) ls = rw (flat-both g ks ls, append_assoc)

module _ (i j : ℕ) (vs : List Vector) (ss owners : List ℕ) {xs : List ℕ} {c : Result ℕ Refusal} where
  not-owned : owned_by owners j i ≡ false → CountWithin c (length xs) → Writes (flat line_text (own_path i j vs ss owners)) xs c xs c
  unfolding own_path flat
  not-owned e h = rw e (writes_nothing h)

  pub late-owner : length owners ≤ j → CountWithin c (length xs) → Writes (flat line_text (own_path i j vs ss owners)) xs c xs c
  unfolding owned_by
  late-owner l h = not-owned (rw (le-ltb j (length owners) l)) h

  pub other-owner : {o k : ℕ} → o ≡ k → k ≡ get_or owners j 0 → (o ≡ i → ⊥) → CountWithin c (length xs) → Writes (flat line_text (own_path i j vs ss owners)) xs c xs c
  unfolding owned_by
  other-owner {o} {k} p q n h = not-owned (rw (ne_eqb (get_or owners j 0) i (λ e. n (p ∙ q ∙ e)), and-false (ltb j (length owners)))) h

  pub own_line : {o k : ℕ} → j < length owners → o ≡ k → k ≡ get_or owners j 0 → o ≡ i → {ys : List ℕ} {d : Result ℕ Refusal} → Writes (line_text (slice (get_or ss j 0) (end_of (length vs) ss j) vs)) xs c ys d
      → Writes (flat line_text (own_path i j vs ss owners)) xs c ys d
  unfolding own_path owned_by flat
  own_line {o} {k} l p q e w =
      rw (lt-ltb j (length owners) l, eq-eqb (get_or owners j 0) i (sym q ∙ sym p ∙ e))
      (writes_as (sym (append-nil (line_text (slice (get_or ss j 0) (end_of (length vs) ss j) vs)))) w)

module _ {w xs : List ℕ} {c : Result ℕ Refusal} {ys : List ℕ} {d : Result ℕ Refusal} (i : ℕ) (vs : List Vector) (ss owners : List ℕ) (j : ℕ) where
  pub lines-turn : {zs : List ℕ} {e : Result ℕ Refusal} → j < length ss → Writing w xs c ys d (flat line_text (ownLeft i vs ss owners j)) → Writes (flat line_text (own_path i j vs ss owners)) ys d zs e
      → length zs ≡ length ys → Writing w xs c zs e (flat line_text (ownLeft i vs ss owners (j + 1)))
  lines-turn l h k m =
      let s = ap (flat line_text) (own_turn i vs ss owners j l) ∙ flat-both line_text (own_path i j vs ss owners) (ownLeft i vs ss owners (j + 1)) in
      writing-turn (flat line_text (own_path i j vs ss owners)) (flat line_text (ownLeft i vs ss owners (j + 1))) (writing-as s h) k m

  pub lines_end : length ss ≤ j → Writing w xs c ys d (flat line_text (ownLeft i vs ss owners j)) → Writes w xs c ys d
  unfolding flat
  lines_end l h = writing-end (writing-as (ap (flat line_text) (own-end i vs ss owners j l)) h)
