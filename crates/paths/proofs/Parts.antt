-- A path as a part of a lent slice's points. Assumes nothing.
use mathlib.Core.Path.{◌≡◌, refl, sym, ap, ◌∙◌}
use mathlib.Core.Logic.{◌⊎◌, inl, inr}
use mathlib.Core.Bool.{Bool, true, false, cond}
use mathlib.Core.List.{List, ◌∷◌}
use Prim.Native.Nat.{ℕ, ◌+◌, ◌-◌, ◌*◌, ◌≤◌, ◌<◌}
use native.Mathlib.Nat.{add-zero}
use native.Mathlib.Numerals.{add-one}
use native.Mathlib.Omega.{arith}
use borrow.Author.Tests.{ltb-true, ltb-false}
use lib.Dec.{ltb}
use lib.ListN.{length, take, drop, get_or, length-take, drop_of_length-le}
use lib.Seq.{slice, slice-cons, slice_empty, length-slice, get_or-take, get_or-drop, take-take, drop-drop, take_all, length-take-le}
use lib.Ieee.{Float}
use Rattle.geometry.specs.declared.vector.Vector.{Vector}
use Rattle.rows.specs.Rows.{row}
use Rattle.rows.specs.Points.{points, point_of}
use Rattle.rows.specs.Starts.{end_of}
use Rattle.rows.proofs.Rows.{length-view, get_d-view, view-take, take-drop}
use Rattle.paths.specs.Ends.{places, all_points, nowhere}
use Rattle.paths.specs.Ranges.{lesser_of, range_of}
use Rattle.paths.specs.declared.Range.{Range}

pub length-points : (n : ℕ) (xs : List Float) → length (points n xs) ≡ n
length-points n xs = length-view 3 point_of n xs

-- the part of a slice that holds n points
module _ (xs : List Float) (n : ℕ) (fit : n * 3 ≤ length xs) where
  pub part-places : places (take (n * 3) xs) ≡ n
  part-places = let e = length-take-le (n * 3) xs fit in omega arith

  pub part-all : all_points (take (n * 3) xs) ≡ points n xs
  part-all = ap (λ (m : ℕ). points m (take (n * 3) xs)) part-places ∙ view-take 3 point_of n xs fit

-- ---- a path from `from` up to `end`
module _ (path : List Float) (from end : ℕ) (fit : end * 3 ≤ length path) where
  pub part_length : length (slice from end (all_points path)) ≡ end - from
  part_length = length-slice from end (all_points path) (rw (length-points (places path) path) (omega arith))

  pub part_at : (i : ℕ) → from + i < end → point_of (row 3 (from + i) path) ≡ get_or (slice from end (all_points path)) i nowhere
  part_at i h =
      sym (get_or-drop from (take end (all_points path)) i nowhere
      ∙ get_or-take end (all_points path) (from + i) nowhere h
      ∙ get_d-view 3 point_of (places path) (from + i) path nowhere (omega arith))

  pub part-first : from < end → point_of (row 3 from path) ≡ get_or (slice from end (all_points path)) 0 nowhere
  part-first h = ap (λ (j : ℕ). point_of (row 3 j path)) (sym (add-zero from)) ∙ part_at 0 (rw add-zero h)

  pub part-last : from < end → point_of (row 3 (end - 1) path) ≡ get_or (slice from end (all_points path)) (end - from - 1) nowhere
  part-last h =
      let e : end - 1 ≡ from + (end - from - 1) = omega arith in
      ap (λ (j : ℕ). point_of (row 3 j path)) e ∙ part_at (end - from - 1) (omega arith)

  pub part-cons : (v : Vector) → from < end → v ≡ point_of (row 3 from path) → slice from end (all_points path) ≡ v ∷ slice (from + 1) end (all_points path)
  part-cons v l e =
      let s : slice from end (all_points path) ≡ get_or (all_points path) from nowhere ∷ slice (from + 1) end (all_points path)
      = rw add-one (slice-cons from end (all_points path) nowhere l (rw (length-points (places path) path) (omega arith))) in
      let g : get_or (all_points path) from nowhere ≡ v = get_d-view 3 point_of (places path) from path nowhere (omega arith) ∙ sym e in
      s ∙ ap (λ (x : Vector). x ∷ slice (from + 1) end (all_points path)) g

-- a part's own parts
module _ {A : Type 0} (from end k : ℕ) (l : List A) where
  pub slice-take : from + k ≤ end → take k (slice from end l) ≡ slice from (from + k) l
  slice-take h = take-drop k from (take end l) ∙ ap (drop from) (take-take (from + k) end l h)

  pub slice-drop : drop k (slice from end l) ≡ slice (from + k) end l
  slice-drop = drop-drop k from (take end l)

-- ---- ends that are drawn in leave the part as it is
lesser-cases : (a b : ℕ) → ((lesser_of a b ≡ a) × (a ≤ b)) ⊎ ((lesser_of a b ≡ b) × (b ≤ a))
unfolding lesser_of
lesser-cases a b = by (ltb b a) (ltb-true b a) (ltb-false b a)
  where
    by : (t : Bool) → (t ≡ true → b < a) → (t ≡ false → a ≤ b) → ((cond t b a ≡ a) × (a ≤ b)) ⊎ ((cond t b a ≡ b) × (b ≤ a))
    by true h g = inr (refl, omega (arith, h refl))
    by false h g = inl (refl, g refl)

pub lesser-low : (a b : ℕ) → (lesser_of a b ≤ a) × (lesser_of a b ≤ b)
lesser-low a b = by (lesser-cases a b)
  where
    by : ((lesser_of a b ≡ a) × (a ≤ b)) ⊎ ((lesser_of a b ≡ b) × (b ≤ a)) → (lesser_of a b ≤ a) × (lesser_of a b ≤ b)
    by (inl h) = (omega arith, omega arith)
    by (inr h) = (omega arith, omega arith)

module _ {A : Type 0} (s e : ℕ) (l : List A) where
  slice-within : slice s (lesser_of e (length l)) l ≡ slice s e l
  slice-within = by (lesser-cases e (length l))
    where
      by : ((lesser_of e (length l) ≡ e) × (e ≤ length l)) ⊎ ((lesser_of e (length l) ≡ length l) × (length l ≤ e)) → slice s (lesser_of e (length l)) l ≡ slice s e l
      by (inl h) = rw h.0
      by (inr h) = rw h.0 (ap (drop s) (take_all (length l) l (omega arith) ∙ sym (take_all e l h.1)))

  slice-ordered : slice (lesser_of s e) e l ≡ slice s e l
  slice-ordered = by (lesser-cases s e)
    where
      by : ((lesser_of s e ≡ s) × (s ≤ e)) ⊎ ((lesser_of s e ≡ e) × (e ≤ s)) → slice (lesser_of s e) e l ≡ slice s e l
      by (inl h) = rw h.0
      by (inr h) = rw h.0 (slice_empty e l ∙ sym (drop_of_length-le (take e l) {i = s} (rw (length-take e l) (omega (arith, h.1)))))

module _ (path : List Float) (starts : List ℕ) (i : ℕ) (p : Range) (is : p ≡ range_of (places path) starts i) where
  pub range-fits : (p.from ≤ p.end) × (p.end * 3 ≤ length path)
  unfolding range_of
  range-fits =
      let e = lesser_of (end_of (places path) starts i) (places path) in
      let f : p.from ≡ lesser_of (get_or starts i 0) e = ap (λ (x : Range). x.from) is in
      let g : p.end ≡ e = ap (λ (x : Range). x.end) is in
      (omega (arith, (lesser-low (get_or starts i 0) e).1), omega (arith, (lesser-low (end_of (places path) starts i) (places path)).1))

  pub span-slice : slice p.from p.end (all_points path) ≡ slice (get_or starts i 0) (end_of (length (all_points path)) starts i) (all_points path)
  unfolding range_of
  span-slice =
      let l = all_points path in
      let s = get_or starts i 0 in
      let n : places path ≡ length l = sym (length-points (places path) path) in
      let e = end_of (places path) starts i in
      let f : p.from ≡ lesser_of s (lesser_of e (places path)) = ap (λ (x : Range). x.from) is in
      let g : p.end ≡ lesser_of e (places path) = ap (λ (x : Range). x.end) is in
      rw (f, g)
      (slice-ordered s (lesser_of e (places path)) l
      ∙ ap (λ (m : ℕ). slice s (lesser_of e m) l) n
      ∙ slice-within s e l
      ∙ ap (λ (m : ℕ). slice s (end_of m starts i) l) n)
