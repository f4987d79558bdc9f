-- A range cut down by two lesser numbers. Assumes nothing.
use Prim.Native.Nat.{ℕ, ◌+◌, ◌-◌, ◌≤◌, ◌<◌}
use mathlib.Core.Path.{◌≡◌, sym, ap, ◌∙◌}
use mathlib.Core.Logic.{◌⊎◌, inl, inr}
use mathlib.Core.List.{List}
use native.Mathlib.Omega.{arith}
use borrow.Author.Tests.{lt-ltb, le-ltb}
use lib.ListN.{length, take, drop, length-drop, drop_of_length-le}
use lib.Seq.{take_all}
use Rattle.floats.proofs.Order.{le-or-lt}
use Rattle.paths.specs.Ranges.{lesser_of}
use Rattle.draw_ranges.specs.Ranges.{range_within}
use Rattle.draw_ranges.specs.declared.EntryRange.{EntryRange}

lesser-low : (a b : ℕ) → lesser_of a b ≤ b
unfolding lesser_of
lesser-low a b = by (le-or-lt a b)
  where
    by : (a ≤ b) ⊎ (b < a) → lesser_of a b ≤ b
    by (inl h) = rw (le-ltb b a h) h
    by (inr h) = rw (lt-ltb b a h) (omega arith)

pub low-lesser : (a b : ℕ) {i : ℕ} → i ≡ lesser_of a b → i ≤ b
low-lesser a b e = omega (arith, e, lesser-low a b)

take-lesser : (a b : ℕ) (l : List ℕ) → length l ≤ b → take (lesser_of a b) l ≡ take a l
unfolding lesser_of
take-lesser a b l h = by (le-or-lt a b)
  where
    by : (a ≤ b) ⊎ (b < a) → take (lesser_of a b) l ≡ take a l
    by (inl k) = rw (le-ltb b a k)
    by (inr k) = rw (lt-ltb b a k) (take_all b l h ∙ sym (take_all a l (omega arith)))

drop-lesser : (a b : ℕ) (l : List ℕ) → length l ≡ b → drop (lesser_of a b) l ≡ drop a l
unfolding lesser_of
drop-lesser a b l h = by (le-or-lt a b)
  where
    by : (a ≤ b) ⊎ (b < a) → drop (lesser_of a b) l ≡ drop a l
    by (inl k) = rw (le-ltb b a k)
    by (inr k) = rw (lt-ltb b a k) (drop_of_length-le l {i = b} (omega (arith, h)) ∙ sym (drop_of_length-le l {i = a} (omega (arith, h))))

-- ---- the range that is cut down
pub range-is : (first many n : ℕ) {i j : ℕ} → i ≡ lesser_of first n → j ≡ lesser_of many (n - i) → record { first = i; many = j } ≡ range_within first many n
unfolding range_within
range-is first many n ei ej = rw (ej, ei)

module _ (first many n : ℕ) {r : EntryRange} (e : r ≡ range_within first many n) where
  -- it lies within the n entries
  pub range-low : r.first + r.many ≤ n
  unfolding range_within
  range-low = rw e (omega (arith, lesser-low first n, lesser-low many (n - lesser_of first n)))

  -- and has of any n entries those that were asked for
  pub range_same : (l : List ℕ) → length l ≡ n → take r.many (drop r.first l) ≡ take many (drop first l)
  unfolding range_within
  range_same l h =
      rw e (take-lesser many (n - lesser_of first n) (drop (lesser_of first n) l) (omega (arith, length-drop (lesser_of first n) l)))
      ∙ ap (take many) (drop-lesser first n l h)
