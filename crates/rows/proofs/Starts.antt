-- Laws of path starts. Assumes nothing.
use mathlib.Core.Path.{◌≡◌, refl, sym, ap, ◌∙◌}
use mathlib.Core.Bool.{true, false, ◌&&◌, and-eq-true_iff}
use mathlib.Core.List.{List, [], ◌∷◌}
use Prim.Native.Nat.{ℕ, zero, suc, ◌+◌, ◌≤◌, ◌<◌, suc-le-suc}
use native.Mathlib.Nat.{suc-add}
use native.Mathlib.Numerals.{add-one}
use native.Mathlib.Omega.{arith}
use borrow.Author.Tests.{leb-true, le-leb, lt-leb, eqb-true, eq-eqb, ne_eqb}
use lib.Dec.{leb, eqb}
use lib.ListN.{length, drop, get_or, drop_of_length-le}
use lib.Seq.{drop-cons}
use Rattle.rows.specs.Starts.{next_start, end_of, rising, good_starts}

-- ---- where a path ends
module _ (starts : List ℕ) (points i : ℕ) where
  pub end-next : i + 1 < length starts → get_or starts (i + 1) 0 ≡ end_of points starts i
  end-next h = rw (drop-cons starts (i + 1) 0 h)

  pub end-last : length starts ≤ i + 1 → points ≡ end_of points starts i
  end-last h = rw (drop_of_length-le starts {i = i + 1} h)

-- ---- the loop of the check: what is left of it answers as the whole does
pub record Rising (points : ℕ) (starts : List ℕ) (i : ℕ) : Type 0 where
  pub upto : i ≤ length starts
  pub left : rising points (drop i starts) ≡ rising points starts

module _ (points : ℕ) (starts : List ℕ) where
  pub rising-start : Rising points starts 0
  rising-start = record { upto = omega arith; left = refl }

  module _ (i : ℕ) (h : Rising points starts i) (l : i < length starts) (end : ℕ) (is : end ≡ end_of points starts i) where
    rising-next : rising points starts ≡ leb (get_or starts i 0) end && rising points (drop (i + 1) starts)
    unfolding rising
    rising-next = sym h.left ∙ rw (drop-cons starts i 0 l, is, add-one)

    pub rising-turn : get_or starts i 0 ≤ end → Rising points starts (i + 1)
    rising-turn q = record { upto = omega arith; left = sym (rising-next ∙ rw (le-leb (get_or starts i 0) end q)) }

    pub rising-falls : end < get_or starts i 0 → false ≡ rising points starts
    rising-falls q = sym (rising-next ∙ rw (lt-leb (get_or starts i 0) end q))

  pub rising-end : (i : ℕ) → Rising points starts i → length starts ≤ i → true ≡ rising points starts
  unfolding rising
  rising-end i h l = sym (ap (rising points) (drop_of_length-le starts {i = i} l)) ∙ h.left

-- ---- the check of the first start
pub good_none : (points : ℕ) (starts : List ℕ) → length starts ≡ 0 → true ≡ good_starts points starts
unfolding good_starts
good_none points [] h = refl
good_none points (s ∷ starts) h = absurd (omega arith)

good-first : (points : ℕ) (starts : List ℕ) → (length starts ≡ 0 → ⊥) → good_starts points starts ≡ eqb (get_or starts 0 0) 0 && rising points starts
unfolding good_starts
good-first points [] h = absurd (h refl)
good-first points (s ∷ starts) h = refl

module _ (points : ℕ) (starts : List ℕ) (some : length starts ≡ 0 → ⊥) where
  pub good-late : (get_or starts 0 0 ≡ 0 → ⊥) → false ≡ good_starts points starts
  good-late h = sym (good-first points starts some ∙ rw (ne_eqb (get_or starts 0 0) 0 h))

  pub good-from-zero : get_or starts 0 0 ≡ 0 → rising points starts ≡ good_starts points starts
  good-from-zero h = sym (good-first points starts some ∙ rw (eq-eqb (get_or starts 0 0) 0 h))

-- ---- starts that pass: the first is 0, and each path goes from its start to its end, within the points
pub record Parted (points : ℕ) (starts : List ℕ) : Type 0 where
  pub begins : get_or starts 0 0 ≡ 0
  pub ordered : (i : ℕ) → i < length starts → get_or starts i 0 ≤ end_of points starts i
  pub within : (i : ℕ) → i < length starts → end_of points starts i ≤ points

module _ (points : ℕ) where
  rising-opens : (s : ℕ) (starts : List ℕ) → rising points (s ∷ starts) ≡ true → (s ≤ next_start points starts) × (rising points starts ≡ true)
  unfolding rising
  rising-opens s starts h =
      let b = (and-eq-true_iff (leb s (next_start points starts)) (rising points starts)).0 h in
      (leb-true s (next_start points starts) b.0, b.1)

  rising-drop : (i : ℕ) (starts : List ℕ) → rising points starts ≡ true → rising points (drop i starts) ≡ true
  rising-drop zero starts h = h
  rising-drop (suc i) [] h = h
  rising-drop (suc i) (s ∷ starts) h = rising-drop i starts (rising-opens s starts h).1

  rising-within : (starts : List ℕ) → rising points starts ≡ true → next_start points starts ≤ points
  rising-within [] h = omega arith
  rising-within (s ∷ starts) h = omega (arith, (rising-opens s starts h).0, rising-within starts (rising-opens s starts h).1)

  good-opens : (starts : List ℕ) → good_starts points starts ≡ true → (get_or starts 0 0 ≡ 0) × (rising points starts ≡ true)
  unfolding good_starts rising
  good-opens [] h = (refl, refl)
  good-opens (s ∷ starts) h = let b = (and-eq-true_iff (eqb s 0) (rising points (s ∷ starts))).0 h in (eqb-true s 0 b.0, b.1)

  pub good-parted : (starts : List ℕ) → good_starts points starts ≡ true → Parted points starts
  good-parted starts h =
      let r = (good-opens starts h).1 in
      record {
        begins = (good-opens starts h).0;
        ordered = λ i l. (rising-opens (get_or starts i 0) (drop (i + 1) starts) (rw (add-one, ← drop-cons starts i 0 l) (rising-drop i starts r))).0;
        within = λ i l. rising-within (drop (i + 1) starts) (rising-drop (i + 1) starts r);
      }

  rises : (starts : List ℕ) → ((i : ℕ) → i < length starts → get_or starts i 0 ≤ end_of points starts i) → rising points starts ≡ true
  unfolding rising
  rises [] h = refl
  rises (s ∷ starts) h = rw (le-leb s (next_start points starts) (h 0 (omega arith))) (rises starts (λ i l. rw (suc-add i 1) at (h (suc i) (suc-le-suc l))))

  -- and all such starts pass
  pub parted-good : (starts : List ℕ) → Parted points starts → good_starts points starts ≡ true
  unfolding good_starts
  parted-good [] p = refl
  parted-good (s ∷ starts) p = rw (eq-eqb s 0 p.begins) (rises (s ∷ starts) p.ordered)
