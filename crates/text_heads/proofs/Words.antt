-- Two words compared byte by byte. Assumes nothing.
use Prim.Native.Nat.{ℕ, suc, ◌+◌, ◌≤◌, ◌<◌}
use mathlib.Core.Path.{◌≡◌, refl, sym, ap, ◌∙◌}
use mathlib.Core.Bool.{Bool, true, false, ◌&&◌}
use mathlib.Core.List.{List, [], ◌∷◌}
use native.Mathlib.Numerals.{add-one}
use native.Mathlib.Omega.{arith}
use lib.Dec.{eqb}
use lib.ListN.{length, drop, get_or, drop_of_length-le}
use lib.Seq.{drop-cons}
use borrow.Author.Tests.{eq-eqb, ne_eqb}
use Rattle.text_heads.specs.Heads.{same_word}

and-false : (b : Bool) → (b && false) ≡ false
and-false true = refl
and-false false = refl

pub same-lengths : (w v : List ℕ) → (length w ≡ length v → ⊥) → false ≡ same_word w v
unfolding same_word
same-lengths [] [] h = absurd (h refl)
same-lengths [] (b ∷ v) h = refl
same-lengths (a ∷ w) [] h = refl
same-lengths (a ∷ w) (b ∷ v) h = rw (← same-lengths w v (λ e. h (ap suc e)), and-false)

-- the first i bytes are alike
pub record Alike (w v : List ℕ) (i : ℕ) : Type 0 where
  pub upto : i ≤ length w
  pub even : length w ≡ length v
  pub left : same_word (drop i w) (drop i v) ≡ same_word w v

module _ (w v : List ℕ) where
  pub alike-start : length w ≡ length v → Alike w v 0
  alike-start e = record { upto = omega arith; even = e; left = refl }

  module _ (i : ℕ) (h : Alike w v i) (l : i < length w) where
    next : same_word w v ≡ (eqb (get_or w i 0) (get_or v i 0) && same_word (drop (i + 1) w) (drop (i + 1) v))
    unfolding same_word
    next = sym h.left ∙ rw (drop-cons w i 0 l, drop-cons v i 0 (omega (arith, l, h.even)), add-one i)

    pub alike-turn : get_or w i 0 ≡ get_or v i 0 → Alike w v (i + 1)
    alike-turn q = record { upto = omega arith; even = h.even; left = sym (next ∙ rw (eq-eqb (get_or w i 0) (get_or v i 0) q)) }

    pub alike-falls : (get_or w i 0 ≡ get_or v i 0 → ⊥) → false ≡ same_word w v
    alike-falls q = sym (next ∙ rw (ne_eqb (get_or w i 0) (get_or v i 0) q))

  pub alike_end : (i : ℕ) → Alike w v i → length w ≤ i → true ≡ same_word w v
  unfolding same_word
  alike_end i h l = sym (rw (drop_of_length-le w {i = i} l, drop_of_length-le v {i = i} (omega (arith, l, h.even)))) ∙ h.left
