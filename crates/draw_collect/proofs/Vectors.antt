-- Parts of a slice that were lent and came back: the rest from one place on, and the second of two vectors. Assumes nothing.
use mathlib.Core.Path.{◌≡◌, ap, ◌∙◌}
use mathlib.Core.List.{List, ◌++◌, append-nil}
use Prim.Native.Nat.{ℕ, ◌+◌, ◌-◌, ◌≤◌}
use native.Mathlib.Omega.{arith}
use borrow.Rule.Slice.PartMut.{put_mid}
use lib.ListN.{length, take, drop, length-drop, drop_of_length-le}
use lib.Seq.{take_all, take_at, drop_at, length-take-le}

module _ {A : Type 0} (xs : List A) where
  -- ---- the rest from a on
  module _ (a : ℕ) (h : a ≤ length xs) where
    pub rest_is : take (length xs - a) (drop a xs) ≡ drop a xs
    rest_is = take_all (length xs - a) (drop a xs) (simp length-drop (omega arith))

    pub put_rest : (ys : List A) → put_mid a (length xs - a) xs ys ≡ take a xs ++ ys
    put_rest ys = rw (drop_of_length-le (drop a xs) {i = length xs - a} (simp length-drop (omega arith)), append-nil ys)

    pub rest-after : (ys : List A) → drop a (put_mid a (length xs - a) xs ys) ≡ ys
    rest-after ys = ap (drop a) (put_rest ys) ∙ drop_at (take a xs) ys a (length-take-le a xs h)

  -- ---- the second of two vectors with w elements each
  module _ (w : ℕ) (h : w + w ≤ length xs) where
    pub second_is : take (w + w - w) (drop w xs) ≡ take w (drop w xs)
    second_is = let e : w + w - w ≡ w = omega arith in ap (λ (k : ℕ). take k (drop w xs)) e

    pub second-length : length (take w (drop w xs)) ≡ w
    second-length = length-take-le w (drop w xs) (simp length-drop (omega arith))

    pub second-after : (ys : List A) → length ys ≡ length (take (w + w - w) (drop w xs)) → take w (drop w (put_mid w (w + w - w) xs ys)) ≡ ys
    second-after ys e =
        ap (take w) (drop_at (take w xs) (ys ++ drop (w + w - w) (drop w xs)) w (length-take-le w xs (omega arith)))
        ∙ take_at ys (drop (w + w - w) (drop w xs)) w (e ∙ ap length second_is ∙ second-length)
