-- A slice that is cleared from its first place on. Assumes nothing.
use mathlib.Core.Path.{◌≡◌, ◌∙◌}
use mathlib.Core.List.{List, ◌++◌}
use Prim.Native.Nat.{◌-◌}
use native.Mathlib.Nat.{sub-zero}
use lib.ListN.{length, take, replicate}

pub cleared : {A : Type 0} (z : A) (xs : List A) {ys : List A} → ys ≡ take 0 xs ++ replicate (length xs - 0) z → ys ≡ replicate (length xs) z
cleared z xs h = h ∙ rw sub-zero
