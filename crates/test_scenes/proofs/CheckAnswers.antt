-- The answers of the check, one after the other. Assumes nothing.
use mathlib.Core.Path.{◌≡◌, ap, ◌∙◌}
use mathlib.Core.Bool.{Bool, true, false}
use mathlib.Core.List.{List}
use Prim.Native.Nat.{ℕ, ◌+◌, ◌-◌, ◌*◌, ◌%◌}
use native.Mathlib.Omega.{arith}
use lib.Dec.{eqb}
use lib.ListN.{take, drop, get_or}
use lib.Ieee.{Float}
use Rattle.floats.specs.Arith.{zero_f}
use Rattle.rows.specs.Rows.{row, padded}
use Rattle.check_scene.specs.Checks.{check_of, if_accepted}
use Rattle.scene.specs.Scenes.{Scene}
use Rattle.test_words.specs.Words.{word_at, all_same}
use Rattle.test_scenes.specs.Records.{number_right, count_right, box_row_right, inverse_row_right, drawn_row_right, check_right}
use Rattle.refusals.specs.declared.Refusal.{Refusal}
use Rattle.std.specs.Prelude.{Result}

-- ---- a word of the record against an answer
pub is-so : (r : List ℕ) (j : ℕ) {a : Bool} {n m : ℕ} → a ≡ eqb (word_at r j) n → n ≡ m → a ≡ eqb (word_at r j) m
is-so r j h e = h ∙ ap (λ (k : ℕ). eqb (word_at r j) k) e

-- ---- row i of a slice, as the code reads it
module _ {v w : Result ℕ Refusal} (told : v ≡ w) (r : List ℕ) {n : ℕ} (at : n ≡ word_at r 5) {a : Bool} where
  pub as_row : (m j : ℕ) {L M : ℕ} (l : List Float) {xs : List Float} → L ≡ M → xs ≡ padded zero_f L (if_accepted v l) → a ≡ all_same (take (n % 1024 * m + m - n % 1024 * m) (drop (n % 1024 * m) xs)) r j → a ≡ all_same (row m (word_at r 5 % 1024) (padded zero_f M (if_accepted w l))) r j
  as_row m j l e left h = let q : n % 1024 * m + m - n % 1024 * m ≡ m = omega arith in h ∙ rw (q, left, at, told, e)

  pub as-drawn : (l : List ℕ) {L : ℕ} {xs : List ℕ} → L ≡ 1024 → xs ≡ padded 0 L (if_accepted v l) → a ≡ eqb (word_at r 245) (get_or xs (n % 1024) 0) → a ≡ eqb (word_at r 245) (get_or (padded 0 1024 (if_accepted w l)) (word_at r 5 % 1024) 0)
  as-drawn l e left h = h ∙ rw (left, at, told, e)

-- ---- the answers of the check in their order
module _ (x : Scene) (r : List ℕ) {a : Bool} (ea : a ≡ number_right (check_of x) r) where
  pub number-wrong : a ≡ false → false ≡ check_right x r
  unfolding check_right
  number-wrong f = rw (← ea, f)

  module _ (ta : a ≡ true) {b : Bool} (eb : b ≡ count_right (check_of x) r) where
    pub count-wrong : b ≡ false → false ≡ check_right x r
    unfolding check_right
    count-wrong f = rw (← ea, ta, ← eb, f)

    module _ (tb : b ≡ true) {c : Bool} (ec : c ≡ box_row_right x (check_of x) r) where
      pub box-wrong : c ≡ false → false ≡ check_right x r
      unfolding check_right
      box-wrong f = rw (← ea, ta, ← eb, tb, ← ec, f)

      module _ (tc : c ≡ true) {d : Bool} (ed : d ≡ inverse_row_right x (check_of x) r) where
        pub inverse-wrong : d ≡ false → false ≡ check_right x r
        unfolding check_right
        inverse-wrong f = rw (← ea, ta, ← eb, tb, ← ec, tc, ← ed, f)

        pub check-right-is : d ≡ true → {e : Bool} → e ≡ drawn_row_right x (check_of x) r → e ≡ check_right x r
        unfolding check_right
        check-right-is td ee = rw (← ea, ta, ← eb, tb, ← ec, tc, ← ed, td, ← ee)
