-- The loops that count wrong records. Assumes nothing.
use mathlib.Core.Path.{◌≡◌, refl, ap, ◌∙◌}
use mathlib.Core.Bool.{Bool}
use Prim.Native.Nat.{ℕ, ◌+◌, ◌≤◌, ◌<◌}
use native.Mathlib.Numerals.{add-one}
use native.Mathlib.Omega.{arith}
use Rattle.test_words.specs.Counts.{missed, wrong_upto}

-- n of the first i records are wrong, of so many in all
pub record Counted (right : ℕ → Bool) (all n i : ℕ) : Type 0 where
  pub upto : i ≤ all
  pub count : n ≡ wrong_upto right i
  pub few : n ≤ i

module _ (right : ℕ → Bool) (all : ℕ) where
  pub counted_start : Counted right all 0 0
  unfolding wrong_upto
  counted_start = record { upto = omega arith; count = refl; few = omega arith }

  -- one record more
  pub counted-turn : (n i : ℕ) {m : ℕ} {b : Bool} → Counted right all n i → i < all → b ≡ right i → (m ≡ missed b) × (m ≤ 1) → Counted right all (n + m) (i + 1)
  unfolding wrong_upto
  counted-turn n i h l e q = record { upto = omega arith; count = rw (add-one, h.count, q.0, e); few = omega (arith, h.few, q.1) }

  pub counted-end : (n i : ℕ) → Counted right all n i → all ≤ i → n ≡ wrong_upto right all
  counted-end n i h l = let e : i ≡ all = omega (arith, h.upto) in h.count ∙ ap (wrong_upto right) e
