-- The table's rule: one test that antt computes over the whole table, and what it says of each entry. Assumes nothing.
use mathlib.Core.Path.{◌≡◌, refl, ap}
use mathlib.Core.Bool.{Bool, true, false, ◌&&◌, ◌||◌, beq}
use Prim.Native.Nat.{ℕ, ◌+◌, ◌*◌, ◌%◌, ◌^◌, ◌<◌, ◌≤◌}
use native.Mathlib.Omega.{arith}
use borrow.Author.Tests.{ne_eqb, le-ltb}
use lib.Dec.{T, leb, ltb, eqb, eqb→eq, leb→le}
use lib.IntN.{ℤ, pos, negsuc, neg_ℤ, nat_abs, ◌-ℤ◌, ◌+ℤ◌, ◌*ℤ◌}
use lib.Ieee.{Float, nan, inf, fin, up, down, mul, of_int, of_bits}
use lib.Ieee.Exact.{HasValue}
use lib.Ieee.Fits.{and_l, and_r}
use lib.ListN.{length}
use lib.Signed.{lt_z}
use Rattle.lists.specs.Lists.{all_of}
use Rattle.lists.proofs.Tests.{all-at}
use Rattle.degrees.specs.Table.{degree_table}
use Rattle.degrees.specs.Degrees.{cosine_units, sine_units, from_units}
use Rattle.degrees.specs.Rule.{Within54, TableRule, ExactUnits, ExactEntries}

-- ---- the clauses as tests
same : ℤ → ℤ → Bool
same (pos m) (pos n) = eqb m n
same (negsuc m) (negsuc n) = eqb m n
same (pos m) (negsuc n) = false
same (negsuc m) (pos n) = false

near : ℤ → ℤ → Bool
near y z = leb (nat_abs (y -ℤ z)) (2 ^ 54)

value : Float → Bool → ℕ → ℕ → Bool
value nan s a c = false
value (inf t) s a c = false
value (fin t m e) s a c = beq t s && eqb (m * up e * c) (a * down e)

exact : ℤ → Bool
exact z = leb (nat_abs z) (2 ^ 53) && value (from_units z) (lt_z z (pos 0)) (nat_abs z) (2 ^ 53)

quarter : ℕ → Bool
quarter a = same (cosine_units (a + 90)) (neg_ℤ (sine_units a)) && same (sine_units (a + 90)) (cosine_units a)

positive : ℕ → Bool
positive a = eqb a 0 || ltb 179 a || lt_z (pos 0) (sine_units a)

next₁ : ℕ → Bool
next₁ a = near (pos (2 ^ 53) *ℤ cosine_units (a + 1)) (cosine_units a *ℤ cosine_units 1 -ℤ sine_units a *ℤ sine_units 1)

next₂ : ℕ → Bool
next₂ a = near (pos (2 ^ 53) *ℤ sine_units (a + 1)) (cosine_units a *ℤ sine_units 1 +ℤ sine_units a *ℤ cosine_units 1)

exacts : ℕ → Bool
exacts a = exact (cosine_units a) && exact (sine_units a)

test : ℕ → Bool
test a = (quarter a && positive a) && ((next₁ a && next₂ a) && exacts a)

passed : all_of test 360 ≡ true
unfolding test quarter positive next₁ next₂ exacts exact all_of degree_table cosine_units sine_units from_units same near value mul of_int of_bits
passed = refl

-- ---- what the tests say
same-eq : (y z : ℤ) → T (same y z) → y ≡ z
unfolding same
same-eq (pos m) (pos n) t = ap pos (eqb→eq m n t)
same-eq (negsuc m) (negsuc n) t = ap negsuc (eqb→eq m n t)
same-eq (pos m) (negsuc n) t = absurd t
same-eq (negsuc m) (pos n) t = absurd t

near_within : (y z : ℤ) → T (near y z) → Within54 y z
unfolding near
near_within y z t = leb→le _ _ t

alike : (s t : Bool) → T (beq s t) → s ≡ t
alike true true e = refl
alike true false e = absurd e
alike false true e = absurd e
alike false false e = refl

value-is : (x : Float) (s : Bool) (a c : ℕ) → T (value x s a c) → HasValue x s a c
unfolding value
value-is nan s a c t = absurd t
value-is (inf u) s a c t = absurd t
value-is (fin u m e) s a c t = (
  alike u s (and_l (beq u s) (eqb (m * up e * c) (a * down e)) t),
  eqb→eq (m * up e * c) (a * down e) (and_r (beq u s) (eqb (m * up e * c) (a * down e)) t),
)

exact-is : (z : ℤ) → T (exact z) → ExactUnits z
unfolding exact
exact-is z t = record {
  within = leb→le _ _ (and_l (leb (nat_abs z) (2 ^ 53)) (value (from_units z) (lt_z z (pos 0)) (nat_abs z) (2 ^ 53)) t);
  value = value-is _ _ _ _ (and_r (leb (nat_abs z) (2 ^ 53)) (value (from_units z) (lt_z z (pos 0)) (nat_abs z) (2 ^ 53)) t);
}

-- ---- at an entry below 360
module _ (a : ℕ) (h : a < 360) where
  passes : T (test a)
  passes = rw (all-at test 360 a passed h) tt

  one : T (quarter a && positive a)
  unfolding test
  one = and_l (quarter a && positive a) ((next₁ a && next₂ a) && exacts a) passes

  two : T ((next₁ a && next₂ a) && exacts a)
  unfolding test
  two = and_r (quarter a && positive a) ((next₁ a && next₂ a) && exacts a) passes

  quarter-at : (cosine_units (a + 90) ≡ neg_ℤ (sine_units a)) × (sine_units (a + 90) ≡ cosine_units a)
  unfolding quarter
  quarter-at =
      let t : T (quarter a) = and_l (quarter a) (positive a) one in
      let l : T (same (cosine_units (a + 90)) (neg_ℤ (sine_units a))) = and_l (same (cosine_units (a + 90)) (neg_ℤ (sine_units a))) (same (sine_units (a + 90)) (cosine_units a)) t in
      let r : T (same (sine_units (a + 90)) (cosine_units a)) = and_r (same (cosine_units (a + 90)) (neg_ℤ (sine_units a))) (same (sine_units (a + 90)) (cosine_units a)) t in
      (same-eq _ _ l, same-eq _ _ r)

  positive-at : 1 ≤ a → a ≤ 179 → T (lt_z (pos 0) (sine_units a))
  unfolding positive
  positive-at lo hi = rw (ne_eqb a 0 (λ e. omega arith), le-ltb 179 a (omega arith)) at (and_r (quarter a) (positive a) one)

  abbrev Next : Type 0
  Next =
      Within54 (pos (2 ^ 53) *ℤ cosine_units (a + 1)) (cosine_units a *ℤ cosine_units 1 -ℤ sine_units a *ℤ sine_units 1)
      × Within54 (pos (2 ^ 53) *ℤ sine_units (a + 1)) (cosine_units a *ℤ sine_units 1 +ℤ sine_units a *ℤ cosine_units 1)

  next-at : Next
  unfolding next₁ next₂
  next-at =
      let t : T (next₁ a && next₂ a) = and_l (next₁ a && next₂ a) (exacts a) two in
      (near_within _ _ (and_l (next₁ a) (next₂ a) t), near_within _ _ (and_r (next₁ a) (next₂ a) t))

  exacts-at : ExactUnits (cosine_units a) × ExactUnits (sine_units a)
  unfolding exacts
  exacts-at =
      let t : T (exacts a) = and_r (next₁ a && next₂ a) (exacts a) two in
      (exact-is _ (and_l (exact (cosine_units a)) (exact (sine_units a)) t), exact-is _ (and_r (exact (cosine_units a)) (exact (sine_units a)) t))

-- ---- and at every number, since entries come round again
cosine-round : (a b : ℕ) → a % 360 ≡ b % 360 → cosine_units a ≡ cosine_units b
unfolding cosine_units
cosine-round a b e = rw e

sine-round : (a b : ℕ) → a % 360 ≡ b % 360 → sine_units a ≡ sine_units b
unfolding sine_units
sine-round a b e = rw e

module _ (a : ℕ) where
  again : (k : ℕ) → (cosine_units (a + k) ≡ cosine_units (a % 360 + k)) × (sine_units (a + k) ≡ sine_units (a % 360 + k))
  again k =
      let e : (a + k) % 360 ≡ (a % 360 + k) % 360 = omega arith in
      (cosine-round (a + k) (a % 360 + k) e, sine-round (a + k) (a % 360 + k) e)

  once : (cosine_units a ≡ cosine_units (a % 360)) × (sine_units a ≡ sine_units (a % 360))
  once =
      let e : a % 360 ≡ a % 360 % 360 = omega arith in
      (cosine-round a (a % 360) e, sine-round a (a % 360) e)

places : length degree_table ≡ 2 * 360
unfolding degree_table
places = refl

starts : (cosine_units 0 ≡ pos (2 ^ 53)) × (sine_units 0 ≡ pos 0)
unfolding degree_table cosine_units sine_units
starts = (refl, refl)

pub table-rule : TableRule
table-rule = record {
  places = places;
  starts = starts;
  quarter = λ a. rw ((again a 90).0, (again a 90).1, (once a).0, (once a).1) (quarter-at (a % 360) (omega arith));
  positive = λ a lo hi. positive-at a (omega arith) lo hi;
  next = λ a. rw ((again a 1).0, (again a 1).1, (once a).0, (once a).1) (next-at (a % 360) (omega arith));
}

pub exact-entries : ExactEntries
exact-entries a = rw ((once a).0, (once a).1) (exacts-at (a % 360) (omega arith))
