-- What an i64 and an f64 make of a number of magnitude at most 2^53, the loop that converts the table, and reads of what it leaves. Assumes nothing.
use mathlib.Core.Path.{◌≡◌, refl, sym, ap, subst, ◌∙◌}
use mathlib.Core.Bool.{Bool, true, false, not}
use mathlib.Core.List.{List, [], ◌∷◌, map}
use Prim.Native.Nat.{ℕ, zero, suc, ◌+◌, ◌*◌, ◌/◌, ◌%◌, ◌^◌, ◌<◌, ◌≤◌}
use native.Mathlib.Omega.{arith}
use native.Mathlib.Numerals.{add-one}
use borrow.Author.Tests.{ltb-true, ltb-false}
use lib.Dec.{T, ltb, le→leb, lt→ltb}
use lib.Ieee.{Float, nan, inf, fin, binary64, in_float, is_nan}
use lib.Ieee.Exact.{HasValue}
use lib.IntN.{ℤ, pos, negsuc, nat_abs}
use lib.ListN.{length, take, get_or, set, length-set, length-map, get_or-map}
use lib.Seq.{take-suc, take-suc-set, take_all}
use lib.Signed.{lt_z}
use mir.Syntax.{w64}
use mir.Val.{SFits, to_z, of_z}
use mir.ValLaws.{to_z-of_z}
use Rattle.degrees.specs.Table.{degree_table}
use Rattle.degrees.specs.Degrees.{cosine_units, sine_units, from_units, cosine_of, sine_of, float_table}
use Rattle.degrees.specs.Rule.{ExactUnits}
use Rattle.degrees.proofs.Rule.{table-rule, exact-entries}

pub small-fits : (z : ℤ) → nat_abs z ≤ 2 ^ 53 → SFits w64 z
small-fits (pos n) h = record { sfits = omega arith }
small-fits (negsuc n) h = record { sfits = omega arith }

pub same-again : (z : ℤ) → nat_abs z ≤ 2 ^ 53 → to_z w64 (of_z w64 z) ≡ z
same-again z h = to_z-of_z w64 z (small-fits z h)

small_float : (z : ℤ) → nat_abs z ≤ 2 ^ 53 → T (in_float binary64 z)
unfolding in_float
small_float (pos n) h = le→leb n (2 ^ 53) h
small_float (negsuc n) h = lt→ltb n (2 ^ 53) h

pub cast_fits : (z : ℤ) → nat_abs z ≤ 2 ^ 53 → T (in_float binary64 (to_z w64 (of_z w64 z)))
cast_fits z h = rw (same-again z h) (small_float z h)

-- ---- what is read or called stands for the entry
pub called-small : (z y : ℤ) → z ≡ y → nat_abs y ≤ 2 ^ 53 → nat_abs (to_z w64 (of_z w64 z)) ≤ 2 ^ 53
called-small z y e h = rw (e, same-again y h) h

pub called-float : (z y : ℤ) (x : Float) → x ≡ from_units (to_z w64 (of_z w64 z)) → z ≡ y → nat_abs y ≤ 2 ^ 53 → x ≡ from_units y
called-float z y x q e h = q ∙ rw (e, same-again y h)

-- an entry is no NaN
entry-number : (z : ℤ) → ExactUnits z → T (not (is_nan (from_units z)))
unfolding is_nan
entry-number z h = go (from_units z) h.value
  where
    go : (x : Float) → HasValue x (lt_z z (pos 0)) (nat_abs z) (2 ^ 53) → T (not (is_nan x))
    go nan v = absurd v
    go (inf s) v = absurd v
    go (fin s m e) v = tt

pub called-number : (x : Float) (z : ℤ) → x ≡ from_units z → ExactUnits z → T (not (is_nan x))
called-number x z e h = rw e (entry-number z h)

-- each number of the table
entry-small : (i : ℕ) → i < 720 → nat_abs (get_or degree_table i (pos 0)) ≤ 2 ^ 53
unfolding cosine_units sine_units
entry-small i h = go (ltb (i % 2) 1) refl
  where
    go : (b : Bool) → ltb (i % 2) 1 ≡ b → nat_abs (get_or degree_table i (pos 0)) ≤ 2 ^ 53
    go true e =
        let q : 2 * (i / 2 % 360) ≡ i = omega (arith, ltb-true (i % 2) 1 e) in
        subst (λ (j : ℕ). nat_abs (get_or degree_table j (pos 0)) ≤ 2 ^ 53) q (exact-entries (i / 2)).0.within
    go false e =
        let q : 2 * (i / 2 % 360) + 1 ≡ i = omega (arith, ltb-false (i % 2) 1 e) in
        subst (λ (j : ℕ). nat_abs (get_or degree_table j (pos 0)) ≤ 2 ^ 53) q (exact-entries (i / 2)).1.within

module _ (table : List ℤ) (is : table ≡ degree_table) (i : ℕ) (h : i < 720) where
  same-entry : get_or table i (pos 0) ≡ get_or degree_table i (pos 0)
  same-entry = ap (λ (t : List ℤ). get_or t i (pos 0)) is

  pub read_small : nat_abs (to_z w64 (of_z w64 (get_or table i (pos 0)))) ≤ 2 ^ 53
  read_small = called-small _ _ same-entry (entry-small i h)

  pub read_float : (x : Float) → x ≡ from_units (to_z w64 (of_z w64 (get_or table i (pos 0)))) → x ≡ from_units (get_or degree_table i (pos 0))
  read_float x q = called-float _ _ x q same-entry (entry-small i h)

-- ---- the loop: the first i are converted
pub record Converted (all : List Float) (i : ℕ) : Type 0 where
  pub same : length all ≡ 720
  pub upto : i ≤ 720
  pub done : take i all ≡ take i float_table

float-length : length float_table ≡ 720
unfolding float_table
float-length = length-map degree_table from_units ∙ table-rule.places

float-at : (i : ℕ) → get_or float_table i (from_units (pos 0)) ≡ from_units (get_or degree_table i (pos 0))
unfolding float_table
float-at i = get_or-map from_units degree_table i (pos 0)

pub converted-turn : (all : List Float) (i : ℕ) (x : Float) → Converted all i → i < 720 → x ≡ from_units (get_or degree_table i (pos 0)) → Converted (set all i x) (i + 1)
converted-turn all i x h l e = record {
  same = length-set all i x ∙ h.same;
  upto = omega arith;
  done = rw (add-one i, take-suc-set all i x (omega (arith, h.same)), take-suc float_table i (from_units (pos 0)) (omega (arith, float-length)), float-at i, h.done, e);
}

pub converted-end : (all : List Float) (i : ℕ) → Converted all i → 720 ≤ i → all ≡ float_table
converted-end all i h l =
    sym (take_all i all (omega (arith, h.same))) ∙ h.done ∙ take_all i float_table (omega (arith, float-length))

-- ---- the converted table, read
at_map : {A B : Type 0} (f : A → B) (l : List A) (i : ℕ) (d : B) (e : A) → i < length l → get_or (map f l) i d ≡ f (get_or l i e)
at_map f [] i d e h = absurd (omega arith)
at_map f (x ∷ l) zero d e h = refl
at_map f (x ∷ l) (suc i) d e h = at_map f l i d e (omega arith)

module _ (table : List Float) (is : table ≡ float_table) (a : ℕ) (h : a < 360) (d : Float) where
  pub cosine-read : get_or table (2 * a) d ≡ cosine_of a
  unfolding float_table cosine_units
  cosine-read =
      let round : a % 360 ≡ a = omega arith in
      rw (is, round) (at_map from_units degree_table (2 * a) d (pos 0) (omega (arith, table-rule.places)))

  pub sine-read : get_or table (2 * a + 1) d ≡ sine_of a
  unfolding float_table sine_units
  sine-read =
      let round : a % 360 ≡ a = omega arith in
      rw (is, round) (at_map from_units degree_table (2 * a + 1) d (pos 0) (omega (arith, table-rule.places)))
