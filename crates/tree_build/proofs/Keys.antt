-- The keys of a node's solids, and the plan by its steps. Assumes nothing.
use mathlib.Core.Path.{◌≡◌, refl, ap, ap₂}
use mathlib.Core.Bool.{Bool, true, false, cond}
use mathlib.Core.List.{List}
use mathlib.Core.Logic.{◌≢◌}
use Prim.Native.Nat.{ℕ, ◌+◌, ◌-◌, ◌≤◌, ◌<◌}
use native.Mathlib.Nat.{not-suc-le-zero}
use native.Mathlib.Omega.{arith}
use lib.ListN.{length, get_or, set, length-set}
use lib.Seq.{get_or-set_same, get_or-set_other}
use lib.Dec.{T, eqb, ltb, leb→le}
use lib.IntN.{pos}
use lib.Ieee.{Float, binary64, lt, le, of_int, of_bits}
use borrow.Author.Tests.{eqb-true, eqb-false, le-leb, lt-leb}
use borrow.Table.Steps.{cases}
use Rattle.floats.specs.Arith.{◌⊕◌, ◌⊗◌, zero_f, half_f}
use Rattle.floats.specs.Numbers.{number, within}
use Rattle.floats.proofs.Bounds.{Small, small-number, small-add, small_mul, within-small}
use Rattle.geometry.specs.Limits.{Sound}
use Rattle.geometry.specs.declared.bounding_box.BBox.{BBox}
use Rattle.tree_sort.specs.Sort.{HasKey, by_key, sorted}
use Rattle.lists.specs.Lists.{Each}
use Rattle.tree_sort.proofs.Sorted.{sorted-cong}
use Rattle.lists.proofs.Properties.{each_at, each_of}
use Rattle.tree_split.specs.declared.BestSplit.{BestSplit}
use Rattle.tree_split.specs.declared.Plan.{Plan}
use Rattle.tree_split.specs.Build.{box_at, Fits, middle, middle_box, area_of, hull_of, axis_of, on_axis, by_middle, best_upto, eighth, split_by, plan_axis, plan_of, arranged}
use Rattle.tree_build.specs.Slices.{Keyed}

-- ---- a middle is a number
half-small : Small 0 half_f
unfolding of_bits
half-small = leb→le 1 2 tt

half-number : (a b : Float) → T (within a) → T (within b) → T (number ((a ⊕ b) ⊗ half_f))
half-number a b p q = small-number 21 ((a ⊕ b) ⊗ half_f) (small_mul 21 0 (a ⊕ b) half_f tt (small-add 20 a b tt (within-small a p) (within-small b q)) half-small)

number-cond : (s t : Bool) (x y z : Float) → T (number x) → T (number y) → T (number z) → T (number (cond s x (cond t y z)))
number-cond true t x y z p q r = p
number-cond false true x y z p q r = q
number-cond false false x y z p q r = r

middle-number : (axis : ℕ) (b : BBox) → Sound b → T (number (on_axis axis (middle b)))
unfolding middle on_axis
middle-number axis b s = number-cond (ltb axis 2) (eqb axis 2) _ _ _
    (half-number b.min.x b.max.x s.min.x s.max.x)
    (half-number b.min.y b.max.y s.min.y s.max.y)
    (half-number b.min.z b.max.z s.min.z s.max.z)

-- ---- the loop that writes the keys
module _ (xs : List Float) (axis : ℕ) (ids : List ℕ) where
  pub keyed-start : (keys : List Float) → 1024 ≤ length keys → Keyed (box_at xs) axis ids keys 0
  keyed-start keys h = record { long = h; done = λ j l. absurd (not-suc-le-zero l) }

  pub keyed-turn : (keys : List Float) (i : ℕ) (v : Float) → Keyed (box_at xs) axis ids keys i → Each (Fits xs) ids → i < length ids → v ≡ on_axis axis (middle (box_at xs (get_or ids i 0)))
      → Keyed (box_at xs) axis ids (set keys (get_or ids i 0) v) (i + 1)
  keyed-turn keys i v K E l e =
      let s : ℕ = get_or ids i 0 in
      let F : Fits xs s = each_at (Fits xs) ids i E l in
      let sl : s < length keys = omega (arith, F.low, K.long) in
      record {
        long = rw (length-set keys s v) K.long;
        done = λ j h. cases (eqb (get_or ids j 0) s)
            (λ t. rw (eqb-true (get_or ids j 0) s t, get_or-set_same keys s v zero_f sl) e)
            (λ t. rw (get_or-set_other keys s (get_or ids j 0) v zero_f (eqb-false (get_or ids j 0) s t)) (K.done j (let q : j ≢ i = λ z. eqb-false (get_or ids j 0) s t (ap (λ (n : ℕ). get_or ids n 0) z) in omega (arith, q))));
      }

  -- each solid then has a key, and it is not a NaN
  pub keyed-each : (keys : List Float) → Keyed (box_at xs) axis ids keys (length ids) → Each (Fits xs) ids → Each (HasKey keys) ids
  keyed-each keys K E = each_of (HasKey keys) ids (λ j l.
      let F : Fits xs (get_or ids j 0) = each_at (Fits xs) ids j E l in
      (omega (arith, F.low, K.long), rw (K.done j l) (middle-number axis (box_at xs (get_or ids j 0)) F.sound)))

-- sorting by the keys is sorting by the middles
pub keyed-sorted : (box : ℕ → BBox) (axis : ℕ) (ids : List ℕ) (keys : List Float) → Keyed box axis ids keys (length ids) → sorted (by_key keys) ids ≡ sorted (by_middle box axis) ids
unfolding by_key
keyed-sorted box axis ids keys K =
    let Q : ℕ → Type 0 = λ (i : ℕ). get_or keys i zero_f ≡ on_axis axis (middle (box i)) in
    sorted-cong Q (by_key keys) (by_middle box axis) (λ a b p q. ap₂ lt p q) ids (each_of Q ids K.done)

-- ---- where the solids are split
module _ (box : ℕ → BBox) (ids : List ℕ) (bx : BBox) (best : BestSplit) (eb : best ≡ best_upto box ids (length ids - 1)) where
  pub split-large : 8 < length ids → best.at ≡ split_by box bx ids
  unfolding split_by
  split-large h = rw (lt-leb (length ids) 8 h, ← eb)

  module _ (a : Float) (ea : a ≡ area_of bx) (h : length ids ≤ 8) where
    pub split-kept : le (of_int binary64 (pos (length ids)) ⊗ a) (best.cost ⊕ a ⊗ eighth) ≡ true → 0 ≡ split_by box bx ids
    unfolding split_by
    split-kept k = rw (le-leb (length ids) 8 h, ← eb, ← ea, k)

    pub split-small : le (of_int binary64 (pos (length ids)) ⊗ a) (best.cost ⊕ a ⊗ eighth) ≡ false → best.at ≡ split_by box bx ids
    unfolding split_by
    split-small k = rw (le-leb (length ids) 8 h, ← eb, ← ea, k)

-- ---- the plan
module _ (box : ℕ → BBox) (ids : List ℕ) (bx : BBox) (eb : bx ≡ hull_of box ids) where
  pub plan-few : length ids ≤ 2 → (◌≡◌ {A = Plan} (record { bx = bx; axis = 0; at = 0 }) (plan_of box ids)) × (ids ≡ arranged box ids)
  unfolding plan_of plan_axis arranged
  plan-few h = rw (le-leb (length ids) 2 h, eb) (refl, refl)

  module _ (h : 2 < length ids) (s : BBox) (axis : ℕ) (es : s ≡ hull_of (λ (i : ℕ). middle_box (box i)) ids) (ea : axis ≡ axis_of s) (ids' : List ℕ) (ei : ids' ≡ sorted (by_middle box axis) ids) where
    axis-is : plan_axis box ids ≡ axis
    unfolding plan_axis
    axis-is = rw (lt-leb (length ids) 2 h, ← es, ← ea)

    many-arranged : ids' ≡ arranged box ids
    unfolding arranged
    many-arranged = rw (lt-leb (length ids) 2 h, axis-is) ei

    pub plan-many : (at : ℕ) → at ≡ split_by box bx ids' → (◌≡◌ {A = Plan} (record { bx = bx; axis = axis; at = at }) (plan_of box ids)) × (ids' ≡ arranged box ids)
    unfolding plan_of
    plan-many at q = (rw (lt-leb (length ids) 2 h, axis-is, ← eb, ← many-arranged, ← q), many-arranged)
