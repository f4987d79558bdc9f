-- One coordinate of a box: its least is at most its greatest. Assumes nothing.
use Prim.Native.Nat.{ℕ, suc}
use mathlib.Core.Path.{subst}
use mathlib.Core.Bool.{Bool, true, false, not, cond, ◌||◌}
use lib.Dec.{T, leb}
use lib.Ieee.{Float, is_nan, lt, le, neg, of_bits}
use lib.Ieee.Scale.{finite}
use Rattle.floats.specs.Arith.{◌⊕◌, ◌⊖◌, ◌⊗◌, zero_f}
use Rattle.floats.specs.Numbers.{min_of, max_of, within}
use Rattle.floats.proofs.Order.{finite_number, le_refl, le_trans, not-gt→le, neg-le}
use Rattle.floats.proofs.Rounding.{sub-mono, sub-neg, add-mono}
use Rattle.floats.proofs.Extremes.{min_of-finite, max_of-finite, le-max_of-l, min_of-le-l}
use Rattle.floats.proofs.Bounds.{Small, small-finite, small-neg, small-wider, small-add, small_mul, within-small, within-finite}

pub zero-within : T (within zero_f)
unfolding within of_bits neg le
zero-within = tt

-- what the failed test of the code says of two accepted numbers
pub within-le : (x y : Float) → T (within x) → T (within y) → T (not (lt y x)) → T (le x y)
within-le x y h k = not-gt→le x y (finite_number x (within-finite x h)) (finite_number y (within-finite y k))

-- ---- about a radius
pub neg-under : (r : Float) → T (le zero_f r) → T (le (neg r) r)
unfolding of_bits neg le
neg-under r h = le_trans (neg r) (neg zero_f) r (neg-le zero_f r h) (le_trans (neg zero_f) zero_f r tt h)

pub about : (c r : Float) → T (within c) → T (within r) → T (le zero_f r) → T (le (c ⊖ r) (c ⊕ r))
about c r C R h =
    let c' = within-finite c C in
    let r' = within-finite r R in
    let n = small-finite 20 (neg r) (small-neg 20 r (within-small r R)) in
    subst (λ (z : Float). T (le (c ⊖ r) z)) (sub-neg c r) (sub-mono c c r (neg r) c' c' r' n (le_refl c (finite_number c c')) (neg-under r h))

-- ---- the lesser and the greater
pub min-max : (a b : Float) → T (finite a) → T (finite b) → T (le (min_of a b) (max_of a b))
min-max a b h k = le_trans (min_of a b) a (max_of a b) (min_of-le-l a b h k) (le-max_of-l a b h k)

pub min-max-three : (a b c : Float) → T (within a) → T (within b) → T (within c) → T (le (min_of (min_of a b) c) (max_of (max_of a b) c))
min-max-three a b c A B C =
    let a' = within-finite a A in
    let b' = within-finite b B in
    let c' = within-finite c C in
    let l = min_of-le-l (min_of a b) c (min_of-finite a b a' b') c' in
    let g = le-max_of-l (max_of a b) c (max_of-finite a b a' b') c' in
    le_trans (min_of (min_of a b) c) (min_of a b) (max_of (max_of a b) c) l (le_trans (min_of a b) (max_of a b) (max_of (max_of a b) c) (min-max a b a' b') g)

-- ---- two ends of an edge, each of magnitude at most 2 ^ k, in order
pub record Edge (k : ℕ) (lo hi : Float) : Type 0 where
  pub least : Small k lo
  pub greatest : Small k hi
  pub fair : T (le lo hi)

pick_small : (k : ℕ) (a b : Float) (t : Bool) → Small k a → Small k b → Small k (cond t b a)
pick_small k a b true h i = i
pick_small k a b false h i = h

-- a matrix number times the ends of an edge
pub edge-mul : (v lo hi : Float) → T (within v) → T (within lo) → T (within hi) → Edge 40 (min_of (v ⊗ lo) (v ⊗ hi)) (max_of (v ⊗ lo) (v ⊗ hi))
unfolding min_of max_of
edge-mul v lo hi p l h =
    let a = small_mul 20 20 v lo tt (within-small v p) (within-small lo l) in
    let b = small_mul 20 20 v hi tt (within-small v p) (within-small hi h) in
    record {
      least = pick_small 40 (v ⊗ lo) (v ⊗ hi) (is_nan (v ⊗ lo) || lt (v ⊗ hi) (v ⊗ lo)) a b;
      greatest = pick_small 40 (v ⊗ lo) (v ⊗ hi) (is_nan (v ⊗ lo) || lt (v ⊗ lo) (v ⊗ hi)) a b;
      fair = min-max (v ⊗ lo) (v ⊗ hi) (small-finite 40 (v ⊗ lo) a) (small-finite 40 (v ⊗ hi) b);
    }

module _ (k : ℕ) (a b c d : Float) (e : Edge k a b) (f : Edge k c d) where
  edge_order : T (le (a ⊕ c) (b ⊕ d))
  edge_order = add-mono a b c d (small-finite k a e.least) (small-finite k b e.greatest) (small-finite k c f.least) (small-finite k d f.greatest) e.fair f.fair

  edge-add : T (leb (suc k) 1023) → Edge (suc k) (a ⊕ c) (b ⊕ d)
  edge-add w = record { least = small-add k a c w e.least f.least; greatest = small-add k b d w e.greatest f.greatest; fair = edge_order }

edge-wider : (j k : ℕ) (a b : Float) → T (leb j k) → Edge j a b → Edge k a b
edge-wider j k a b w e = record { least = small-wider j k a w e.least; greatest = small-wider j k b w e.greatest; fair = e.fair }

-- the three edges of a placed box along one axis, and the shift
pub edge-sum : (a b c d p q t : Float) → Edge 40 a b → Edge 40 c d → Edge 40 p q → T (within t) → T (le (a ⊕ c ⊕ p ⊕ t) (b ⊕ d ⊕ q ⊕ t))
edge-sum a b c d p q t e f g h =
    let u = small-wider 20 42 t tt (within-small t h) in
    let s : Edge 42 t t = record { least = u; greatest = u; fair = le_refl t (finite_number t (within-finite t h)) } in
    let x = edge-add 40 a b c d e f tt in
    let y = edge-add 41 (a ⊕ c) (b ⊕ d) p q x (edge-wider 40 41 p q tt g) tt in
    edge_order 42 (a ⊕ c ⊕ p) (b ⊕ d ⊕ q) t t y s
