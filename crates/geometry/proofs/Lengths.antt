-- Bounds on vectors: lengths, distances and distances from a segment are numbers and small where the components are small. So, for points within a
-- million, the computed distance is a number of at most INF, and the distance from a segment is one too. Assumes nothing.
use mathlib.Core.Path.{◌≡◌, subst}
use mathlib.Core.Bool.{Bool, true, false, not, cond}
use Prim.Native.Nat.{ℕ, suc, ◌+◌, ◌*◌}
use native.Mathlib.Omega.{arith}
use lib.IntN.{pos}
use lib.Dec.{T, leb, leb→le, le→leb}
use lib.Ieee.{Float, lt, eq, le, of_bits}
use lib.Ieee.Positive.{positive}
use Rattle.floats.specs.Arith.{◌⊕◌, ◌⊗◌, ◌⊘◌, zero_f, one_f, INF}
use Rattle.floats.specs.Numbers.{number}
use Rattle.floats.proofs.Order.{not-gt→le}
use Rattle.floats.proofs.Rounding.{div-number}
use Rattle.floats.proofs.Nonneg.{positive_of, square-nonneg, add-nonneg}
use Rattle.floats.proofs.Bounds.{Small, small-finite, small-number, small-wider, small-add, small-sub, small_mul, small-le, within-small, unit-small}
use Rattle.sqrt.proofs.Monotone.{rooted, small-sqrt}
use Rattle.geometry.specs.declared.vector.Vector.{Vector}
use Rattle.geometry.specs.Vectors.{add_v, sub_v, mul_scalar, dot, length_squared, length_of, distance_of, distance_squared, foot_distance, segment_distance}
use Rattle.geometry.specs.Limits.{Within}

pub record Smalls (k : ℕ) (v : Vector) : Type 0 where
  pub x : Small k v.x
  pub y : Small k v.y
  pub z : Small k v.z

-- a bound that is itself not negative
pub record Length (k : ℕ) (x : Float) : Type 0 where
  pub small : Small k x
  pub nonneg : T (le zero_f x)

pub within-smalls : (v : Vector) → Within v → Smalls 20 v
within-smalls v h = record { x = within-small v.x h.x; y = within-small v.y h.y; z = within-small v.z h.z }

pub smalls-wider : (j k : ℕ) (v : Vector) → T (leb j k) → Smalls j v → Smalls k v
smalls-wider j k v w h = record { x = small-wider j k v.x w h.x; y = small-wider j k v.y w h.y; z = small-wider j k v.z w h.z }

pub sub-smalls : (k : ℕ) (u v : Vector) → T (leb (suc k) 1023) → Smalls k u → Smalls k v → Smalls (suc k) (sub_v u v)
unfolding sub_v
sub-smalls k u v w a b = record { x = small-sub k u.x v.x w a.x b.x; y = small-sub k u.y v.y w a.y b.y; z = small-sub k u.z v.z w a.z b.z }

pub add-smalls : (k : ℕ) (u v : Vector) → T (leb (suc k) 1023) → Smalls k u → Smalls k v → Smalls (suc k) (add_v u v)
unfolding add_v
add-smalls k u v w a b = record { x = small-add k u.x v.x w a.x b.x; y = small-add k u.y v.y w a.y b.y; z = small-add k u.z v.z w a.z b.z }

pub scale-smalls : (j k : ℕ) (u : Vector) (t : Float) → T (leb (j + k) 1023) → Smalls j u → Small k t → Smalls (j + k) (mul_scalar u t)
unfolding mul_scalar
scale-smalls j k u t w a b = record { x = small_mul j k u.x t w a.x b; y = small_mul j k u.y t w a.y b; z = small_mul j k u.z t w a.z b }

pub dot-small : (j k : ℕ) (u v : Vector) → T (leb (suc (suc (j + k))) 1023) → Smalls j u → Smalls k v → Small (suc (suc (j + k))) (dot u v)
unfolding dot
dot-small j k u v w a b =
    let top = leb→le (suc (suc (j + k))) 1023 w in
    let w0 : T (leb (j + k) 1023) = le→leb (j + k) 1023 (omega (arith, top)) in
    let w1 : T (leb (suc (j + k)) 1023) = le→leb (suc (j + k)) 1023 (omega (arith, top)) in
    let n = j + k in
    let X = u.x ⊗ v.x in
    let Y = u.y ⊗ v.y in
    let Z = u.z ⊗ v.z in
    small-add (suc n) (X ⊕ Y) Z w
    (small-add n X Y w1 (small_mul j k u.x v.x w0 a.x b.x) (small_mul j k u.y v.y w0 a.y b.y))
    (small-wider n (suc n) Z (le→leb n (suc n) (omega arith)) (small_mul j k u.z v.z w0 a.z b.z))

pub dot-self : (k : ℕ) (u : Vector) → T (leb (suc (suc (k + k))) 1023) → Smalls k u → Length (suc (suc (k + k))) (dot u u)
unfolding dot
dot-self k u w a =
    let top = leb→le (suc (suc (k + k))) 1023 w in
    let w0 : T (leb (k + k) 1023) = le→leb (k + k) 1023 (omega (arith, top)) in
    let w1 : T (leb (suc (k + k)) 1023) = le→leb (suc (k + k)) 1023 (omega (arith, top)) in
    let n = k + k in
    let X = u.x ⊗ u.x in
    let Y = u.y ⊗ u.y in
    let Z = u.z ⊗ u.z in
    let sX = small_mul k k u.x u.x w0 a.x a.x in
    let sY = small_mul k k u.y u.y w0 a.y a.y in
    let sZ = small_mul k k u.z u.z w0 a.z a.z in
    let sXY = small-add n X Y w1 sX sY in
    record {
      small = dot-small k k u u w a a;
      nonneg = add-nonneg (X ⊕ Y) Z (small-finite (suc n) (X ⊕ Y) sXY) (small-finite n Z sZ)
          (add-nonneg X Y (small-finite n X sX) (small-finite n Y sY) (square-nonneg u.x (small-finite k u.x a.x)) (square-nonneg u.y (small-finite k u.y a.y)))
          (square-nonneg u.z (small-finite k u.z a.z));
    }

pub length-small : (k : ℕ) (u : Vector) → T (leb (suc (suc (k + k))) 1023) → Smalls k u → Length (suc k) (length_of u)
unfolding length_of length_squared
length-small k u w a =
    let d = dot-self k u w a in
    let e : suc (suc (k + k)) ≡ 2 * suc k = omega arith in
    record {
      small = small-sqrt (suc k) (dot u u) d.nonneg (subst (λ (n : ℕ). Small n (dot u u)) e d.small);
      nonneg = (rooted (dot u u) (small-finite (suc (suc (k + k))) (dot u u) d.small) d.nonneg).nonneg;
    }

pub distance-small : (k : ℕ) (u v : Vector) → T (leb (suc (suc (suc k + suc k))) 1023) → Smalls k u → Smalls k v → Length (suc (suc k)) (distance_of u v)
unfolding distance_of
distance-small k u v w a b =
    let top = leb→le (suc (suc (suc k + suc k))) 1023 w in
    length-small (suc k) (sub_v u v) w (sub-smalls k u v (le→leb (suc k) 1023 (omega (arith, top))) a b)

length-wider : (j k : ℕ) (x : Float) → T (leb j k) → Length j x → Length k x
length-wider j k x w h = record { small = small-wider j k x w h.small; nonneg = h.nonneg }

-- ---- for points within a million
pub distance-within : (u v : Vector) → Within u → Within v → Length 22 (distance_of u v)
distance-within u v U W = distance-small 20 u v tt (within-smalls u U) (within-smalls v W)

pub length-number : (k : ℕ) (x : Float) → Length k x → T (number x)
length-number k x h = small-number k x h.small

-- at most INF, by a bound of at most 2 ^ 29
pub length-le : (k : ℕ) (x : Float) → T (leb k 29) → Length k x → T (le x INF)
unfolding of_bits
length-le k x w h = small-le 29 x 1953125 (pos 9) tt (small-wider k 29 x w h.small)

-- ---- the distance from a segment
module _ (p v w : Vector) (P : Smalls 20 p) (U : Smalls 20 v) (W : Smalls 20 w) where
  foot : (t : Float) → Small 0 t → Length 24 (distance_of (add_v v (mul_scalar (sub_v w v) t)) p)
  foot t T0 =
      let a = scale-smalls 21 0 (sub_v w v) t tt (sub-smalls 20 w v tt W U) T0 in
      distance-small 22 (add_v v (mul_scalar (sub_v w v) t)) p tt (add-smalls 21 v (mul_scalar (sub_v w v) t) tt (smalls-wider 20 21 v tt U) a) (smalls-wider 20 22 p tt P)

  pub segment-at : (t : Float) → T (number t) → Length 24 (foot_distance p v w t)
  unfolding foot_distance of_bits
  segment-at t n = go (lt t zero_f) (lt one_f t) (not-gt→le zero_f t tt n) (not-gt→le t one_f n tt)
    where
      go : (a b : Bool) → (T (not a) → T (le zero_f t)) → (T (not b) → T (le t one_f)) → Length 24 (cond a (distance_of p v) (cond b (distance_of p w) (distance_of (add_v v (mul_scalar (sub_v w v) t)) p)))
      go true b h k = length-wider 22 24 (distance_of p v) tt (distance-small 20 p v tt P U)
      go false true h k = length-wider 22 24 (distance_of p w) tt (distance-small 20 p w tt P W)
      go false false h k = foot t (unit-small t (h tt) (k tt))

  pub segment-small : Length 24 (segment_distance p v w)
  unfolding segment_distance distance_squared length_squared
  segment-small = go (eq l2 zero_f) (positive_of l2 (small-finite 44 l2 d.small) d.nonneg)
    where
      l2 : Float
      l2 = dot (sub_v v w) (sub_v v w)

      d : Length 44 l2
      d = dot-self 21 (sub_v v w) tt (sub-smalls 20 v w tt U W)

      a : Float
      a = dot (sub_v p v) (sub_v w v)

      go : (b : Bool) → (T (not b) → T (positive l2)) → Length 24 (cond b (distance_of p v) (foot_distance p v w (a ⊘ l2)))
      go true h = length-wider 22 24 (distance_of p v) tt (distance-small 20 p v tt P U)
      go false h = segment-at (a ⊘ l2) (div-number a l2 (small-number 44 a (dot-small 21 21 (sub_v p v) (sub_v w v) tt (sub-smalls 20 p v tt P U) (sub-smalls 20 w v tt W U))) (h tt))

pub segment-number : (p v w : Vector) → Within p → Within v → Within w → T (number (segment_distance p v w))
segment-number p v w P U W = length-number 24 (segment_distance p v w) (segment-small p v w (within-smalls p P) (within-smalls v U) (within-smalls w W))

pub segment-le : (p v w : Vector) → Within p → Within v → Within w → T (le (segment_distance p v w) INF)
segment-le p v w P U W = length-le 24 (segment_distance p v w) tt (segment-small p v w (within-smalls p P) (within-smalls v U) (within-smalls w W))

pub distance-number : (u v : Vector) → Within u → Within v → T (number (distance_of u v))
distance-number u v U W = length-number 22 (distance_of u v) (distance-within u v U W)

pub distance-le : (u v : Vector) → Within u → Within v → T (le (distance_of u v) INF)
distance-le u v U W = length-le 22 (distance_of u v) tt (distance-within u v U W)
