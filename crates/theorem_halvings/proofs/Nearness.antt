-- A segment with both ends within number 9's limit needs at most 37 halvings, one inside another, whatever the matrix and the step are. Assumes nothing.
use mathlib.Core.Bool.{◌&&◌, ◌||◌}
use Prim.Native.Nat.{ℕ, zero, suc}
use native.Mathlib.Omega.{arith}
use lib.Dec.{T}
use lib.Ieee.{lt}
use lib.Ieee.Fits.{and_i}
use Rattle.floats.specs.Arith.{EPS}
use Rattle.floats.proofs.Order.{or_r}
use Rattle.floats.proofs.Bounds.{within-small}
use Rattle.geometry.specs.Limits.{Within}
use Rattle.geometry.specs.Vectors.{add_v, sub_v, mul_scalar, dot, length_squared, distance_squared}
use Rattle.geometry.specs.declared.vector.Vector.{Vector}
use Rattle.refusals.specs.Refusals.{number_of}
use Rattle.refusals.specs.declared.Refusal.TheVariants.{Lengths, Values, Parts, Measures, Placing, Extent, View, Point, Restarts, Waiting, Room, Stripes}
use Rattle.rounding.proofs.Cells.{Near, near-all, near_first, near-second, squares-short}
use Rattle.path_chop.specs.Chop.{spot_of, middle_of, off_sheet, stops}
use Rattle.path_chop.specs.declared.Screen.{Screen}
use Rattle.path_chop.specs.declared.Spot.{Spot}
use Rattle.theorem_halvings.specs.Halvings.{needs_at_most, AtMost37, NoTen}

-- ---- the ends of a segment lie at most 2 ^ j cells apart on each axis
record Close (j : ℕ) (a b : Vector) : Type 0 where
  x : Near j a.x b.x
  y : Near j a.y b.y
  z : Near j a.z b.z

close-all : (a b : Vector) → Within a → Within b → Close 41 a b
close-all a b h k = record {
  x = near-all a.x b.x (within-small a.x h.x) (within-small b.x k.x);
  y = near-all a.y b.y (within-small a.y h.y) (within-small b.y k.y);
  z = near-all a.z b.z (within-small a.z h.z) (within-small b.z k.z);
}

module _ (s : Screen) (j : ℕ) (a b : Spot) (c : Close (suc j) a.at b.at) where
  close-first : Close j a.at (middle_of s a b).at
  unfolding middle_of spot_of mul_scalar add_v
  close-first = record { x = near_first j a.at.x b.at.x c.x; y = near_first j a.at.y b.at.y c.y; z = near_first j a.at.z b.at.z c.z }

  close-second : Close j (middle_of s a b).at b.at
  unfolding middle_of spot_of mul_scalar add_v
  close-second = record { x = near-second j a.at.x b.at.x c.x; y = near-second j a.at.y b.at.y c.y; z = near-second j a.at.z b.at.z c.z }

-- ---- 16 cells apart is near enough to stop, on any sheet
close-stops : (s : Screen) (a b : Spot) → Close 4 a.at b.at → T (stops s a b)
unfolding stops distance_squared length_squared dot sub_v
close-stops s a b c =
    let far = off_sheet s a.seen b.seen in
    let wide = lt (distance_squared a.seen b.seen) s.square in
    let near = lt (distance_squared a.at b.at) EPS in
    or_r far (wide || near) (or_r wide near (squares-short a.at.x b.at.x a.at.y b.at.y a.at.z b.at.z c.x c.y c.z))

-- how many cells apart, as a power of two, n halvings from the end
abbrev apart : ℕ → ℕ
apart zero = 4
apart (suc n) = suc (apart n)

needs : (s : Screen) (n : ℕ) (a b : Spot) → Close (apart n) a.at b.at → T (needs_at_most n s a b)
unfolding needs_at_most
needs s zero a b c = close-stops s a b c
needs s (suc n) a b c =
    let m = middle_of s a b in
    or_r (stops s a b) (needs_at_most n s a m && needs_at_most n s m b)
    (and_i (needs_at_most n s a m) (needs_at_most n s m b) (needs s n a m (close-first s (apart n) a b c)) (needs s n m b (close-second s (apart n) a b c)))

-- for every matrix and step
pub at-most-37 : AtMost37
unfolding spot_of
at-most-37 s p q h k = needs s _ (spot_of s p) (spot_of s q) (close-all p q h k)

-- ---- number 10 is no refusal's
pub no-ten : NoTen
unfolding number_of
no-ten Lengths e = omega (arith, e)
no-ten Values e = omega (arith, e)
no-ten Parts e = omega (arith, e)
no-ten Measures e = omega (arith, e)
no-ten Placing e = omega (arith, e)
no-ten Extent e = omega (arith, e)
no-ten View e = omega (arith, e)
no-ten Point e = omega (arith, e)
no-ten Restarts e = omega (arith, e)
no-ten Waiting e = omega (arith, e)
no-ten Room e = omega (arith, e)
no-ten Stripes e = omega (arith, e)
