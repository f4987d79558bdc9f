-- Demand 2 of the request on one page, as far as it is a claim to prove: square root, box test, triangle test and line simplification against IEEE 754 and
-- the published methods. `demand-2` (proofs/Demand2.antt) is a value of it. That answers equal the Rust's is the other half: it is shown by differential
-- runs (docs/DIFFERENCES.md).
--
-- What is spoken of is what the code answers: `sqrt::sqrt` promises sqrt_of, `BBox::intersect` box_test, `triangle::intersect_vertices` triangle_hit, and
-- `path_simplify::simplify` leaves, path by path, simplified. The theorems of these calls are fields of theorem_demand1/specs/Demand1.antt.
-- What rounding does to a triangle's s, u and v, to tmin and tmax, and to a vertex's distance from a segment is not bounded. Terms that stand elsewhere:
--   NearestOfAll                         sqrt/specs/Nearest.antt: of all finite f64s the nearest to the exact root, and no other is as near
--   TestIsOverlap and the six after it   Slabs.antt: a ray is in the box where it is between the planes of all three pairs
--   ExactSlab, ExactSlabDown             Planes.antt: between two parameters, between two planes, where operations are exact
--   TriangleIsFormula, CramersRule, ..   Cramer.antt: Möller and Trumbore's formula, and the equation that it solves
--   SimplifiedAsPublished, ..            Peucker.antt: Ramer, Douglas and Peucker's method, and that nothing else meets it
use Rattle.std.specs.Prelude.{ℕ, suc, ◌≡◌, Bool, true, false, ℤ, T, Float}
use Rattle.std.specs.Float.{nan, inf, fin, binary64}
use Rattle.std.specs.Float.Ieee.{fits}
use Rattle.std.specs.Float.Ieee.Positive.{positive}
use Rattle.sqrt.specs.Root.{sqrt_of}
use Rattle.sqrt.specs.Nearest.{NearestOfAll}
use Rattle.theorem_published.specs.Slabs.{SlantedMeetsAll, TestIsOverlap, PassesExactlyAhead, SwappedByComparison, EnteredLast, LeftFirst, WithinAllSlabs}
use Rattle.theorem_published.specs.Planes.{ExactSlab, ExactSlabDown, WholesOrdered}
use Rattle.theorem_published.specs.Cramer.{TriangleIsFormula, CramersRule, OnlySolution}
use Rattle.theorem_published.specs.Peucker.{SimplifiedAsPublished, OnlyPublished, SimplifiedByScan, OnlyByScan}

pub record Demand2 : Type 1 where
  -- Square root, IEEE 754: of a positive finite f64 the one nearest to the exact root; of a zero that zero, of +∞ itself; of what is below 0, and of a
  -- NaN, a NaN.
  pub root_nearest : (x : Float) → T (fits binary64 x) → T (positive x) → NearestOfAll x (sqrt_of x)
  pub root_of_zero : (sign : Bool) (e : ℤ) → sqrt_of (fin sign 0 e) ≡ fin sign 0 e
  pub root_of_infinity : sqrt_of (inf false) ≡ inf false
  pub root_of_negative : (m : ℕ) (e : ℤ) → sqrt_of (fin true (suc m) e) ≡ nan
  pub root_of_minus_infinity : sqrt_of (inf true) ≡ nan
  pub root_of_nan : sqrt_of nan ≡ nan
  -- Box test, by slabs: where the ray meets all six planes at numbers, as it does if ray and box pass numbers 7 and 8 and no component of its direction is
  -- 0, the parameters from tmin to tmax are those at which it is in all three slabs, and the box passes exactly if there is one above 0. +∞ counts as one.
  pub box_is_overlap : TestIsOverlap
  pub box_passes : PassesExactlyAhead
  pub box_slanted : SlantedMeetsAll
  -- Where operations are exact: a parameter lies between those at which the ray meets two planes exactly if the ray's point there lies between the planes,
  -- of a ray that runs up and of one that runs down; in every ordered commutative ring, of which the whole numbers are one.
  pub box_exact : ExactSlab
  pub box_exact_down : ExactSlabDown
  pub box_exact_wholes : WholesOrdered
  -- And whatever is a NaN: a slab's ends are swapped by the comparison, not by min and max; entered where the last slab is entered, left where the first is left.
  pub box_swapped : SwappedByComparison
  pub box_entered : EnteredLast
  pub box_left : LeftFirst
  pub box_within : WithinAllSlabs
  -- Triangle test, Möller and Trumbore: their formula, each operation rounded once, then the tests; and in every commutative ring the formula solves their
  -- equation, and alone does.
  pub triangle_is_formula : TriangleIsFormula
  pub triangle_solves : CramersRule
  pub triangle_only : OnlySolution
  -- Line simplification, Ramer, Douglas and Peucker: it is by their method, and whatever is by it simplifies a path that meets neither 8 nor 9 alike.
  pub simplified_so : SimplifiedAsPublished
  pub simplified_only : OnlyPublished
  -- And whatever is a NaN: by the method with the scan for the farthest vertex, which leaves no choice on any path.
  pub simplified_by_scan : SimplifiedByScan
  pub simplified_only_by_scan : OnlyByScan
