-- Document 01's box test against the published method of slabs (Kay and Kajiya): a box is where three slabs overlap, each between two parallel planes, and
-- a ray is in the box at the parameters at which it is between the planes of all three pairs. The definition takes a greatest and a least; what is said
-- here has neither.
use Rattle.std.specs.Prelude.{◌≡◌, ◌⊎◌, ◌↔◌, not, T, Float}
use Rattle.std.specs.Float.{nan}
use Rattle.std.specs.Float.Ieee.{eq, lt, le}
use Rattle.std.specs.Float.Ieee.Scale.{finite}
use Rattle.floats.specs.Arith.{◌⊖◌, ◌⊘◌, zero_f, one_f}
use Rattle.floats.specs.Numbers.{number, min_of, max_of}
use Rattle.geometry.specs.Boxes.{span_of, ordered, slab, box_test, passes}
use Rattle.geometry.specs.Limits.{Within}
use Rattle.geometry.specs.declared.vector.Vector.{Vector}
use Rattle.geometry.specs.declared.ray.Ray.{Ray}
use Rattle.geometry.specs.declared.bounding_box.BBox.{BBox}
use Rattle.geometry.specs.declared.bounding_box.Span.{Span}

-- the parameter at which the ray from o along d meets the plane at p, each operation rounded once
abbrev pub meets_at : Float → Float → Float → Float
meets_at p o d = (p ⊖ o) ⊘ d

-- u lies between a and b, whichever of them is the lesser
abbrev pub Between : Float → Float → Float → Type 0
Between a b u = (T (le a u) × T (le u b)) ⊎ (T (le b u) × T (le u a))

-- at u the ray is between the planes at lo and hi
abbrev pub InSlab : Float → Float → Float → Float → Float → Type 0
InSlab lo hi o d u = Between (meets_at lo o d) (meets_at hi o d) u

-- at u the ray is in all three slabs of the box
abbrev pub InSlabs : BBox → Ray → Float → Type 0
InSlabs b r u =
    InSlab b.min.x b.max.x r.origin.x r.direction.x u
    × InSlab b.min.y b.max.y r.origin.y r.direction.y u
    × InSlab b.min.z b.max.z r.origin.z r.direction.z u

-- the ray meets both planes at numbers; 0/0, of a ray that runs in a plane, is none
abbrev pub MeetsBoth : Float → Float → Float → Float → Type 0
MeetsBoth lo hi o d = T (number (meets_at lo o d)) × T (number (meets_at hi o d))

-- it meets all six planes of the box at numbers
abbrev pub MeetsAll : BBox → Ray → Type 0
MeetsAll b r =
    MeetsBoth b.min.x b.max.x r.origin.x r.direction.x
    × MeetsBoth b.min.y b.max.y r.origin.y r.direction.y
    × MeetsBoth b.min.z b.max.z r.origin.z r.direction.z

-- each component of the direction is finite and not 0
pub record Slanted (d : Vector) : Type 0 where
  pub x : T (finite d.x) × T (not (eq d.x zero_f))
  pub y : T (finite d.y) × T (not (eq d.y zero_f))
  pub z : T (finite d.z) × T (not (eq d.z zero_f))

-- u lies from tmin to tmax
abbrev pub InSpan : Span → Float → Type 0
InSpan s u = T (le s.tmin u) × T (le u s.tmax)

-- some parameter above 0 at which the ray is in all three slabs
pub record AheadInSlabs (b : BBox) (r : Ray) : Type 0 where
  pub at : Float
  pub ahead : T (lt zero_f at)
  pub inside : InSlabs b r at

-- A ray with a slanted direction meets all six planes at numbers, where its origin and the box pass document 01's numbers 7 and 8.
abbrev pub SlantedMeetsAll : Type 0
SlantedMeetsAll = (b : BBox) (r : Ray) → Within b.min → Within b.max → Within r.origin → Slanted r.direction → MeetsAll b r

-- Where the ray meets all six planes at numbers, what lies from tmin to tmax of the box test is what lies in all three slabs.
abbrev pub TestIsOverlap : Type 0
TestIsOverlap = (b : BBox) (r : Ray) → MeetsAll b r → (u : Float) → InSpan (box_test b r) u ↔ InSlabs b r u

-- There the box passes the test exactly if the ray is in all three slabs at some parameter above 0.
abbrev pub PassesExactlyAhead : Type 0
PassesExactlyAhead = (b : BBox) (r : Ray) → MeetsAll b r → T (passes (box_test b r)) ↔ AheadInSlabs b r

-- ---- whatever is a NaN
-- the spans of the slabs on each axis
abbrev pub slab_x : BBox → Ray → Span
slab_x b r = slab b.min.x b.max.x r.origin.x r.direction.x

abbrev pub slab_y : BBox → Ray → Span
slab_y b r = slab b.min.y b.max.y r.origin.y r.direction.y

abbrev pub slab_z : BBox → Ray → Span
slab_z b r = slab b.min.z b.max.z r.origin.z r.direction.z

-- Document 01's second mistake to shut out: the ends of a slab are swapped by the comparison, which leaves them as they are where one is a NaN; min and max would put the
-- other end in its place.
pub record SwappedByComparison : Type 0 where
  pub first_nan : (b : Float) → ordered nan b ≡ span_of nan b
  pub second_nan : (a : Float) → ordered a nan ≡ span_of a nan
  pub not_by_min_and_max : ordered nan one_f ≡ span_of (min_of nan one_f) (max_of nan one_f) → ⊥

-- m is one of a, b and c, and none of them that is a number is greater
pub record LastOfThree (a b c m : Float) : Type 0 where
  pub one : (m ≡ a) ⊎ ((m ≡ b) ⊎ (m ≡ c))
  pub first : T (number a) → T (le a m)
  pub second : T (number b) → T (le b m)
  pub third : T (number c) → T (le c m)

-- m is one of a, b and c, and none of them that is a number is less
pub record FirstOfThree (a b c m : Float) : Type 0 where
  pub one : (m ≡ a) ⊎ ((m ≡ b) ⊎ (m ≡ c))
  pub first : T (number a) → T (le m a)
  pub second : T (number b) → T (le m b)
  pub third : T (number c) → T (le m c)

-- u lies within the ends of the span; an end that is a NaN bounds nothing
abbrev pub WithinEnds : Span → Float → Type 0
WithinEnds s u = (T (number s.tmin) → T (le s.tmin u)) × (T (number s.tmax) → T (le u s.tmax))

-- The box is entered where one of its slabs is entered, and none of them later.
abbrev pub EnteredLast : Type 0
EnteredLast = (b : BBox) (r : Ray) → LastOfThree (slab_x b r).tmin (slab_y b r).tmin (slab_z b r).tmin (box_test b r).tmin

-- It is left where one of its slabs is left, and none of them earlier.
abbrev pub LeftFirst : Type 0
LeftFirst = (b : BBox) (r : Ray) → FirstOfThree (slab_x b r).tmax (slab_y b r).tmax (slab_z b r).tmax (box_test b r).tmax

-- What lies within the ends of the box test is what lies within those of all three slabs.
abbrev pub WithinAllSlabs : Type 0
WithinAllSlabs = (b : BBox) (r : Ray) (u : Float) → WithinEnds (box_test b r) u ↔ (WithinEnds (slab_x b r) u × WithinEnds (slab_y b r) u × WithinEnds (slab_z b r) u)
