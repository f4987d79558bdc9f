-- What the laws of boxes and distances ask of points, boxes and rays: document 01's numbers 7 to 9 give the bounds.
use Rattle.std.specs.Prelude.{Bool, true, false, T, ltb, Float}
use Rattle.std.specs.Float.{nan, inf, fin}
use Rattle.std.specs.Float.Ieee.{le}
use Rattle.floats.specs.Numbers.{within}
use Rattle.geometry.specs.declared.vector.Vector.{Vector}
use Rattle.geometry.specs.declared.ray.Ray.{Ray}
use Rattle.geometry.specs.declared.bounding_box.BBox.{BBox}

-- finite, each coordinate of magnitude at most 1,000,000
pub record Within (v : Vector) : Type 0 where
  pub x : T (within v.x)
  pub y : T (within v.y)
  pub z : T (within v.z)

-- each component of u is at most that of v
pub record Under (u v : Vector) : Type 0 where
  pub x : T (le u.x v.x)
  pub y : T (le u.y v.y)
  pub z : T (le u.z v.z)

-- a box within a million, with min ≤ max
pub record Sound (b : BBox) : Type 0 where
  pub min : Within b.min
  pub max : Within b.max
  pub fair : Under b.min b.max

-- the box c lies in the box p
pub record Inside (c p : BBox) : Type 0 where
  pub min : Under p.min c.min
  pub max : Under c.max p.max

-- a direction component that is not -0; it may be infinite or a NaN
abbrev pub straight : Float → Bool
straight nan = true
straight (inf s) = true
straight (fin true m e) = ltb 0 m
straight (fin false m e) = true

-- the origin is within a million, and no direction component is -0
pub record Usable (r : Ray) : Type 0 where
  pub origin : Within r.origin
  pub x : T (straight r.direction.x)
  pub y : T (straight r.direction.y)
  pub z : T (straight r.direction.z)
