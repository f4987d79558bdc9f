-- The steps of a placed part (shape.rs) and of a cut (csg.rs): the Rust's, in its order, but for the true distance of operations 2 and 3.
use Rattle.std.specs.Prelude.{Bool, true, false, not, ◌&&◌, ◌||◌, cond, Float, Err, Ok, Result}
use Rattle.std.specs.Float.Ieee.{neg}
use Rattle.floats.specs.Arith.{◌⊕◌, ◌⊘◌, hundredth, thousandth}
use Rattle.geometry.specs.Rays.{ray_of, position}
use Rattle.geometry.specs.Hits.{is_ok, min_hit}
use Rattle.geometry.specs.declared.vector.Vector.{Vector}
use Rattle.geometry.specs.declared.ray.Ray.{Ray}
use Rattle.geometry.specs.declared.hit.Hit.{Hit}
use Rattle.scene.specs.declared.entry.Op.{Op}
use Rattle.scene.specs.declared.entry.Op.TheVariants.{Intersection, Difference, TrueIntersection, TrueDifference}
use Rattle.refusals.specs.declared.Refusal.{Refusal}

-- a placed part divides t by the scale, even on a miss
unfoldable pub rescaled : Float → Result Hit Refusal → Result Hit Refusal
rescaled scale (Ok h) = Ok (record { t = h.t ⊘ scale; ok = h.ok })
rescaled scale (Err n) = Err n

-- whether an operation takes the second part away from the first
unfoldable pub takes_away : Op → Bool
takes_away Intersection = false
takes_away Difference = true
takes_away TrueIntersection = false
takes_away TrueDifference = true

-- whether a cut contains a point, by what its parts contain: at 1e-3, whatever it is asked
unfoldable pub cut_contains : Op → (Vector → Float → Bool) → (Vector → Float → Bool) → Vector → Bool
cut_contains o a b v = a v thousandth && cond (takes_away o) (not (b v (neg thousandth))) (b v thousandth)

-- the first refusal, or the nearer hit
unfoldable pub both : Result Hit Refusal → Result Hit Refusal → Result Hit Refusal
both (Err n) b = Err n
both (Ok g) (Err n) = Err n
both (Ok g) (Ok h) = Ok (min_hit g h)

-- the ray put again from 0.01 beyond t
unfoldable pub restarted : Ray → Float → Ray
restarted r t = ray_of (position r (t ⊕ hundredth)) r.direction

-- document 02 (vi): a hit of a ray that restarted `sum` beyond the first origin, with its distance from there; a miss (ok false) unchanged
unfoldable pub from_first : Float → Hit → Hit
from_first sum h = cond h.ok (record { t = sum ⊕ h.t; ok = true }) h

-- what a cut answers for a hit that it accepts: the last ray's, as the Rust (operations 0 and 1), or from the first origin (2 and 3)
unfoldable pub tell_of : Op → Float → Hit → Hit
tell_of Intersection sum h = h
tell_of Difference sum h = h
tell_of TrueIntersection sum h = from_first sum h
tell_of TrueDifference sum h = from_first sum h

-- a hit that is accepted is told; else the ray is put again, t + 0.01 further from its first origin
unfoldable pub accepted_or : (Float → Hit → Hit) → (Float → Ray → Result Hit Refusal) → Float → Ray → Hit → Bool → Result Hit Refusal
accepted_or tell again sum r h true = Ok (tell sum h)
accepted_or tell again sum r h false = again (sum ⊕ (h.t ⊕ hundredth)) (restarted r h.t)

-- a cut accepts a hit whose t is not below INF, or whose point lies inside
unfoldable pub step : (Float → Hit → Hit) → (Float → Ray → Result Hit Refusal) → (Vector → Bool) → Float → Ray → Result Hit Refusal → Result Hit Refusal
step tell again inside sum r (Err n) = Err n
step tell again inside sum r (Ok h) = accepted_or tell again sum r h (not (is_ok h) || inside (position r h.t))
