-- Discs about the Z axis (document 02, iii), by radius and height. There is no Rust for them.
use Rattle.std.specs.Prelude.{Bool, cond, not, ◌&&◌, Float}
use Rattle.std.specs.Float.Ieee.{lt, le, eq}
use Rattle.floats.specs.Arith.{◌⊕◌, ◌⊖◌, ◌⊗◌, ◌⊘◌, zero_f, millionth}
use Rattle.geometry.specs.Rays.{position}
use Rattle.geometry.specs.Hits.{hit_at, no_hit, is_ok}
use Rattle.geometry.specs.declared.ray.Ray.{Ray}
use Rattle.geometry.specs.declared.hit.Hit.{Hit}

-- t > 1e-6, and the computed x² + y² there is at most radius²
unfoldable pub on_disc : Float → Ray → Float → Bool
on_disc radius ray t =
    let p = position ray t in
    lt millionth t && le (p.x ⊗ p.x ⊕ p.y ⊗ p.y) (radius ⊗ radius)

-- document 02's disc at height z: hit at t = (z − o.z) / d.z if d.z isn't 0 and the ray is on the disc there
unfoldable pub disc_hit : Float → Float → Ray → Hit
disc_hit radius z ray =
    let d = ray.direction.z in
    let t = (z ⊖ ray.origin.z) ⊘ d in
    cond (not (eq d zero_f) && on_disc radius ray t) (hit_at t) no_hit

-- document 02's answer of a solid with lids, from the nearest of wall and discs: no hit where that isn't below INF
unfoldable pub lidded : Hit → Hit
lidded nearest = cond (is_ok nearest) nearest no_hit
