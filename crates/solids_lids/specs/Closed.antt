-- Document 02's closed cylinder and closed cone (iii). `wall` is the hit that the open solid, document 01's tube or cone, gives the ray; of equal
-- distances the wall's, then the lower disc's, is kept.
use Rattle.std.specs.Prelude.{Bool, ◌&&◌, Float}
use Rattle.std.specs.Float.Ieee.{le, neg}
use Rattle.floats.specs.Arith.{◌⊕◌, ◌⊖◌, ◌⊗◌, ◌⊘◌, zero_f}
use Rattle.geometry.specs.Vectors.{vec, length_of}
use Rattle.geometry.specs.Hits.{min_hit}
use Rattle.geometry.specs.declared.vector.Vector.{Vector}
use Rattle.geometry.specs.declared.ray.Ray.{Ray}
use Rattle.geometry.specs.declared.hit.Hit.{Hit}
use Rattle.solids_lids.specs.Discs.{disc_hit, lidded}

-- discs at z0 and at z1
unfoldable pub closed_cylinder_hit : Hit → Float → Float → Float → Ray → Hit
closed_cylinder_hit wall radius z0 z1 ray = lidded (min_hit (min_hit wall (disc_hit radius z0 ray)) (disc_hit radius z1 ray))

-- a disc at 0
unfoldable pub closed_cone_hit : Hit → Float → Ray → Hit
closed_cone_hit wall radius ray = lidded (min_hit wall (disc_hit radius zero_f ray))

-- −f <= z <= height + f, and the length of (x, y) is at most radius × (height − z) / height + f
unfoldable pub closed_cone_contains : Float → Float → Vector → Float → Bool
closed_cone_contains radius height v f =
    le (neg f) v.z && (le v.z (height ⊕ f) && le (length_of (vec v.x v.y zero_f)) (radius ⊗ (height ⊖ v.z) ⊘ height ⊕ f))
