-- Hits (hit.rs): a distance along a ray, and whether there is a hit.
use Rattle.std.specs.Prelude.{Bool, true, false, cond, Float}
use Rattle.std.specs.Float.Ieee.{lt, le}
use Rattle.floats.specs.Arith.{INF}
use Rattle.geometry.specs.declared.hit.Hit.{Hit}

abbrev pub hit_at : Float → Hit
hit_at d = record { t = d; ok = true }

-- document 01's `Hit::no_hit`
abbrev pub no_hit : Hit
no_hit = record { t = INF; ok = false }

unfoldable pub is_ok : Hit → Bool
is_ok h = lt h.t INF

unfoldable pub min_hit : Hit → Hit → Hit
min_hit g h = cond (le g.t h.t) g h

unfoldable pub max_hit : Hit → Hit → Hit
max_hit g h = cond (lt h.t g.t) g h
