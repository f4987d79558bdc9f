-- The hit and the insides of what an entry's kind and numbers may be, a simple solid: what is none is missed, and contains nothing.
use Rattle.std.specs.Prelude.{Bool, false, Float, None, Option, Some}
use Rattle.geometry.specs.Hits.{no_hit}
use Rattle.geometry.specs.declared.vector.Vector.{Vector}
use Rattle.geometry.specs.declared.ray.Ray.{Ray}
use Rattle.geometry.specs.declared.hit.Hit.{Hit}
use Rattle.solids.specs.Solids.{hit_of, contains_of}
use Rattle.solids.specs.declared.solid.Solid.{Solid}

unfoldable pub simple_hit : Option Solid → Ray → Hit
simple_hit (Some s) r = hit_of s r
simple_hit None r = no_hit

unfoldable pub simple_contains : Option Solid → Vector → Float → Bool
simple_contains (Some s) v f = contains_of s v f
simple_contains None v f = false
