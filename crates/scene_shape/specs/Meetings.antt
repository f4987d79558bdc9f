-- Where a ray meets an entry: a placing at its part, any other at itself.
use Rattle.std.specs.Prelude.{ℕ, ◌-◌, Bool, true, false, cond, Float, None, Option, Result, Some}
use Rattle.floats.specs.Arith.{one_f}
use Rattle.geometry.specs.declared.ray.Ray.{Ray}
use Rattle.matrix.specs.Matrices.{mul_ray}
use Rattle.matrix.specs.declared.Matrix.{Matrix}
use Rattle.scene.specs.declared.entry.Parts.{Parts}
use Rattle.scene.specs.declared.entry.Parts.TheVariants.{Placed, Cut}
use Rattle.scene_shape.specs.declared.Meeting.{Meeting}
use Rattle.scene_shape.specs.Cuts.{rescaled}
use Rattle.geometry.specs.declared.hit.Hit.{Hit}
use Rattle.refusals.specs.declared.Refusal.{Refusal}

-- whether an entry is a placing, by the parts that it names
unfoldable pub placing : Option Parts → Bool
placing (Some (Placed k)) = true
placing (Some (Cut o a b)) = false
placing None = false

abbrev pub itself : ℕ → Ray → ℕ → Meeting
itself i r depth = record { i = i; ray = r; placed = false; scale = one_f; depth = depth }

-- by the inverse v of a placing, and the levels that are left
unfoldable pub meeting_of : Matrix → Option Parts → ℕ → Ray → ℕ → Meeting
meeting_of v (Some (Placed k)) i r depth = record { i = k; ray = (mul_ray v r).ray; placed = true; scale = (mul_ray v r).scale; depth = depth - 1 }
meeting_of v (Some (Cut o a b)) i r depth = itself i r depth
meeting_of v None i r depth = itself i r depth

-- the part's answer as the entry's
unfoldable pub told_by : Bool → Float → Result Hit Refusal → Result Hit Refusal
told_by placed scale a = cond placed (rescaled scale a) a
