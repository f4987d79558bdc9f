use mathlib.Core.Path.{◌≡◌}
use mathlib.Core.Bool.{Bool}
use lib.Ieee.{Float}
use Rattle.floats.specs.Arith.{◌⊘◌}
use Rattle.geometry.specs.Vectors.{vec, mul_scalar}
use Rattle.geometry.specs.declared.vector.Vector.{Vector}
use Rattle.geometry.specs.declared.ray.Ray.{Ray}
use Rattle.tree_beams.specs.Beams.{aim_of, is_sure, below_one}
use Rattle.tree_beams.specs.declared.Beam.{Beam}
use Rattle.tree_beams.proofs.aim.Goals as goal

made : (r : Ray) (v : Vector) (length : Float) (i low : Vector) (s : Bool) → i ≡ vec (length ⊘ v.x) (length ⊘ v.y) (length ⊘ v.z)
    → low ≡ mul_scalar i below_one → s ≡ is_sure r.direction low
    → ◌≡◌ {A = Beam} (record { ray = r; low = low; sure = s }) (aim_of r v length)
unfolding aim_of
made r v length i low s e k h = rw (h, k, e)

pub returns-then-shown-2 : goal.returns-then-shown-2
unfolding is_sure
returns-then-shown-2 c =
    made _ _ _ _ _ _ c.new.ensures c.mul_scalar-low.ensures
    (rw (← c.shown.ensures, c.if-shown.true, ← c.shown-then-shown.ensures, c.if-shown-2.true) c.shown-sure.ensures)

pub returns-else-shown-2 : goal.returns-else-shown-2
unfolding is_sure
returns-else-shown-2 c =
    made _ _ _ _ _ _ c.new.ensures c.mul_scalar-low.ensures
    (rw (← c.shown.ensures, c.if-shown.true, ← c.shown-then-shown.ensures, c.if-shown-2.false))

pub returns-else-shown : goal.returns-else-shown
unfolding is_sure
returns-else-shown c =
    made _ _ _ _ _ _ c.new.ensures c.mul_scalar-low.ensures
    (rw (← c.shown.ensures, c.if-shown.false))
