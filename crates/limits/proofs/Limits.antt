-- What passes the tests has the limits that the laws of boxes and distances ask. Assumes nothing.
use mathlib.Core.Path.{◌≡◌}
use mathlib.Core.Bool.{Bool, true, ◌&&◌, and-eq-true_iff}
use Rattle.floats.specs.Numbers.{within}
use Rattle.geometry.specs.Limits.{Within}
use Rattle.geometry.specs.declared.vector.Vector.{Vector}
use Rattle.limits.specs.Limits.{within_point}
use lib.Dec.{T}

told : {b : Bool} → b ≡ true → T b
told e = rw e tt

pub within-point : (v : Vector) → within_point v ≡ true → Within v
unfolding within_point
within-point v h =
    let a = (and-eq-true_iff (within v.x) (within v.y && within v.z)).0 h in
    let b = (and-eq-true_iff (within v.y) (within v.z)).0 a.1 in
    record { x = told a.0; y = told b.0; z = told b.1 }
