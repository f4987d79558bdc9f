-- A view: what is asked of it (document 01's number 8), and the matrices that `render` makes of it (scene.rs).
use Rattle.std.specs.Prelude.{Bool, ◌&&◌, Float}
use Rattle.std.specs.Float.Ieee.{lt, le}
use Rattle.floats.specs.Arith.{◌⊘◌, bits, zero_f, one_f, two_f, million}
use Rattle.geometry.specs.Vectors.{vec}
use Rattle.matrix.specs.Matrices.{translate_m, scale_m, mul_m}
use Rattle.matrix.specs.declared.Matrix.{Matrix}
use Rattle.limits.specs.Limits.{within_point, finite_matrix}
use Rattle.view.specs.declared.View.{View}
use Rattle.view.specs.declared.RenderArgs.{RenderArgs}

-- 1000.0
abbrev pub thousand : Float
thousand = bits 0x408f_4000_0000_0000

-- a width or height, above 0 and up to 1,000,000
unfoldable pub extent_ok : Float → Bool
extent_ok x = lt zero_f x && le x million

-- from 0 to 1,000
unfoldable pub step_ok : Float → Bool
step_ok x = le zero_f x && le x thousand

-- number 8 is not met
unfoldable pub view_ok : View → Bool
view_ok v =
    finite_matrix v.matrix
    && (within_point v.eye && (extent_ok v.width && (extent_ok v.height && step_ok v.step)))

-- from the clip box to the sheet
unfoldable pub viewport : Float → Float → Matrix
viewport width height = mul_m (scale_m (vec (width ⊘ two_f) (height ⊘ two_f) one_f)) (translate_m (vec one_f one_f zero_f))

unfoldable pub args_of : View → RenderArgs
args_of v = record { screen = mul_m (viewport v.width v.height) v.matrix; eye = v.eye; width = v.width; height = v.height; step = v.step }
