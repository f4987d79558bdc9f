-- Where a solid stands (document 02 (vii)): "the eye, taken back through each placing's inverse, outermost first", and the placings by which a ring's ends are "as placed".
use Rattle.std.specs.Prelude.{List, [], ◌∷◌, drop}
use Rattle.geometry.specs.declared.vector.Vector.{Vector}
use Rattle.matrix.specs.Matrices.{mul_m, mul_position}
use Rattle.matrix.specs.declared.Matrix.{Matrix}
use Rattle.view.specs.declared.RenderArgs.{RenderArgs}
use Rattle.path_chop.specs.Chop.{screen_of}
use Rattle.path_chop.specs.declared.Screen.{Screen}
use Rattle.draw_arcs.specs.declared.Placings.{Placings}
use Rattle.draw_arcs.specs.declared.Stance.{Stance}

-- the arguments as the solid sees them, the view's own screen, and the placings around the solid, innermost first
pub record Placement : Type 0 where
  pub args : RenderArgs
  pub screen : Screen
  pub placings : List Matrix

-- A solid that is not placed sees the view's own arguments.
unfoldable pub unplaced : RenderArgs → Placement
unplaced a = record { args = a; screen = screen_of a; placings = [] }

-- a placed part is seen in its own coordinates
unfoldable pub placed_args : Matrix → Matrix → RenderArgs → RenderArgs
placed_args m v a = record { screen = mul_m a.screen m; eye = mul_position v a.eye; width = a.width; height = a.height; step = a.step }

-- a placed part stands so: its matrix is the innermost
unfoldable pub placed_part : Matrix → Matrix → Placement → Placement
placed_part m v t = record { args = placed_args m v t.args; screen = t.screen; placings = m ∷ t.placings }

-- a point moved by one placing after the other, innermost first, as the points of a drawn line are
unfoldable pub moved_by : List Matrix → Vector → Vector
moved_by [] v = v
moved_by (m ∷ ms) v = moved_by ms (mul_position m v)

-- what the code holds
abbrev pub placings_of : Placings → List Matrix
placings_of p = drop p.free p.held

abbrev pub placement_of : Stance → Placement
placement_of t = record { args = t.args; screen = t.screen; placings = placings_of t.placings }
