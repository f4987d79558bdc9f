-- What a solid shows (document 02 (vii)): "an outline is drawn only where a round solid has neither handed-in lines nor stripes".
use Rattle.std.specs.Prelude.{Bool, true, false, ◌||◌, List, [], ◌∷◌, ℕ, ltb, eqb}
use Rattle.geometry.specs.declared.vector.Vector.{Vector}
use Rattle.solids.specs.declared.solid.Solid.{Solid}
use Rattle.solids.specs.declared.solid.Solid.TheVariants.{Sphere, Cylinder, Cone, Cube, Triangle, ClosedCylinder, ClosedCone}
use Rattle.draw_solids.specs.Lines.{solid_paths}
use Rattle.draw_arcs.specs.Stances.{Placement}
use Rattle.draw_outlines.specs.Outlines.{outline_of}

-- its lines, which are its stripes and those handed in for it, and its outline only where there are none; a handed-in path without points is one
unfoldable pub or_outline : Placement → Solid → List (List Vector) → List (List Vector)
or_outline t s [] = outline_of t s
or_outline t s (p ∷ ps) = p ∷ ps

unfoldable pub shown_paths : Placement → Solid → ℕ → List (List Vector) → List (List Vector)
shown_paths t s detail own = or_outline t s (solid_paths s detail own)

unfoldable pub has_paths : List (List Vector) → Bool
has_paths [] = false
has_paths (p ∷ ps) = true

-- whether a detail gives a cylinder or a cone no stripe, and a solid so; what has no outline is not asked
unfoldable pub no_stripes : ℕ → Bool
no_stripes detail = eqb detail 0 || ltb 360 detail

unfoldable pub stripeless : Solid → ℕ → Bool
stripeless (Sphere center radius) detail = true
stripeless (Cylinder radius z0 z1) detail = no_stripes detail
stripeless (Cone radius height) detail = no_stripes detail
stripeless (Cube min max) detail = true
stripeless (Triangle v1 v2 v3) detail = true
stripeless (ClosedCylinder radius z0 z1) detail = no_stripes detail
stripeless (ClosedCone radius height) detail = no_stripes detail
