-- Document 01's terms of demand 3, of a scene and of the public calls on it.
use Rattle.std.specs.Prelude.{ℕ, ◌≡◌, List, Float, Ok}
use Rattle.floats.specs.Arith.{zero_f}
use Rattle.geometry.specs.declared.vector.Vector.{Vector}
use Rattle.rows.specs.Rows.{padded}
use Rattle.scene_shape.specs.Shapes.{Shape, shape_box, shape_hit, solid_of}
use Rattle.tree_nodes.specs.Nodes.{box_rows, mark_rows}
use Rattle.check_parts.specs.Drawn.{drawn}
use Rattle.scene.specs.Scenes.{Scene}
use Rattle.theorem_hiding.specs.Covers.{ShortBy, CoversBy, Holds}
use Rattle.query_scene.specs.Queries.{scene_nodes, scene_order, build_of}

-- document 01's covers: the solid covers the point as seen from the eye. It hangs on solid, point and eye alone.
abbrev pub CoversPoint : Shape → Vector → Vector → Type 0
CoversPoint = CoversBy shape_box shape_hit

-- document 01's falls short: the solid's own returned distance falls short of the eye
abbrev pub Short : Shape → Vector → Vector → Type 0
Short = ShortBy shape_hit

-- document 01's holds: the scene draws this solid
abbrev pub DrawsSolid : Scene → Shape → Type 0
DrawsSolid s = Holds (solid_of s.numbers s.marks) (drawn s.marks)

-- the rows that a build leaves of the scene, where document 01's build is answered: those of the tree, then zeros
pub record BuiltRows (s : Scene) (nodeBoxes : List Float) (nodeMarks order : List ℕ) : Type 0 where
  pub places : ℕ
  pub room : ℕ
  pub count : ℕ
  pub answered : build_of s places room ≡ Ok count
  pub B : ℕ
  pub M : ℕ
  pub O : ℕ
  pub boxes_are : nodeBoxes ≡ padded zero_f B (box_rows (scene_nodes s))
  pub marks_are : nodeMarks ≡ padded 0 M (mark_rows (scene_nodes s))
  pub order_is : order ≡ padded 0 O (scene_order s)
