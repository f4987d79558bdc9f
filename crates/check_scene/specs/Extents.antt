-- Document 01's number 7: each entry's box is within 1,000,000. Boxes are formed in entry order, from those of the parts.
use Rattle.std.specs.Prelude.{ℕ, ◌/◌, ◌<◌, ◌≡◌, true, cond, List, length, ltb, Float, None, Option, Some}
use Rattle.floats.specs.Arith.{zero_f}
use Rattle.geometry.specs.Vectors.{vec}
use Rattle.geometry.specs.Boxes.{box_of, extend_box}
use Rattle.geometry.specs.declared.bounding_box.BBox.{BBox}
use Rattle.matrix.specs.Matrices.{mul_box}
use Rattle.rows.specs.Rows.{row}
use Rattle.rows.specs.Points.{box_of_row}
use Rattle.solids.specs.Solids.{solid_box}
use Rattle.scene.specs.Entries.{entry_at, own_entry}
use Rattle.scene.specs.declared.entry.Entry.{Entry}
use Rattle.scene.specs.declared.entry.Entry.TheVariants.{Simple, Placed, Cut}
use Rattle.scene_shape.specs.Shapes.{solid_of, shape_box}
use Rattle.check_parts.specs.Parts.{parts_ok}
use Rattle.scene.specs.Scenes.{entries}

abbrev pub zero_box : BBox
zero_box = box_of (vec zero_f zero_f zero_f) (vec zero_f zero_f zero_f)

-- box k of a list of rows
unfoldable pub stored_box : List Float → ℕ → BBox
stored_box boxes k = cond (ltb k (length boxes / 6)) (box_of_row (row 6 k boxes)) zero_box

-- an entry's box, where f gives those of its parts
unfoldable pub entry_box : (ℕ → BBox) → Option Entry → BBox
entry_box f (Some (Simple s)) = solid_box s
entry_box f (Some (Placed m v k)) = mul_box m (f k)
entry_box f (Some (Cut o a b)) = extend_box (f a) (f b)
entry_box f None = zero_box

-- document 01's own box of the solid at entry i
abbrev pub own_box : List Float → List ℕ → ℕ → BBox
own_box numbers marks i = shape_box (solid_of numbers marks i)

-- the scene names its parts well, and the inverses beside it are those of its placings
pub record Readable (numbers inverses : List Float) (marks : List ℕ) : Type 0 where
  pub parts : parts_ok marks (entries marks) ≡ true
  pub same : (i : ℕ) → i < entries marks → entry_at numbers inverses marks i ≡ own_entry numbers marks i
