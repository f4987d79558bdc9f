-- The filter of a draw (`ClipFilter` of filter.rs): what is projected into the clip box and seen from the eye is kept, as it is projected.
use Rattle.std.specs.Prelude.{◌≡◌, Bool, true, cond, List, ℕ, Float, Err, None, Ok, Option, Result, Some}
use Rattle.geometry.specs.Boxes.{clip_box, contains}
use Rattle.geometry.specs.Limits.{Within}
use Rattle.geometry.specs.declared.vector.Vector.{Vector}
use Rattle.geometry.specs.declared.ray.Ray.{Ray}
use Rattle.matrix.specs.Matrices.{mul_position_w}
use Rattle.matrix.specs.declared.Matrix.{Matrix}
use Rattle.refusals.specs.declared.Refusal.TheVariants.{Point}
use Rattle.limits.specs.Limits.{within_point}
use Rattle.tree_walk.specs.Walks.{entry_hit, walk_rows}
use Rattle.tree_sight.specs.Sights.{sees}
use Rattle.tree_sight.specs.declared.Sight.{Sight}
use Rattle.tree_sight.specs.declared.Sight.TheVariants.{Visible, Hidden}
use Rattle.tree_trust.specs.Trust.{Trusted, Uncut}
use Rattle.tree_glance.specs.Glances.{LastCover}
use Rattle.draw_memory.specs.Memory.{Remembered}
use Rattle.draw_clip.specs.declared.ClipSheet.{ClipSheet}
use Rattle.draw_clip.specs.declared.Memory.{Memory}
use Rattle.paths.specs.Paths.{Paths}
use Rattle.path_filter.specs.Filter.{filter_paths}
use Rattle.refusals.specs.declared.Refusal.{Refusal}

-- what the eye test's answer makes of a point that is projected to w
unfoldable pub by_sight : Vector → Result Sight Refusal → Result (Option Vector) Refusal
by_sight w (Ok Visible) = Ok (Some w)
by_sight w (Ok Hidden) = Ok None
by_sight w (Err k) = Err k

-- The clip box first; a point in it is put to the eye test, `seen`, in world coordinates, and is judged by number 9 before.
unfoldable pub clip_filter : Matrix → (Vector → Result Sight Refusal) → Vector → Result (Option Vector) Refusal
clip_filter matrix seen v = cond (contains clip_box (mul_position_w matrix v)) (cond (within_point v) (by_sight (mul_position_w matrix v) (seen v)) (Err Point)) (Ok None)

-- step 4 of a draw
abbrev pub clip_paths : Matrix → (Vector → Result Sight Refusal) → List Vector → List ℕ → ℕ → ℕ → Result Paths Refusal
clip_paths matrix seen = filter_paths (clip_filter matrix seen)

-- the eye test on the slices of a scene and of a tree
abbrev pub seen_from : List Float → List Float → List ℕ → List Float → List ℕ → List ℕ → Vector → Vector → Result Sight Refusal
seen_from numbers inverses marks nodeBoxes nodeMarks order = sees (λ (r : Ray). walk_rows (entry_hit numbers inverses marks r) r nodeBoxes nodeMarks order)

-- What the filter needs so that the eye test may leave something out: what is known of the tree, the eye and the solids; and what is kept from point to point.
pub record Prepared (numbers inverses : List Float) (marks : List ℕ) (boxes : List Float) (links order : List ℕ) (eye : Vector) (trusted calm : Bool) (cover stack : List ℕ) : Type 0 where
  pub tree : trusted ≡ true → Trusted boxes links order × Within eye
  pub solids : calm ≡ true → Uncut numbers inverses marks
  pub kept : LastCover boxes links order cover stack

-- What stands before and after each point: what is remembered of the ends of earlier paths, and what the eye test needs.
pub record FilterReady (matrix : Matrix) (numbers inverses : List Float) (marks : List ℕ) (boxes : List Float) (links order : List ℕ) (eye : Vector) (trusted calm : Bool) (ends : List Float) (known cover stack : List ℕ) : Type 0 where
  pub ends_told : Remembered (clip_filter matrix (seen_from numbers inverses marks boxes links order eye)) ends known
  pub prepared : Prepared numbers inverses marks boxes links order eye trusted calm cover stack

-- the filter of a sheet, and what stands before and after each point of it
abbrev pub test_of : ClipSheet → Vector → Result (Option Vector) Refusal
test_of s = clip_filter s.matrix (seen_from s.numbers.now s.inverses.now s.marks.now s.node_boxes.now s.node_marks.now s.order.now s.eye)

abbrev pub SheetReady : ClipSheet → Memory → Type 0
SheetReady s m = FilterReady s.matrix s.numbers.now s.inverses.now s.marks.now s.node_boxes.now s.node_marks.now s.order.now s.eye s.trusted s.calm m.ends m.known m.cover m.stack
