-- Document 01 on step 4 of a draw: a point left after clipping is passed exactly if visible answers yes. And on a cut's lines.
use Rattle.std.specs.Prelude.{◌≡◌, true, List, ℕ, T, None, Ok, Result, Some}
use Rattle.floats.specs.Arith.{zero_f}
use Rattle.geometry.specs.Boxes.{clip_box, contains}
use Rattle.geometry.specs.declared.vector.Vector.{Vector}
use Rattle.matrix.specs.Matrices.{mul_position_w}
use Rattle.matrix.specs.declared.Matrix.{Matrix}
use Rattle.lists.specs.Lists.{Member}
use Rattle.scene_shape.specs.Shapes.{Shape, shape_contains}
use Rattle.tree_sight.specs.declared.Sight.{Sight}
use Rattle.tree_sight.specs.declared.Sight.TheVariants.{Visible, Hidden}
use Rattle.paths.specs.Paths.{Paths, paths_of}
use Rattle.draw_clip.specs.Clip.{clip_filter, clip_paths}
use Rattle.draw_cuts.specs.Cuts.{cut_filter}
use Rattle.theorem_filters.specs.Kept.{Tested}
use Rattle.refusals.specs.declared.Refusal.{Refusal}

-- either says the other
abbrev pub Exactly : Type 0 → Type 0 → Type 0
Exactly A B = (A → B) × (B → A)

-- document 01's left after clipping: the point is projected into the clip box
abbrev pub LeftAfterClipping : Matrix → Vector → Type 0
LeftAfterClipping matrix v = T (contains clip_box (mul_position_w matrix v))

-- document 01's passes, of step 4 and a point: it is kept, as it is projected
abbrev pub Passed : Matrix → (Vector → Result Sight Refusal) → Vector → Type 0
Passed matrix seen v = clip_filter matrix seen v ≡ Ok (Some (mul_position_w matrix v))

-- document 01's dropped as hidden: visible answers no on a point left after clipping
pub record DroppedAsHidden (matrix : Matrix) (seen : Vector → Result Sight Refusal) (v : Vector) : Type 0 where
  pub left : LeftAfterClipping matrix v
  pub dropped : clip_filter matrix seen v ≡ Ok None

-- A point left after clipping, where the filter is answered on it, is passed exactly if visible answers yes.
abbrev pub PassedExactlyIfVisible : Type 0
PassedExactlyIfVisible =
    (matrix : Matrix) (seen : Vector → Result Sight Refusal) (v : Vector) → LeftAfterClipping matrix v → Tested (clip_filter matrix seen v) → Exactly (Passed matrix seen v) (seen v ≡ Ok Visible)

-- It is dropped as hidden exactly if visible answers no.
abbrev pub DroppedExactlyIfHidden : Type 0
DroppedExactlyIfHidden =
    (matrix : Matrix) (seen : Vector → Result Sight Refusal) (v : Vector) → LeftAfterClipping matrix v → Tested (clip_filter matrix seen v) → Exactly (DroppedAsHidden matrix seen v) (seen v ≡ Ok Hidden)

-- A point that is not left after clipping is dropped, whatever is seen.
abbrev pub ClippedIsDropped : Type 0
ClippedIsDropped =
    (matrix : Matrix) (seen : Vector → Result Sight Refusal) (v : Vector) → (LeftAfterClipping matrix v → ⊥) → clip_filter matrix seen v ≡ Ok None

-- Step 4, where it is answered: each point of each path that is left after clipping is passed exactly if visible answers yes, and dropped as hidden
-- exactly if it answers no.
abbrev pub StepPasses : Type 0
StepPasses =
    (matrix : Matrix) (seen : Vector → Result Sight Refusal) (vs : List Vector) (ss : List ℕ) (room startRoom : ℕ) (q : Paths) → clip_paths matrix seen vs ss room startRoom ≡ Ok q
    → (p : List Vector) → Member p (paths_of vs ss) → (v : Vector) → Member v p → LeftAfterClipping matrix v
    → Exactly (Passed matrix seen v) (seen v ≡ Ok Visible) × Exactly (DroppedAsHidden matrix seen v) (seen v ≡ Ok Hidden)

-- A cut's lines: a point is kept, as it is, exactly if the cut contains it.
abbrev pub CutKeepsInside : Type 0
CutKeepsInside =
    (s : Shape) (v : Vector) → Exactly (cut_filter s v ≡ Ok (Some v)) (shape_contains s v zero_f ≡ true)
