-- Scenes that bear Demand3 out: that it speaks of something, and why it says no more than it does. What is said of them is computed (proofs/).
use Rattle.std.specs.Prelude.{ℕ, ◌-◌, ◌≤◌, ◌≡◌, not, List, [], ◌∷◌, ◌++◌, length, T, Float, Ok, Result, Some}
use Rattle.std.specs.Float.Ieee.{eq}
use Rattle.floats.specs.Arith.{bits, zero_f, half_f, one_f, two_f, millionth}
use Rattle.geometry.specs.Vectors.{vec, distance_of}
use Rattle.geometry.specs.Boxes.{minus_one}
use Rattle.geometry.specs.declared.vector.Vector.{Vector}
use Rattle.matrix.specs.Matrices.{identity_m}
use Rattle.lists.specs.Lists.{Member}
use Rattle.scene.specs.Scenes.{Scene, scene_of}
use Rattle.scene_shape.specs.Shapes.{Shape}
use Rattle.check_parts.specs.Drawn.{drawn}
use Rattle.tree_sight.specs.Sights.{Answered}
use Rattle.tree_sight.specs.declared.Sight.{Sight}
use Rattle.tree_sight.specs.declared.Sight.TheVariants.{Visible, Hidden}
use Rattle.query_scene.specs.Queries.{occluder_of}
use Rattle.theorem_solids.specs.Same.{SameSolid}
use Rattle.paths.specs.Paths.{Paths, paths_with, no_paths}
use Rattle.path_rdp.specs.Rdp.{vertex}
use Rattle.view.specs.declared.View.{View}
use Rattle.theorem_filters.specs.Passing.{LeftAfterClipping}
use Rattle.draw_render.specs.Render.{Places}
use Rattle.draw.specs.Drawing.{solid_in, Drawing}
use Rattle.theorem_draws.specs.Sheets.{Put}
use Rattle.theorem_demand3.specs.Demand3.{Covers, Premise, Draws, RowsLeft, Answers, Simplified}
use Rattle.refusals.specs.declared.Refusal.{Refusal}

-- ---- what the scenes are made of
abbrev five : Float
five = bits 0x4014_0000_0000_0000

-- the 16 numbers of an entry: the first nine, and those of a cube by its two corners
abbrev nine : Float → Float → Float → Float → Float → Float → Float → Float → Float → List Float
nine a b c d e f g h i = a ∷ b ∷ c ∷ d ∷ e ∷ f ∷ g ∷ h ∷ i ∷ zero_f ∷ zero_f ∷ zero_f ∷ zero_f ∷ zero_f ∷ zero_f ∷ zero_f ∷ []

abbrev corners : Float → Float → Float → Float → Float → Float → List Float
corners a b c d e f = nine a b c d e f zero_f zero_f zero_f

-- the marks of a cube with one stripe
abbrev plain_cube : List ℕ
plain_cube = 4 ∷ 1 ∷ 0 ∷ 0 ∷ []

abbrev pub at_origin : Vector
at_origin = vec zero_f zero_f zero_f

-- ---- the eye test: document 01's cube from −1 to 1, seen from (0, 0, 5)
abbrev pub cube_yard : Scene
cube_yard = scene_of (corners minus_one minus_one minus_one one_f one_f one_f) plain_cube [] [] []

abbrev pub overhead : Vector
overhead = vec zero_f zero_f five

abbrev pub far_side : Vector
far_side = vec zero_f zero_f minus_one

abbrev pub near_side : Vector
near_side = vec zero_f zero_f one_f

-- The cube covers the middle of its far side, which meets the premise and is hidden, and the cube is named; it does not cover the middle of its near side,
-- which is visible.
pub record CubeCovers : Type 0 where
  pub same_rows : (boxes : List Float) × (marks order : List ℕ) × RowsLeft cube_yard boxes marks order × (occluder_of cube_yard boxes marks order overhead far_side ≡ Ok (Some 0))
  pub covers : Covers (solid_in cube_yard 0) overhead far_side
  pub premise : Premise overhead far_side
  pub hidden : Answers cube_yard overhead far_side (Ok Hidden)
  pub uncovered : Covers (solid_in cube_yard 0) overhead near_side → ⊥
  pub visible : Answers cube_yard overhead near_side (Ok Visible)

-- ---- a draw: document 01's yard of one triangle, its view, and the drawing that document 01 prints
abbrev triangle : List Float
triangle = nine zero_f zero_f zero_f half_f zero_f zero_f zero_f half_f zero_f

abbrev pub sample_yard : Scene
sample_yard = scene_of triangle (5 ∷ 0 ∷ 0 ∷ 0 ∷ []) [] [] []

abbrev pub sample_view : View
sample_view = record { matrix = identity_m; eye = overhead; width = two_f; height = two_f; step = zero_f }

abbrev pub sample_places : Places
sample_places = record { lines = record { points = 8; starts = 8; chopped = 8; begins = 8 }; nodes = 8; order = 8; points = 8; starts = 8 }

abbrev pub sample_drawing : Paths
sample_drawing =
    paths_with (vec one_f one_f zero_f ∷ vec (bits 0x3ff8_0000_0000_0000) one_f zero_f ∷ vec one_f (bits 0x3ff8_0000_0000_0000) zero_f ∷ vec one_f one_f zero_f ∷ []) (0 ∷ [])

-- the same yard behind a cube of z from 2 to 3
abbrev pub sample_behind : Scene
sample_behind =
    scene_of (triangle ++ corners minus_one minus_one two_f one_f one_f (bits 0x4008_0000_0000_0000)) (5 ∷ 0 ∷ 0 ∷ 0 ∷ plain_cube) [] [] []

abbrev pub wider_places : Places
wider_places = record { lines = record { points = 64; starts = 64; chopped = 64; begins = 64 }; nodes = 8; order = 8; points = 64; starts = 64 }

-- the view with step 1000, and what is left of the triangle's line with the threshold 1: its ends, of which both are its first corner
abbrev pub stepping_view : View
stepping_view = record { matrix = identity_m; eye = overhead; width = two_f; height = two_f; step = bits 0x408f_4000_0000_0000 }

abbrev pub coarse_drawing : Paths
coarse_drawing = paths_with (vec one_f one_f zero_f ∷ vec one_f one_f zero_f ∷ []) (0 ∷ [])

-- The draw, with the threshold of `yard`, is answered with that drawing; so is the one with step > 0, and with the threshold 1 two of the four vertices
-- are dropped. Behind the cube, whose own corners are clipped away, it is answered with an empty sheet: a corner of the triangle is put to step 4 and left
-- after clipping, and the cube covers it.
pub record SampleDraws : Type 0 where
  pub sheet : Drawing millionth sample_yard sample_view sample_places sample_drawing
  pub stepped : Drawing millionth sample_yard stepping_view sample_places sample_drawing
  pub coarse : Drawing one_f sample_yard stepping_view sample_places coarse_drawing
  pub empty : Drawing millionth sample_behind sample_view wider_places no_paths
  pub put : Put empty at_origin
  pub left : LeftAfterClipping sample_view.matrix at_origin
  pub covers : Covers (solid_in sample_behind 1) sample_view.eye at_origin
  pub premise : Premise sample_view.eye at_origin

-- ---- the premise on −0: a flat cube at x = 0, alone and with a cube of x from 0 to 1 beside it, and the point (0, 0, 0) seen from (−0, 0, 5)
abbrev flat : List Float
flat = corners zero_f minus_one one_f zero_f one_f two_f

abbrev pub flat_alone : Scene
flat_alone = scene_of flat plain_cube [] [] []

abbrev pub flat_beside : Scene
flat_beside = scene_of (flat ++ corners zero_f minus_one one_f one_f one_f two_f) (plain_cube ++ plain_cube) [] [] []

abbrev pub minus_eye : Vector
minus_eye = vec (bits 0x8000_0000_0000_0000) zero_f five

-- Without "no direction component is −0" the demand is false: the flat cube covers the point and alone hides it, and the cube beside it brings the point back.
pub record MinusZeroNeeded : Type 0 where
  pub same : SameSolid flat_alone.numbers flat_alone.marks flat_beside.numbers flat_beside.marks 0 0
  pub remains : Member 0 (drawn flat_beside.marks)
  pub covers : Covers (solid_in flat_alone 0) minus_eye at_origin
  pub apart : T (not (eq (distance_of minus_eye at_origin) zero_f))
  pub hidden : Answers flat_alone minus_eye at_origin (Ok Hidden)
  pub back : Answers flat_beside minus_eye at_origin (Ok Visible)
  -- seen from (+0, 0, 5) it is hidden in both
  pub plus-zero : Answers flat_beside overhead at_origin (Ok Hidden)
  -- covered_stays_hidden, with the premise on the computed distance alone
  pub refuted : ((solid : Shape) (eye point : Vector) → Covers solid eye point → T (not (eq (distance_of eye point) zero_f))
      → (s : Scene) → Draws s solid → (a : Result Sight Refusal) → Answered a → Answers s eye point a → a ≡ Ok Hidden) → ⊥

-- ---- hidden and not covered: document 01's cube less a box, and the point (0, 0, 5) seen from (0, 0, 0.5), in the hole
abbrev minus_half : Float
minus_half = bits 0xbfe0_0000_0000_0000

abbrev bin_by : ℕ → Scene
bin_by operation =
    scene_of
    (corners minus_one minus_one minus_one one_f one_f one_f ++ corners minus_half minus_half zero_f half_f half_f two_f ++ corners zero_f zero_f zero_f zero_f zero_f zero_f)
    (4 ∷ 1 ∷ 0 ∷ 0 ∷ 4 ∷ 1 ∷ 0 ∷ 0 ∷ 7 ∷ operation ∷ 0 ∷ 1 ∷ []) [] [] []

abbrev pub open_bin : Scene
open_bin = bin_by 1

-- the same with the true distance (document 02, vi)
abbrev pub true_bin : Scene
true_bin = bin_by 3

abbrev pub bin_eye : Vector
bin_eye = vec zero_f zero_f half_f

-- Why hidden_names asks for a solid whose own returned distance falls short, and not for one that covers: the cut's t on the ray down is near 0.99, so the
-- point is hidden before the surface, and the one drawn solid does not cover it.
pub record ShortNotCovering : Type 0 where
  pub hidden : Answers open_bin bin_eye overhead (Ok Hidden)
  pub one_drawn : drawn open_bin.marks ≡ 2 ∷ []
  pub uncovered : Covers (solid_in open_bin 2) bin_eye overhead → ⊥
  -- hidden_names, if it asked for a solid that covers
  pub refuted : ((s : Scene) (eye point : Vector) → Answers s eye point (Ok Hidden) → (solid : Shape) × Draws s solid × Covers solid eye point) → ⊥

-- With operation 3 the same point stands: the cut's distance is that of its surface, beyond the eye.
abbrev pub TrueBinClear : Type 0
TrueBinClear = Answers true_bin bin_eye overhead (Ok Visible)

-- ---- a lid that hides (document 02, iii): a cylinder of radius 1 and z from −1 to 1, and the point (0, 0, −2) below it seen from (0, 0, 5), along its axis
abbrev cylinder_by : ℕ → Scene
cylinder_by kind = scene_of (nine one_f minus_one one_f zero_f zero_f zero_f zero_f zero_f zero_f) (kind ∷ 0 ∷ 0 ∷ 0 ∷ []) [] [] []

abbrev pub open_tube : Scene
open_tube = cylinder_by 2

abbrev pub closed_tube : Scene
closed_tube = cylinder_by 8

abbrev pub below : Vector
below = vec zero_f zero_f (bits 0xc000_0000_0000_0000)

-- Demand 3 holds with lids too: the closed one covers the point and hides it, which stands behind the open one.
pub record LidHides : Type 0 where
  pub covers : Covers (solid_in closed_tube 0) overhead below
  pub premise : Premise overhead below
  pub hidden : Answers closed_tube overhead below (Ok Hidden)
  pub unlidded : Answers open_tube overhead below (Ok Visible)

-- ---- a sham: every point called hidden, before a solid is tried
-- By hidden_names alone: where no entry is drawn no point is hidden.
abbrev pub NoneHidesNone : Type 0
NoneHidesNone = (s : Scene) (eye point : Vector) → drawn s.marks ≡ [] → Answers s eye point (Ok Hidden) → ⊥

-- ---- ends: what `Simplified` says of a path that has points, in plain words
-- The first vertex is the first and the last the last, whatever is dropped between, and no vertex is added.
pub record EndsKept (t : Float) (p q : List Vector) : Type 0 where
  pub first : vertex q 0 ≡ vertex p 0
  pub last : vertex q (length q - 1) ≡ vertex p (length p - 1)
  pub no_more : length q ≤ length p

abbrev pub SimplifiedKeepsEnds : Type 0
SimplifiedKeepsEnds = (t : Float) (p q : List Vector) → 1 ≤ length p → Simplified t p q → EndsKept t p q

-- So a program that puts a point behind the end of a path of two, whatever point it is, does not simplify in this sense.
abbrev pub NothingBehind : Type 0
NothingBehind = (t : Float) (a b c : Vector) → Simplified t (a ∷ b ∷ []) (a ∷ b ∷ c ∷ []) → ⊥
