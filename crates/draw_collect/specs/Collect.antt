-- The lines of drawn values (`paths` of shape.rs and csg.rs), pushed to a vector of paths.
use Rattle.std.specs.Prelude.{cond, List, [], ◌∷◌, ◌++◌, map, ℕ, length, take, drop, Err, Ok, Result}
use Rattle.matrix.specs.Matrices.{mul_position}
use Rattle.matrix.specs.declared.Matrix.{Matrix}
use Rattle.refusals.specs.declared.Refusal.TheVariants.{Point}
use Rattle.scene_shape.specs.Shapes.{Shape}
use Rattle.paths.specs.Answers.{next}
use Rattle.paths.specs.Paths.{Paths, paths_with, no_paths}
use Rattle.paths.specs.Judged.{points_ok}
use Rattle.view.specs.declared.RenderArgs.{RenderArgs}
use Rattle.path_chop.specs.Chop.{chop_paths}
use Rattle.draw_cuts.specs.Cuts.{cut_paths}
use Rattle.draw_lines.specs.Pushing.{add_paths}
use Rattle.draw_arcs.specs.Stances.{Placement, unplaced, placed_part}
use Rattle.draw_shown.specs.Shown.{or_outline}
use Rattle.path_append.specs.Append.{appended}
use Rattle.draw_collect.specs.Lined.{Lined, no_lines, lined, placed_lines, cut_lines, bare}
use Rattle.refusals.specs.declared.Refusal.{Refusal}

-- how many points and starts there are places for: in each vector of lines, and in the result of a chop
pub record LineRoom : Type 0 where
  pub points : ℕ
  pub starts : ℕ
  pub chopped : ℕ
  pub begins : ℕ

-- the points after the first n are moved (`transform`)
unfoldable pub moved_from : Matrix → ℕ → Paths → Paths
moved_from m n p = paths_with (take n p.vertices ++ map (mul_position m) (drop n p.vertices)) p.starts

-- points are handed to a chop or to simplification: document 01's number 9
unfoldable pub handed : Paths → Result Paths Refusal
handed p = cond (points_ok p.vertices) (Ok p) (Err Point)

-- lines that are handed to a chop
unfoldable pub chopped_lines : RenderArgs → ℕ → ℕ → Paths → Result Paths Refusal
chopped_lines a room startRoom p = next (handed p) (λ (q : Paths). chop_paths a q.vertices q.starts room startRoom)

-- the lines of a cut's parts chopped, even at step 0, and then filtered by the cut's own insides
unfoldable pub sifted : RenderArgs → LineRoom → Shape → Paths → Result Paths Refusal
sifted a w s p = next (chopped_lines a w.chopped w.begins p) (λ (c : Paths). cut_paths s c.vertices c.starts w.points w.starts)

-- The lines of a drawn value after those that there are; a round solid without any has its outline. A cut's are collected in a vector of their own, which is then appended.
unfoldable pub collected : Placement → LineRoom → Lined → Paths → Result Paths Refusal
collected t w no_lines p = Ok p
collected t w (lined s ps) p = add_paths w.points w.starts (or_outline t s ps) p
collected t w (placed_lines m v x) p = next (collected (placed_part m v t) w x p) (λ (q : Paths). Ok (moved_from m (length p.vertices) q))
collected t w (cut_lines o x y) p =
    next (next (collected t w x no_paths) (collected t w y))
    (λ (q : Paths). next (sifted t.args w (bare (cut_lines o x y)) q) (appended w.points w.starts p))

-- step 1 of a draw: the lines of each of these, in order
unfoldable pub collected_all : RenderArgs → LineRoom → (ℕ → Lined) → List ℕ → Paths → Result Paths Refusal
collected_all a w at [] p = Ok p
collected_all a w at (i ∷ is) p = next (collected (unplaced a) w (at i) p) (collected_all a w at is)
