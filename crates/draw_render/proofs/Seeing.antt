-- The eye test on the rows that the build leaves is that of the tree. Assumes nothing.
use mathlib.Core.Path.{◌≡◌, ◌∙◌, fun_ext}
use mathlib.Core.List.{List, [], ◌∷◌}
use Prim.Native.Nat.{ℕ}
use native.Mathlib.Omega.{arith}
use lib.Ieee.{Float}
use Rattle.floats.specs.Arith.{zero_f}
use Rattle.geometry.specs.declared.vector.Vector.{Vector}
use Rattle.geometry.specs.declared.ray.Ray.{Ray}
use Rattle.geometry.specs.declared.bounding_box.BBox.{BBox}
use Rattle.rows.specs.Rows.{flat, padded}
use Rattle.refusals.specs.declared.Refusal.{Refusal}
use Rattle.scene_shape.specs.Shapes.{decode, shape_hit}
use Rattle.tree_nodes.specs.Nodes.{box_rows, mark_rows}
use Rattle.tree_split.specs.Build.{tree_for, nodes_for, order_for}
use Rattle.tree_build.proofs.BuiltTree.{sensible-tree}
use Rattle.tree_walk.specs.Walks.{entry_hit, walk_rows}
use Rattle.tree_walk.proofs.Layouts.{walk_of-layout, walk_of-zeros}
use Rattle.tree_sight.specs.Sights.{eye_ray}
use Rattle.tree_sight.proofs.Answers.{sees-same}
use Rattle.query_scene.specs.Queries.{planted_of, if_built}
use Rattle.paths.specs.Paths.{paths_with}
use Rattle.paths.specs.Ends.{EndsBoth}
use Rattle.paths.proofs.Ending.{refuses-both}
use Rattle.draw_lines.proofs.Adding.{ends-both-as}
use Rattle.view.specs.declared.View.{View}
use Rattle.draw_clip.specs.Clip.{clip_paths, seen_from}
use Rattle.draw_render.specs.Render.{nearest_of, seen_by, on_tree, seen_lines}
use Rattle.std.specs.Prelude.{Err, Ok, Result}

module _ (ns vs : List Float) (ms : List ℕ) (box : ℕ → BBox) (nodeBoxes : List Float) (nodeMarks order : List ℕ) (B M O : ℕ) where
  near : (ids : List ℕ) → nodeBoxes ≡ padded zero_f B (box_rows (nodes_for box ids)) → nodeMarks ≡ padded 0 M (mark_rows (nodes_for box ids)) → order ≡ padded 0 O (order_for box ids)
      → (r : Ray) → walk_rows (entry_hit ns vs ms r) r nodeBoxes nodeMarks order ≡ nearest_of (decode 8 ns vs ms) box ids r
  unfolding nearest_of nodes_for order_for entry_hit flat
  near [] h m o r = rw m (walk_of-zeros (λ (k : ℕ). shape_hit (decode 8 ns vs ms k) r) r nodeBoxes M order)
  near (i ∷ ids) h m o r = rw (h, m, o) (walk_of-layout (λ (k : ℕ). shape_hit (decode 8 ns vs ms k) r) r (tree_for box (i ∷ ids)) (sensible-tree box (i ∷ ids) (omega arith)) B M O)

  seen-on-rows : (ids : List ℕ) → nodeBoxes ≡ padded zero_f B (box_rows (nodes_for box ids)) → nodeMarks ≡ padded 0 M (mark_rows (nodes_for box ids)) → order ≡ padded 0 O (order_for box ids)
      → (eye : Vector) → seen_from ns vs ms nodeBoxes nodeMarks order eye ≡ seen_by (decode 8 ns vs ms) box ids eye
  seen-on-rows ids h m o eye = fun_ext (λ (point : Vector). sees-same _ _ eye point (near ids h m o (eye_ray eye point)))

-- ---- steps 3 and 4: each way out
module _ (v : View) (ns vs : List Float) (ms : List ℕ) (box : ℕ → BBox) (ids : List ℕ) (nodes room : ℕ) (points : List Vector) (starts : List ℕ) (places startRoom : ℕ)
    {b : Result ℕ Refusal} (planted : b ≡ planted_of box ids nodes room) where
  -- there is no room for the tree
  pub unplanted-is : {k : Refusal} → b ≡ Err k → seen_lines v nodes room (decode 8 ns vs ms) box ids places startRoom (paths_with points starts) ≡ Err k
  unfolding seen_lines on_tree
  unplanted-is h = rw (← planted, h)

  pub unplanted : {k : Refusal} → b ≡ Err k → (ys : List Float) (us : List ℕ)
      → EndsBoth (seen_lines v nodes room (decode 8 ns vs ms) box ids places startRoom (paths_with points starts)) ys us (Err k)
  unplanted h ys us = refuses-both ys us (unplanted-is h)

  -- or the points are filtered on its rows
  pub seen-is : {n : ℕ} → b ≡ Ok n → (nodeBoxes : List Float) (nodeMarks order : List ℕ) (B M O : ℕ) → nodeBoxes ≡ padded zero_f B (box_rows (if_built b (nodes_for box ids)))
      → nodeMarks ≡ padded 0 M (mark_rows (if_built b (nodes_for box ids))) → order ≡ padded 0 O (if_built b (order_for box ids))
      → seen_lines v nodes room (decode 8 ns vs ms) box ids places startRoom (paths_with points starts) ≡ clip_paths v.matrix (seen_from ns vs ms nodeBoxes nodeMarks order v.eye) points starts places startRoom
  unfolding seen_lines on_tree if_built
  seen-is e nodeBoxes nodeMarks order B M O h m o =
      let s = seen-on-rows ns vs ms box nodeBoxes nodeMarks order B M O ids (h ∙ rw e) (m ∙ rw e) (o ∙ rw e) v.eye in
      rw (← planted, e, ← s)

  pub seen-lines : {n : ℕ} → b ≡ Ok n → (nodeBoxes : List Float) (nodeMarks order : List ℕ) (B M O : ℕ) → nodeBoxes ≡ padded zero_f B (box_rows (if_built b (nodes_for box ids)))
      → nodeMarks ≡ padded 0 M (mark_rows (if_built b (nodes_for box ids))) → order ≡ padded 0 O (if_built b (order_for box ids)) → (ys : List Float) (us : List ℕ) {r : Result (ℕ × ℕ) Refusal}
      → EndsBoth (clip_paths v.matrix (seen_from ns vs ms nodeBoxes nodeMarks order v.eye) points starts places startRoom) ys us r
      → EndsBoth (seen_lines v nodes room (decode 8 ns vs ms) box ids places startRoom (paths_with points starts)) ys us r
  seen-lines e nodeBoxes nodeMarks order B M O h m o ys us f = ends-both-as (seen-is e nodeBoxes nodeMarks order B M O h m o) f
