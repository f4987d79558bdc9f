-- What the program counts: the answers of the public calls on small scenes that are not the expected ones.
use Rattle.std.specs.Prelude.{ℕ, ◌+◌, cond, List, [], eqb, Float, Err, None, Ok, Option, Result, Some}
use Rattle.std.specs.Float.Ieee.{eq}
use Rattle.floats.specs.Arith.{zero_f}
use Rattle.geometry.specs.Hits.{hit_at}
use Rattle.geometry.specs.declared.hit.Hit.{Hit}
use Rattle.geometry.specs.declared.ray.Ray.{Ray}
use Rattle.geometry.specs.declared.vector.Vector.{Vector}
use Rattle.rows.specs.Rows.{padded}
use Rattle.refusals.specs.Refusals.{number_of}
use Rattle.refusals.specs.declared.Refusal.TheVariants.{Room}
use Rattle.scene.specs.Scenes.{Scene, scene_of}
use Rattle.tree_nodes.specs.Nodes.{box_rows, mark_rows}
use Rattle.tree_walk.specs.declared.Nearest.{Nearest}
use Rattle.tree_sight.specs.declared.Sight.{Sight}
use Rattle.tree_sight.specs.declared.Sight.TheVariants.{Visible, Hidden}
use Rattle.query_scene.specs.Queries.{scene_nodes, scene_order, build_of, if_built, intersect_of, visible_of, occluder_of}
use Rattle.test_words.specs.Words.{flag_of}
use Rattle.test_words.specs.Counts.{missed}
use Rattle.refusals.specs.declared.Refusal.{Refusal}

-- ---- 1 if the two differ, else 0
abbrev pub unequal : ℕ → ℕ → ℕ
unequal a b = missed (eqb a b)

unfoldable pub differ_built : Result ℕ Refusal → Result ℕ Refusal → ℕ
differ_built (Ok m) (Ok n) = unequal m n
differ_built (Ok m) (Err k) = 1
differ_built (Err j) (Ok n) = 1
differ_built (Err j) (Err k) = unequal (number_of j) (number_of k)

unfoldable pub differ_hit : Hit → Hit → ℕ
differ_hit g h = cond (eq g.t h.t) (unequal (flag_of g.ok) (flag_of h.ok)) 1

unfoldable pub differ_nearest : Nearest → Nearest → ℕ
differ_nearest a b = cond (eqb a.entry b.entry) (differ_hit a.hit b.hit) 1

unfoldable pub differ_found : Result Nearest Refusal → Result Nearest Refusal → ℕ
differ_found (Ok a) (Ok b) = differ_nearest a b
differ_found (Ok a) (Err k) = 1
differ_found (Err j) (Ok b) = 1
differ_found (Err j) (Err k) = unequal (number_of j) (number_of k)

-- 0 for no, 1 for yes, or the refusal's number
unfoldable pub sight_code : Result Sight Refusal → ℕ
sight_code (Ok Visible) = 1
sight_code (Ok Hidden) = 0
sight_code (Err k) = number_of k

abbrev pub differ_sight : Result Sight Refusal → Result Sight Refusal → ℕ
differ_sight a b = unequal (sight_code a) (sight_code b)

-- 0 where nobody hides the point, the refusal's number, or 16 and the entry
unfoldable pub name_code : Result (Option ℕ) Refusal → ℕ
name_code (Ok None) = 0
name_code (Ok (Some i)) = i + 16
name_code (Err k) = number_of k

abbrev pub differ_named : Result (Option ℕ) Refusal → Result (Option ℕ) Refusal → ℕ
differ_named a b = unequal (name_code a) (name_code b)

-- ---- a scene without lines, and what a build leaves of it in slices of length n
abbrev pub solids_only : List Float → List ℕ → Scene
solids_only numbers marks = scene_of numbers marks [] [] []

abbrev pub node_boxes_left : Scene → ℕ → Result ℕ Refusal → List Float
node_boxes_left s n b = padded zero_f n (box_rows (if_built b (scene_nodes s)))

abbrev pub node_marks_left : Scene → ℕ → Result ℕ Refusal → List ℕ
node_marks_left s n b = padded 0 n (mark_rows (if_built b (scene_nodes s)))

abbrev pub order_left : Scene → ℕ → Result ℕ Refusal → List ℕ
order_left s n b = padded 0 n (if_built b (scene_order s))

-- ---- how many answers are wrong
-- over slices of length 0
unfoldable pub without_places : Scene → Ray → Vector → Result ℕ Refusal → Result Nearest Refusal → Result Sight Refusal → Result (Option ℕ) Refusal → ℕ
without_places s r point built found sight named =
    differ_built (build_of s 0 0) built
    + differ_found (intersect_of s [] [] [] r) found
    + differ_sight (visible_of s [] [] [] r.origin point) sight
    + differ_named (occluder_of s [] [] [] r.origin point) named

-- of the eye, over any rows: near is seen, and far is hidden by the entry
unfoldable pub eye_asked : Scene → List Float → List ℕ → List ℕ → Vector → Vector → Vector → ℕ → ℕ
eye_asked s boxes marks order eye near far entry =
    differ_sight (visible_of s boxes marks order eye near) (Ok Visible)
    + differ_sight (visible_of s boxes marks order eye far) (Ok Hidden)
    + differ_named (occluder_of s boxes marks order eye near) (Ok None)
    + differ_named (occluder_of s boxes marks order eye far) (Ok (Some entry))

-- of one drawn entry, over the tree of one node that a build leaves: the ray meets the entry at t, and the same is so of an eye at the ray's origin
unfoldable pub one_solid : Scene → Ray → Vector → Vector → ℕ → Float → ℕ
one_solid s r near far entry t =
    let b = build_of s 1 1 in
    differ_built b (Ok 1)
    + differ_found (intersect_of s (node_boxes_left s 6 b) (node_marks_left s 3 b) (order_left s 1 b) r) (Ok (record { hit = hit_at t; entry = entry }))
    + eye_asked s (node_boxes_left s 6 b) (node_marks_left s 3 b) (order_left s 1 b) r.origin near far entry

-- of one drawn entry that the ray misses: what is found over the same tree
unfoldable pub one_missed : Scene → Ray → Nearest → ℕ
one_missed s r best =
    let b = build_of s 1 1 in
    differ_built b (Ok 1) + differ_found (intersect_of s (node_boxes_left s 6 b) (node_marks_left s 3 b) (order_left s 1 b) r) (Ok best)

-- of builds with no place for a node, and with none in the order
unfoldable pub one_short : Scene → ℕ
one_short s = differ_built (build_of s 0 1) (Err Room) + differ_built (build_of s 1 0) (Err Room)
