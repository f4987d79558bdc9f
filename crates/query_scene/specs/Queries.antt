-- The public calls on a scene: its tree, the nearest hit and the eye test, each after the check of the scene.
use Rattle.std.specs.Prelude.{ℕ, ◌≡◌, ◌&&◌, cond, List, [], length, leb, Float, Err, None, Ok, Option, Result, Some}
use Rattle.std.specs.Float.Ieee.{eq, le}
use Rattle.floats.specs.Arith.{zero_f}
use Rattle.geometry.specs.Vectors.{distance_of}
use Rattle.geometry.specs.declared.vector.Vector.{Vector}
use Rattle.geometry.specs.declared.ray.Ray.{Ray}
use Rattle.geometry.specs.declared.bounding_box.BBox.{BBox}
use Rattle.rows.specs.Rows.{padded}
use Rattle.refusals.specs.declared.Refusal.TheVariants.{View, Point, Room}
use Rattle.scene_shape.specs.Shapes.{solid_of, shape_hit}
use Rattle.limits.specs.Limits.{within_point, within_ray}
use Rattle.check_parts.specs.Drawn.{drawn}
use Rattle.check_scene.specs.Checks.{check_of, boxes_of}
use Rattle.scene.specs.Scenes.{Scene}
use Rattle.tree_nodes.specs.Nodes.{places_of, box_rows, mark_rows}
use Rattle.tree_nodes.specs.Trees.{Tree}
use Rattle.tree_nodes.specs.declared.Node.{Node}
use Rattle.tree_split.specs.Build.{box_at, tree_for, nodes_for, order_for}
use Rattle.tree_walk.specs.Walks.{walk_rows}
use Rattle.tree_sight.specs.Sights.{eye_ray, sees}
use Rattle.tree_sight.specs.declared.Sight.{Sight}
use Rattle.tree_sight.specs.declared.Sight.TheVariants.{Visible, Hidden}
use Rattle.geometry.specs.declared.hit.Hit.{Hit}
use Rattle.tree_walk.specs.declared.Nearest.{Nearest}
use Rattle.refusals.specs.declared.Refusal.{Refusal}

-- ---- the tree of a scene
-- the own boxes of its entries, as the check leaves them
abbrev pub boxes_left : Scene → List Float
boxes_left s = padded zero_f 6144 (boxes_of s)

-- the tree of the drawn entries, its nodes, and the entries in the leaves' order
abbrev pub scene_tree : Scene → Tree ℕ
scene_tree s = tree_for (box_at (boxes_left s)) (drawn s.marks)

abbrev pub scene_nodes : Scene → List Node
scene_nodes s = nodes_for (box_at (boxes_left s)) (drawn s.marks)

abbrev pub scene_order : Scene → List ℕ
scene_order s = order_for (box_at (boxes_left s)) (drawn s.marks)

-- Number 13, or how many nodes there are: there is a place for each solid in the order, and one for each node. `box` gives the box of a solid.
unfoldable pub planted_of : (ℕ → BBox) → List ℕ → ℕ → ℕ → Result ℕ Refusal
planted_of box ids places room = cond (leb (length ids) room && leb (length (nodes_for box ids)) places) (Ok (length (nodes_for box ids))) (Err Room)

unfoldable pub built_after : Result ℕ Refusal → Result ℕ Refusal → Result ℕ Refusal
built_after (Ok n) b = b
built_after (Err k) b = Err k

-- numbers 2 to 7 and 14, then 13
unfoldable pub build_of : Scene → ℕ → ℕ → Result ℕ Refusal
build_of s places room = built_after (check_of s) (planted_of (box_at (boxes_left s)) (drawn s.marks) places room)

-- what a build leaves: these, and nothing after a refusal
unfoldable pub if_built {ℓ} : {A : Type ℓ} → Result ℕ Refusal → List A → List A
if_built (Ok n) xs = xs
if_built (Err k) xs = []

-- what a call answers of a tree of these solids, and how it leaves slices of B numbers, M marks and O places
pub record TreeLeft (box : ℕ → BBox) (ids : List ℕ) (B M O : ℕ) (want r : Result ℕ Refusal) (boxes : List Float) (marks order : List ℕ) : Type 0 where
  pub answer : r ≡ want
  pub boxes_are : boxes ≡ padded zero_f B (box_rows (if_built r (nodes_for box ids)))
  pub marks_are : marks ≡ padded 0 M (mark_rows (if_built r (nodes_for box ids)))
  pub order_is : order ≡ padded 0 O (if_built r (order_for box ids))

-- by what the slices held before: of listed solids whose boxes are given, and of a scene
abbrev pub Planted : (ℕ → BBox) → List ℕ → List Float → List ℕ → List ℕ → Result ℕ Refusal → List Float → List ℕ → List ℕ → Type 0
Planted box ids boxes₀ marks₀ order₀ = TreeLeft box ids (length boxes₀) (length marks₀) (length order₀) (planted_of box ids (places_of boxes₀ marks₀) (length order₀))

abbrev pub TreeBuilt : Scene → List Float → List ℕ → List ℕ → Result ℕ Refusal → List Float → List ℕ → List ℕ → Type 0
TreeBuilt s boxes₀ marks₀ order₀ =
    TreeLeft (box_at (boxes_left s)) (drawn s.marks) (length boxes₀) (length marks₀) (length order₀) (build_of s (places_of boxes₀ marks₀) (length order₀))

-- ---- the nearest hit
-- the hit that entry i of a scene gives a ray by itself
abbrev pub own_hits : Scene → Ray → ℕ → Result Hit Refusal
own_hits s r i = shape_hit (solid_of s.numbers s.marks i) r

unfoldable pub found_after : Result ℕ Refusal → Result Nearest Refusal → Result Nearest Refusal
found_after (Ok n) f = f
found_after (Err k) f = Err k

-- Numbers 2 to 7 and 14, then 8, then the walk of the rows that are handed in. The best names the entry whose t last became the best, FFFFFFFF (hexadecimal) where none did:
-- request (i)'s every hit.
unfoldable pub intersect_of : Scene → List Float → List ℕ → List ℕ → Ray → Result Nearest Refusal
intersect_of s boxes marks order r = found_after (check_of s) (cond (within_ray r) (walk_rows (own_hits s r) r boxes marks order) (Err View))

-- ---- the eye test
unfoldable pub seen_after : Result ℕ Refusal → Result Sight Refusal → Result Sight Refusal
seen_after (Ok n) h = h
seen_after (Err k) h = Err k

-- numbers 2 to 7 and 14, then 8 of the eye and 9 of the point, then document 01's visible
unfoldable pub visible_of : Scene → List Float → List ℕ → List ℕ → Vector → Vector → Result Sight Refusal
visible_of s boxes marks order eye point =
    seen_after (check_of s)
    (cond (within_point eye)
    (cond (within_point point) (sees (λ (r : Ray). walk_rows (own_hits s r) r boxes marks order) eye point) (Err Point))
    (Err View))

-- ---- the eye test with a name
-- as `by_distance` of tree_sight: where the hit does not reach the eye, the entry that it names
unfoldable pub hider_by : Result Nearest Refusal → Float → Result (Option ℕ) Refusal
hider_by (Ok b) distance = cond (le distance b.hit.t) (Ok None) (Ok (Some b.entry))
hider_by (Err k) distance = Err k

-- as `sees`, on the same ray
unfoldable pub hides : (Ray → Result Nearest Refusal) → Vector → Vector → Result (Option ℕ) Refusal
hides nearest eye point = cond (eq (distance_of eye point) zero_f) (Ok None) (hider_by (nearest (eye_ray eye point)) (distance_of eye point))

unfoldable pub named_after : Result ℕ Refusal → Result (Option ℕ) Refusal → Result (Option ℕ) Refusal
named_after (Ok n) o = o
named_after (Err k) o = Err k

-- numbers 2 to 9 as in visible, then request (i)'s name of who hides the point
unfoldable pub occluder_of : Scene → List Float → List ℕ → List ℕ → Vector → Vector → Result (Option ℕ) Refusal
occluder_of s boxes marks order eye point =
    named_after (check_of s)
    (cond (within_point eye)
    (cond (within_point point) (hides (λ (r : Ray). walk_rows (own_hits s r) r boxes marks order) eye point) (Err Point))
    (Err View))

-- what an answer says without the name
unfoldable pub sight_of : Result (Option ℕ) Refusal → Result Sight Refusal
sight_of (Ok None) = Ok Visible
sight_of (Ok (Some i)) = Ok Hidden
sight_of (Err k) = Err k

-- On every input the two eye tests agree: hidden, visible or refused alike, with the same number.
abbrev pub NamedAsSeen : Type 0
NamedAsSeen =
    (s : Scene) (boxes : List Float) (marks order : List ℕ) (eye point : Vector) → sight_of (occluder_of s boxes marks order eye point) ≡ visible_of s boxes marks order eye point
