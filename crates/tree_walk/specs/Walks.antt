-- The nearest hit (`Tree::intersect` of tree.rs): the walk by recursion on a tree, and the walk of node slices of any contents.
use Rattle.std.specs.Prelude.{Bool, cond, List, [], ◌∷◌, ℕ, zero, suc, ◌+◌, length, take, drop, ltb, eqb, Float, Err, Ok, Result}
use Rattle.std.specs.Float.Ieee.{lt}
use Rattle.floats.specs.Arith.{zero_f}
use Rattle.geometry.specs.Hits.{no_hit}
use Rattle.geometry.specs.Boxes.{box_test, skips}
use Rattle.geometry.specs.declared.ray.Ray.{Ray}
use Rattle.geometry.specs.declared.hit.Hit.{Hit}
use Rattle.tree_nodes.specs.Trees.{Tree, leaf, split}
use Rattle.tree_nodes.specs.Nodes.{node_at, places_of, is_leaf}
use Rattle.tree_nodes.specs.declared.Node.{Node}
use Rattle.refusals.specs.declared.Refusal.TheVariants.{Waiting}
use Rattle.scene_shape.specs.Shapes.{decode, shape_hit}
use Rattle.tree_walk.specs.declared.Nearest.{Nearest}
use Rattle.tree_walk.specs.declared.Children.{Children}
use Rattle.refusals.specs.declared.Refusal.{Refusal}

-- the hit that the solid at entry i of a scene gives the ray, with no tree and no other solid: its t is document 01's own returned distance
unfoldable pub entry_hit : List Float → List Float → List ℕ → Ray → ℕ → Result Hit Refusal
entry_hit numbers inverses marks r i = shape_hit (decode 8 numbers inverses marks i) r

-- the best before any solid is tried: no hit, and the number of no entry
abbrev pub nothing : Nearest
nothing = record { hit = no_hit; entry = 0xffff_ffff }

-- document 01: a solid's t becomes the best exactly if it is less than the best, which a NaN never is
unfoldable pub nearer : ℕ → Hit → Nearest → Nearest
nearer i h best = cond (lt h.t best.hit.t) (record { hit = h; entry = i }) best

-- the best once entry i has answered
unfoldable pub tried : ℕ → Result Hit Refusal → Nearest → Result Nearest Refusal
tried i (Ok h) best = Ok (nearer i h best)
tried i (Err n) best = Err n

-- on from the best; a refusal ends the walk
abbrev pub onward : Result Nearest Refusal → (Nearest → Result Nearest Refusal) → Result Nearest Refusal
onward (Ok b) next = next b
onward (Err n) next = Err n

-- each solid of a leaf, in leaf order
unfoldable pub scan : (ℕ → Result Hit Refusal) → List ℕ → Nearest → Result Nearest Refusal
scan hit [] best = Ok best
scan hit (i ∷ is) best = onward (tried i (hit i) best) (scan hit is)

-- the Rust's is_dir_negative: along this axis the ray runs backward, so that the second child is the nearer one
unfoldable pub backward : Ray → ℕ → Bool
backward r axis =
    cond (eqb axis 1) (lt r.direction.x zero_f)
    (cond (eqb axis 2) (lt r.direction.y zero_f) (lt r.direction.z zero_f))

-- The walk by recursion on the tree, the nearer child first: `hit` is the hit of each entry, and so many places wait beneath. A split puts both children
-- among them, of which there are 64: number 12.
unfoldable pub visit : (ℕ → Result Hit Refusal) → Ray → Tree ℕ → ℕ → Nearest → Result Nearest Refusal
visit hit r (leaf b a is) waiting best = cond (skips (box_test b r) best.hit.t) (Ok best) (scan hit is best)
visit hit r (split b a u v) waiting best =
    cond (skips (box_test b r) best.hit.t) (Ok best)
    (cond (ltb 64 (waiting + 2)) (Err Waiting)
    (cond (backward r a)
    (onward (visit hit r v (waiting + 1) best) (visit hit r u waiting))
    (onward (visit hit r u (waiting + 1) best) (visit hit r v waiting))))

-- ---- on node slices
-- the places of the nearer and the farther child
unfoldable pub children_of : ℕ → Bool → Children
children_of first back = cond back (record { near = first + 1; far = first }) (record { near = first; far = first + 1 })

-- a leaf's entries, as many as are there
abbrev pub leaf_entries : List ℕ → Node → List ℕ
leaf_entries order n = take n.count (drop n.first order)

-- In at most so many rounds, from the places that wait, the last one first: `node` gives the node at a place, of which there are `places`. A place where there is
-- no node is passed over.
unfoldable pub walk_on : (ℕ → Result Hit Refusal) → Ray → (ℕ → Node) → ℕ → List ℕ → ℕ → List ℕ → Nearest → Result Nearest Refusal
walk_on hit r node places order zero waiting best = Ok best
walk_on hit r node places order (suc rounds) [] best = Ok best
walk_on hit r node places order (suc rounds) (i ∷ waiting) best =
    let past = walk_on hit r node places order rounds waiting best in
    let into = onward (scan hit (leaf_entries order (node i)) best) (walk_on hit r node places order rounds waiting) in
    let c = children_of (node i).first (backward r (node i).axis) in
    let down = walk_on hit r node places order rounds (c.near ∷ c.far ∷ waiting) best in
    cond (ltb i places)
    (cond (skips (box_test (node i).bx r) best.hit.t) past
    (cond (is_leaf (node i)) into
    (cond (ltb 64 (length waiting + 2)) (Err Waiting) down)))
    past

-- the walk of node slices: from the root, in at most as many rounds as there are nodes
unfoldable pub walk_rows : (ℕ → Result Hit Refusal) → Ray → List Float → List ℕ → List ℕ → Result Nearest Refusal
walk_rows hit r boxes marks order = walk_on hit r (node_at boxes marks) (places_of boxes marks) order (places_of boxes marks) (0 ∷ []) nothing
