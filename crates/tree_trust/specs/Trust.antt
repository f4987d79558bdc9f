-- What is asked of a tree in node slices, and of the solids, before anything is left out of a walk.
use Rattle.std.specs.Prelude.{◌≡◌, Bool, cond, not, ◌&&◌, ◌||◌, List, ℕ, zero, suc, ◌+◌, ◌/◌, ◌<◌, length, ltb, eqb, Float, Ok}
use Rattle.std.specs.Float.Ieee.{le}
use Rattle.lists.specs.Lists.{all_of}
use Rattle.limits.specs.Limits.{within_box}
use Rattle.geometry.specs.Limits.{Sound, Inside}
use Rattle.geometry.specs.declared.vector.Vector.{Vector}
use Rattle.geometry.specs.declared.ray.Ray.{Ray}
use Rattle.geometry.specs.declared.hit.Hit.{Hit}
use Rattle.geometry.specs.declared.bounding_box.BBox.{BBox}
use Rattle.tree_nodes.specs.Trees.{Tree, leaf, split, below_root}
use Rattle.tree_nodes.specs.Nodes.{node_at, places_of, is_leaf}
use Rattle.tree_nodes.specs.declared.Node.{Node}
use Rattle.scene.specs.Entries.{marks_at}
use Rattle.tree_walk.specs.Walks.{leaf_entries, entry_hit}
use Rattle.tree_walk.specs.Standing.{Stands}

-- ---- trees in slices
-- the tree at place i, where at most so many splits stand above a leaf
unfoldable pub tree_at : (ℕ → Node) → List ℕ → ℕ → ℕ → Tree ℕ
tree_at N order zero i = leaf (N i).bx (N i).axis (leaf_entries order (N i))
tree_at N order (suc k) i =
    cond (is_leaf (N i)) (leaf (N i).bx (N i).axis (leaf_entries order (N i)))
    (split (N i).bx (N i).axis (tree_at N order k (N i).first) (tree_at N order k ((N i).first + 1)))

abbrev pub whole_tree : List Float → List ℕ → List ℕ → Tree ℕ
whole_tree boxes links order = tree_at (node_at boxes links) order 62 0

-- at most n splits stand above a leaf
abbrev pub Shallow : ℕ → Tree ℕ → Type 0
Shallow n (leaf c a is) = Unit
Shallow zero (split c a x y) = ⊥
Shallow (suc n) (split c a x y) = Shallow n x × Shallow n y

abbrev pub tree_box : Tree ℕ → BBox
tree_box (leaf c a is) = c
tree_box (split c a x y) = c

-- each box is within a million, and lies in the one above it
abbrev pub Nests : Tree ℕ → Type 0
Nests (leaf c a is) = Sound c
Nests (split c a x y) = record { sound : Sound c; one_in : Inside (tree_box x) c; two_in : Inside (tree_box y) c; one : Nests x; two : Nests y }

-- what is asked of the slices before anything is left out of a walk
pub record Trusted (boxes : List Float) (links order : List ℕ) : Type 0 where
  pub stands : Stands (node_at boxes links) (places_of boxes links) order 0 (whole_tree boxes links order)
  pub shallow : Shallow 62 (whole_tree boxes links order)
  pub nests : Nests (whole_tree boxes links order)
  pub fits : below_root (whole_tree boxes links order) < places_of boxes links

-- every solid answers every ray: none needs a 65th restart
abbrev pub Uncut : List Float → List Float → List ℕ → Type 0
Uncut numbers inverses marks = (r : Ray) (i : ℕ) → (h : Hit) × (entry_hit numbers inverses marks r i ≡ Ok h)

-- ---- the tests: what passes them has the above
-- each component of u is at most that of v
unfoldable pub is_under : Vector → Vector → Bool
is_under u v = le u.x v.x && (le u.y v.y && le u.z v.z)

-- a box within a million, its min not above its max
unfoldable pub is_sound : BBox → Bool
is_sound b = within_box b && is_under b.min b.max

-- the box c lies in the box p
unfoldable pub is_inside : BBox → BBox → Bool
is_inside c p = is_under p.min c.min && is_under c.max p.max

-- the nodes of two trees and of the split above them: 0 where one of the trees has none, or where they are more than `many`
unfoldable pub joined_of : ℕ → ℕ → ℕ → ℕ
joined_of a b many = cond (eqb a 0 || eqb b 0) 0 (cond (ltb (a + b) many) (a + b + 1) 0)

-- a split at place i, with a and b nodes in its two trees: 0 also where the box of one of them is not in its own
unfoldable pub split_nodes : (ℕ → Node) → ℕ → ℕ → ℕ → ℕ → ℕ
split_nodes N many i a b = cond (is_inside (N (N i).first).bx (N i).bx && is_inside (N ((N i).first + 1)).bx (N i).bx) (joined_of a b many) 0

-- the node at place i: 0 where no node is there or its box is not sound, 1 if it is a leaf, and as many as `below` says if it is a split
unfoldable pub nodes_at : (ℕ → Node) → ℕ → ℕ → ℕ → ℕ
nodes_at N many i below = cond (ltb i many && is_sound (N i).bx) (cond (is_leaf (N i)) 1 below) 0

-- how many nodes the tree at place i has; 0 where it is deeper than said, or is not to be trusted
unfoldable pub nodes_from : (ℕ → Node) → ℕ → ℕ → ℕ → ℕ
nodes_from N many zero i = nodes_at N many i 0
nodes_from N many (suc d) i = nodes_at N many i (split_nodes N many i (nodes_from N many d (N i).first) (nodes_from N many d ((N i).first + 1)))

unfoldable pub is_trusted : List Float → List ℕ → Bool
is_trusted boxes links = ltb 0 (nodes_from (node_at boxes links) (places_of boxes links) 62 0)

-- no entry is a cut
unfoldable pub is_uncut : List ℕ → Bool
is_uncut marks = all_of (λ i. not (eqb (marks_at marks i).kind 7)) (length marks / 4)
