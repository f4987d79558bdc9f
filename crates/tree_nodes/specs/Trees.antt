-- A tree of boxes over solids of a type S, and how it is laid out as a list of nodes (tree.rs).
use Rattle.std.specs.Prelude.{List, [], ◌∷◌, ◌++◌, ℕ, ◌+◌, length}
use Rattle.geometry.specs.declared.bounding_box.BBox.{BBox}
use Rattle.tree_nodes.specs.declared.Node.{Node}

-- the number is the axis along which a node's solids were sorted: 0 for none, 1 for X, 2 for Y, 3 for Z
pub data Tree (S : Type 0) : Type 0 where
  leaf : BBox → ℕ → List S → Tree S
  split : BBox → ℕ → Tree S → Tree S → Tree S

-- the solids in the leaves' order
unfoldable pub leaves : {S : Type 0} → Tree S → List S
leaves (leaf b a ss) = ss
leaves (split b a l r) = leaves l ++ leaves r

-- how many nodes are below the root
unfoldable pub below_root : {S : Type 0} → Tree S → ℕ
below_root (leaf b a ss) = 0
below_root (split b a l r) = 2 + below_root l + below_root r

-- the root's node, where the next free place is `free` and its solids start at `start`
unfoldable pub root_of : {S : Type 0} → ℕ → ℕ → Tree S → Node
root_of free start (leaf b a ss) = record { bx = b; first = start; count = length ss; axis = a }
root_of free start (split b a l r) = record { bx = b; first = free; count = 0; axis = a }

-- the nodes from `free` on: the two children, then what is below the left one, then what is below the right one
unfoldable pub below_of : {S : Type 0} → ℕ → ℕ → Tree S → List Node
unfolding root_of below_root leaves
below_of free start (leaf b a ss) = []
below_of free start (split b a l r) =
    root_of (free + 2) start l ∷ root_of (free + 2 + below_root l) (start + length (leaves l)) r
    ∷ (below_of (free + 2) start l ++ below_of (free + 2 + below_root l) (start + length (leaves l)) r)

-- the whole layout: the root at 0
unfoldable pub layout : {S : Type 0} → Tree S → List Node
layout t = root_of 1 0 t ∷ below_of 1 0 t
