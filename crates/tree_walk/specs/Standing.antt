-- A tree that stands among the nodes of slices.
use Rattle.std.specs.Prelude.{◌≡◌, true, false, List, ℕ, ◌+◌, ltb}
use Rattle.tree_nodes.specs.Trees.{Tree, leaf, split}
use Rattle.tree_nodes.specs.Nodes.{is_leaf}
use Rattle.tree_nodes.specs.declared.Node.{Node}
use Rattle.tree_walk.specs.Walks.{leaf_entries}

-- the node at place i is the tree
abbrev pub Stands : (ℕ → Node) → ℕ → List ℕ → ℕ → Tree ℕ → Type 0
Stands N places order i (leaf b a is) = record { there : ltb i places ≡ true; box : (N i).bx ≡ b; kind : is_leaf (N i) ≡ true; solids : leaf_entries order (N i) ≡ is }
Stands N places order i (split b a u v) = record { there : ltb i places ≡ true; box : (N i).bx ≡ b; kind : is_leaf (N i) ≡ false; axis : (N i).axis ≡ a; one : Stands N places order (N i).first u; two : Stands N places order ((N i).first + 1) v }
