-- The nodes of a tree in two lent slices: 6 numbers and 3 marks a node.
use Rattle.std.specs.Prelude.{ℕ, ◌/◌, Bool, cond, ◌||◌, List, map, length, ltb, eqb, Float}
use Rattle.rows.specs.Rows.{row, flat}
use Rattle.rows.specs.Points.{box_of_row, box_row}
use Rattle.rows.specs.Entries.{triple_of, triple_row}
use Rattle.rows.specs.declared.Triple.{Triple}
use Rattle.tree_nodes.specs.declared.Node.{Node}

abbrev pub node_of : List Float → Triple → Node
node_of b m = record { bx = box_of_row b; first = m.a; count = m.b; axis = m.c }

-- node i of the slices
abbrev pub node_at : List Float → List ℕ → ℕ → Node
node_at boxes marks i = node_of (row 6 i boxes) (triple_of (row 3 i marks))

abbrev pub marks_of_node : Node → Triple
marks_of_node n = record { a = n.first; b = n.count; c = n.axis }

-- how many nodes the slices have places for
unfoldable pub places_of : List Float → List ℕ → ℕ
places_of boxes marks = cond (ltb (length marks / 3) (length boxes / 6)) (length marks / 3) (length boxes / 6)

-- the Rust's match: no axis, or solids of its own
abbrev pub is_leaf : Node → Bool
is_leaf n = eqb n.axis 0 || ltb 0 n.count

-- nodes as rows
abbrev pub box_rows : List Node → List Float
box_rows ns = flat box_row (map (λ (n : Node). n.bx) ns)

abbrev pub mark_rows : List Node → List ℕ
mark_rows ns = flat triple_row (map marks_of_node ns)
