-- What the build asks of its slices, and what it leaves in them.
use Rattle.std.specs.Prelude.{◌≡◌, Bool, cond, List, [], ◌≢◌, ℕ, ◌+◌, ◌*◌, ◌≤◌, ◌<◌, length, get_or, leb, Float, None, Option, Some}
use Rattle.floats.specs.Arith.{zero_f}
use Rattle.geometry.specs.declared.bounding_box.BBox.{BBox}
use Rattle.rows.specs.Rows.{padded}
use Rattle.tree_nodes.specs.Trees.{Tree, leaves, below_root, root_of, below_of, layout}
use Rattle.tree_nodes.specs.Nodes.{box_rows, mark_rows}
use Rattle.tree_nodes.specs.declared.Node.{Node}
use Rattle.tree_split.specs.Build.{middle, on_axis, nodes_for, order_for}

-- the keys by which solids are sorted, each at its solid's number: written for the first n
pub record Keyed (box : ℕ → BBox) (axis : ℕ) (ids : List ℕ) (keys : List Float) (n : ℕ) : Type 0 where
  pub long : 1024 ≤ length keys
  pub done : (j : ℕ) → j < n → get_or keys (get_or ids j 0) zero_f ≡ on_axis axis (middle (box (get_or ids j 0)))

-- there are as many places for nodes, a node has one of them before the free ones, and no count here exceeds a u32
pub record NodeRoom (boxes : List Float) (marks : List ℕ) (places node free start n : ℕ) : Type 0 where
  pub long : places * 6 ≤ length boxes
  pub wide : places * 3 ≤ length marks
  pub early : node < free
  pub within : free ≤ places
  pub some : 0 < n
  pub upto : start + n ≤ 1024
  pub short : free + 2 * n ≤ 2050

-- the nodes were N and are N': a tree is laid out, its root at `node` and the rest from `free` on, and the others of the places are as they were
pub record Laid {S : Type 0} (N N' : ℕ → Node) (places node free start : ℕ) (t : Tree S) : Type 0 where
  pub fits : free + below_root t ≤ places
  pub root : N' node ≡ root_of free start t
  pub below : (k : ℕ) (d : Node) → k < below_root t → N' (free + k) ≡ get_or (below_of free start t) k d
  pub before : (k : ℕ) → k ≢ node → k < free → N' k ≡ N k
  pub after : (k : ℕ) → free + below_root t ≤ k → k < places → N' k ≡ N k

-- the next free place, or that there are too few
abbrev pub BuiltAs : Option ℕ → (ℕ → Node) → (ℕ → Node) → ℕ → ℕ → ℕ → ℕ → List ℕ → Tree ℕ → Type 0
BuiltAs (Some f) N N' places node free start order t = (f ≡ free + below_root t) × Laid N N' places node free start t × (order ≡ leaves t)
BuiltAs None N N' places node free start order t = places < free + below_root t

-- the whole tree in slices of B numbers and M marks that were zero
abbrev pub LaidOut : Option ℕ → List Float → List ℕ → List ℕ → ℕ → ℕ → ℕ → Tree ℕ → Type 0
LaidOut (Some f) boxes marks order places B M t =
    (f ≡ 1 + below_root t) × (f ≤ places) × (boxes ≡ padded zero_f B (box_rows (layout t))) × (marks ≡ padded 0 M (mark_rows (layout t))) × (order ≡ leaves t)
LaidOut None boxes marks order places B M t = places < 1 + below_root t

-- ---- the whole build
-- there is a place for each node
abbrev pub room_for : (ℕ → BBox) → List ℕ → ℕ → Bool
room_for box ids places = leb (length (nodes_for box ids)) places

-- What the build answers, and what its slices of B numbers, M marks and O solids then hold: the nodes and the solids, then zeros; or zeros
-- throughout where there is no room.
pub record Stored (box : ℕ → BBox) (ids : List ℕ) (places B M O : ℕ) (r : Option ℕ) (boxes : List Float) (marks order : List ℕ) : Type 0 where
  pub answer : r ≡ cond (room_for box ids places) (Some (length (nodes_for box ids))) None
  pub rows : boxes ≡ padded zero_f B (box_rows (cond (room_for box ids places) (nodes_for box ids) []))
  pub triples : marks ≡ padded 0 M (mark_rows (cond (room_for box ids places) (nodes_for box ids) []))
  pub solids : order ≡ padded 0 O (cond (room_for box ids places) (order_for box ids) [])
