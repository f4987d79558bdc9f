-- Nodes in slices: one that is written, those that the rows of a list of nodes hold; how many nodes a layout has. Assumes nothing.
use mathlib.Core.Path.{◌≡◌, refl, sym, ap, ap₂, ◌∙◌}
use mathlib.Core.Logic.{◌≢◌}
use mathlib.Core.Bool.{Bool, true, false, cond}
use mathlib.Core.List.{List, ◌++◌, map}
use Prim.Native.Nat.{ℕ, ◌+◌, ◌*◌, ◌/◌, ◌≤◌, ◌<◌}
use native.Mathlib.Omega.{arith}
use lib.ListN.{length, get_or, length-append, length-map, get_or-map}
use lib.Ieee.{Float}
use borrow.Author.Tests.{ltb-true, ltb-false}
use Rattle.geometry.specs.declared.bounding_box.BBox.{BBox}
use Rattle.rows.specs.Rows.{row, set_row}
use Rattle.rows.specs.Points.{box_of_row, box_row}
use Rattle.rows.specs.Entries.{triple_of, triple_row}
use Rattle.rows.specs.declared.Triple.{Triple}
use Rattle.rows.proofs.Rows.{row_same, row_other, get_d-view, view-flat}
use Rattle.tree_nodes.specs.declared.Node.{Node}
use Rattle.tree_nodes.specs.Nodes.{node_of, node_at, marks_of_node, places_of, box_rows, mark_rows}
use Rattle.tree_nodes.specs.Trees.{Tree, leaf, split, leaves, below_root, below_of, layout}

-- ---- what `write_node` leaves
module _ (boxes boxes' : List Float) (marks marks' : List ℕ) (i : ℕ) (n : Node)
    (eb : boxes' ≡ set_row 6 i (box_row n.bx) boxes) (em : marks' ≡ set_row 3 i (triple_row (marks_of_node n)) marks) where
  both : (j : ℕ) (b : List Float) (m : List ℕ) → row 6 j boxes' ≡ b → row 3 j marks' ≡ m → node_at boxes' marks' j ≡ node_of b (triple_of m)
  both j b m p q = ap₂ (λ (x : List Float) (y : List ℕ). node_of x (triple_of y)) p q

  pub node-same : i * 6 + 6 ≤ length boxes → i * 3 + 3 ≤ length marks → node_at boxes' marks' i ≡ n
  node-same h k = both i (box_row n.bx) (triple_row (marks_of_node n))
      (ap (row 6 i) eb ∙ row_same 6 i (box_row n.bx) boxes refl h)
      (ap (row 3 i) em ∙ row_same 3 i (triple_row (marks_of_node n)) marks refl k)

  pub node-other : (k : ℕ) → k ≢ i → node_at boxes' marks' k ≡ node_at boxes marks k
  node-other k d = both k (row 6 k boxes) (row 3 k marks)
      (ap (row 6 k) eb ∙ row_other 6 i k (box_row n.bx) boxes refl d)
      (ap (row 3 k) em ∙ row_other 3 i k (triple_row (marks_of_node n)) marks refl d)

-- ---- node i of slices that begin with the rows of ns
pub node_at_lem : (ns : List Node) (ys : List Float) (zs : List ℕ) (i : ℕ) (d : Node) → i < length ns → node_at (box_rows ns ++ ys) (mark_rows ns ++ zs) i ≡ get_or ns i d
node_at_lem ns ys zs i d h =
    let bs : List BBox = map (λ (n : Node). n.bx) ns in
    let ms : List Triple = map marks_of_node ns in
    let lb : length bs ≡ length ns = length-map ns (λ (n : Node). n.bx) in
    let lm : length ms ≡ length ns = length-map ns marks_of_node in
    let b : box_of_row (row 6 i (box_rows ns ++ ys)) ≡ (get_or ns i d).bx =
    sym (get_d-view 6 box_of_row (length bs) i (box_rows ns ++ ys) d.bx (omega arith))
    ∙ ap (λ (l : List BBox). get_or l i d.bx) (view-flat 6 box_of_row box_row (λ b. refl) (λ b. refl) bs ys)
    ∙ get_or-map (λ (n : Node). n.bx) ns i d in
    let m : triple_of (row 3 i (mark_rows ns ++ zs)) ≡ marks_of_node (get_or ns i d) =
    sym (get_d-view 3 triple_of (length ms) i (mark_rows ns ++ zs) (marks_of_node d) (omega arith))
    ∙ ap (λ (l : List Triple). get_or l i (marks_of_node d)) (view-flat 3 triple_of triple_row (λ t. refl) (λ t. refl) ms zs)
    ∙ get_or-map marks_of_node ns i d in
    λ t. record { bx = b t; first = (m t).a; count = (m t).b; axis = (m t).c }

-- ---- the places of the slices
pub places-fit : (boxes : List Float) (marks : List ℕ) → (places_of boxes marks * 6 ≤ length boxes) × (places_of boxes marks * 3 ≤ length marks)
unfolding places_of
places-fit boxes marks = go (length boxes / 6) (length marks / 3) _ (ltb-true (length marks / 3) (length boxes / 6)) (ltb-false (length marks / 3) (length boxes / 6)) (omega arith) (omega arith)
  where
    go : (a b : ℕ) (t : Bool) → (t ≡ true → b < a) → (t ≡ false → a ≤ b) → a * 6 ≤ length boxes → b * 3 ≤ length marks → (cond t b a * 6 ≤ length boxes) × (cond t b a * 3 ≤ length marks)
    go a b true p q x y = let z = p refl in (omega arith, omega arith)
    go a b false p q x y = let z = q refl in (omega arith, omega arith)

-- ---- how many nodes
pub length-below : {S : Type 0} (free start : ℕ) (t : Tree S) → length (below_of free start t) ≡ below_root t
unfolding below_of below_root
length-below free start (leaf b a ids) = refl
length-below free start (split b a l r) =
    let m = free + 2 + below_root l in
    let e : length (below_of (free + 2) start l ++ below_of m (start + length (leaves l)) r) ≡ below_root l + below_root r =
    length-append (below_of (free + 2) start l) (below_of m (start + length (leaves l)) r) ∙ rw (length-below (free + 2) start l, length-below m (start + length (leaves l)) r) in
    omega (arith, e)

pub length-layout : {S : Type 0} (t : Tree S) → length (layout t) ≡ 1 + below_root t
unfolding layout
length-layout t = omega (arith, length-below 1 0 t)
