-- The tree that the build makes of some solids (`Tree::new`, tree.rs). A solid is a number, and `box` gives its box.
use Rattle.std.specs.Prelude.{Bool, true, false, cond, List, [], ◌∷◌, ◌≡◌, ℕ, zero, suc, ◌+◌, ◌-◌, ◌*◌, ◌/◌, ◌≤◌, ◌<◌, length, take, drop, get_or, leb, ltb, eqb, pos, Float}
use Rattle.std.specs.Float.{nan, binary64}
use Rattle.std.specs.Float.Ieee.{lt, le, of_int}
use Rattle.floats.specs.Arith.{◌⊕◌, ◌⊖◌, ◌⊗◌, bits, zero_f, half_f, two_f}
use Rattle.floats.specs.Numbers.{max_of}
use Rattle.geometry.specs.Vectors.{vec}
use Rattle.geometry.specs.Boxes.{box_of, extend_box}
use Rattle.geometry.specs.Limits.{Sound}
use Rattle.geometry.specs.declared.vector.Vector.{Vector}
use Rattle.geometry.specs.declared.bounding_box.BBox.{BBox}
use Rattle.rows.specs.Rows.{row}
use Rattle.rows.specs.Points.{box_of_row}
use Rattle.tree_nodes.specs.Trees.{Tree, leaf, split, leaves, layout}
use Rattle.tree_nodes.specs.Members.{hull}
use Rattle.tree_nodes.specs.declared.Node.{Node}
use Rattle.tree_sort.specs.Sort.{sorted}
use Rattle.tree_split.specs.declared.BestSplit.{BestSplit}
use Rattle.tree_split.specs.declared.Plan.{Plan}

-- ---- the boxes in a slice, 6 numbers each
abbrev pub box_at : List Float → ℕ → BBox
box_at xs i = box_of_row (row 6 i xs)

-- solid i has a box there, of the kind that document 01's number 7 lets pass
pub record Fits (xs : List Float) (i : ℕ) : Type 0 where
  pub there : i * 6 + 6 ≤ length xs
  pub low : i < 1024
  pub sound : Sound (box_at xs i)

-- ---- a box's middle and area: the Rust's `centroid` and `surface_area`
unfoldable pub middle : BBox → Vector
middle b = vec ((b.min.x ⊕ b.max.x) ⊗ half_f) ((b.min.y ⊕ b.max.y) ⊗ half_f) ((b.min.z ⊕ b.max.z) ⊗ half_f)

unfoldable pub area_of : BBox → Float
area_of b =
    let dx = max_of (b.max.x ⊖ b.min.x) zero_f in
    let dy = max_of (b.max.y ⊖ b.min.y) zero_f in
    let dz = max_of (b.max.z ⊖ b.min.z) zero_f in
    two_f ⊗ (dx ⊗ dy ⊕ dy ⊗ dz ⊕ dz ⊗ dx)

-- ---- the boxes of several solids: from the first on, and from the last back. The build has no list without solids.
unfoldable pub hull_of : (ℕ → BBox) → List ℕ → BBox
hull_of box [] = box_of_row []
hull_of box (i ∷ ids) = hull box (box i) ids

unfoldable pub hull_back : (ℕ → BBox) → List ℕ → BBox
hull_back box [] = box_of_row []
hull_back box (i ∷ []) = box i
hull_back box (i ∷ j ∷ ids) = extend_box (hull_back box (j ∷ ids)) (box i)

-- ---- the axis: 1 for X, 2 for Y, 3 for Z
abbrev pub middle_box : BBox → BBox
middle_box b = box_of (middle b) (middle b)

-- document 01: X only if its extent is strictly larger than both others, else Y if larger than Z, else Z
abbrev pub axis_by : Float → Float → Float → ℕ
axis_by x y z = cond (lt y x) (cond (lt z x) 1 (cond (lt z y) 2 3)) (cond (lt z y) 2 3)

unfoldable pub axis_of : BBox → ℕ
axis_of s = axis_by (s.max.x ⊖ s.min.x) (s.max.y ⊖ s.min.y) (s.max.z ⊖ s.min.z)

-- a vector's part on an axis
unfoldable pub on_axis : ℕ → Vector → Float
on_axis axis v = cond (ltb axis 2) v.x (cond (eqb axis 2) v.y v.z)

-- solids are compared by their middles
abbrev pub by_middle : (ℕ → BBox) → ℕ → ℕ → ℕ → Bool
by_middle box axis i j = lt (on_axis axis (middle (box i))) (on_axis axis (middle (box j)))

-- ---- the surface-area cost of a split into i solids with the box l and j with the area a
abbrev pub cost_by : BBox → ℕ → Float → ℕ → Float
cost_by l i a j = area_of l ⊗ of_int binary64 (pos i) ⊕ a ⊗ of_int binary64 (pos j)

unfoldable pub cost_of : (ℕ → BBox) → List ℕ → ℕ → Float
cost_of box ids i = cost_by (hull_of box (take i ids)) i (area_of (hull_back box (drop i ids))) (length ids - i)

-- f64::MAX
abbrev pub max_f : Float
max_f = bits 0x7fef_ffff_ffff_ffff

abbrev pub better_of : BestSplit → Float → ℕ → BestSplit
better_of b c i = cond (lt c b.cost) (record { cost = c; at = i }) b

-- document 01: the first least cost wins, here among the splits after 1, .., k solids
unfoldable pub best_upto : (ℕ → BBox) → List ℕ → ℕ → BestSplit
best_upto box ids zero = record { cost = max_f; at = length ids / 2 }
best_upto box ids (suc k) = better_of (best_upto box ids k) (cost_of box ids (suc k)) (suc k)

-- place i of `right`, from 1 on, is the area of the box of those from i on
abbrev pub Swept : (ℕ → BBox) → List ℕ → List Float → Type 0
Swept box ids right = (i : ℕ) → 1 ≤ i → i < length ids → get_or right i nan ≡ area_of (hull_back box (drop i ids))

-- ---- what becomes of a node's solids: its box, its axis, and after how many they are split, 0 for a leaf
-- one or two solids make a leaf, with no axis and in the order that they have; more are sorted
unfoldable pub plan_axis : (ℕ → BBox) → List ℕ → ℕ
plan_axis box ids = cond (leb (length ids) 2) 0 (axis_of (hull_of (λ (i : ℕ). middle_box (box i)) ids))

unfoldable pub arranged : (ℕ → BBox) → List ℕ → List ℕ
arranged box ids = cond (leb (length ids) 2) ids (sorted (by_middle box (plan_axis box ids)) ids)

-- 0.125
abbrev pub eighth : Float
eighth = bits 0x3fc0_0000_0000_0000

-- n solids in a leaf cost no more than the best split with the way down to it
abbrev pub leaf_wins : BBox → ℕ → Float → Bool
leaf_wins bx n cost = le (of_int binary64 (pos n) ⊗ area_of bx) (cost ⊕ area_of bx ⊗ eighth)

-- document 01: a leaf holds at most 8
unfoldable pub split_by : (ℕ → BBox) → BBox → List ℕ → ℕ
split_by box bx ids =
    let best = best_upto box ids (length ids - 1) in
    cond (leb (length ids) 8) (cond (leaf_wins bx (length ids) best.cost) 0 best.at) best.at

unfoldable pub plan_of : (ℕ → BBox) → List ℕ → Plan
plan_of box ids = record {
  bx = hull_of box ids;
  axis = plan_axis box ids;
  at = cond (leb (length ids) 2) 0 (split_by box (hull_of box ids) (arranged box ids));
}

-- ---- the tree; k bounds its depth, and as many as there are solids is enough
unfoldable pub tree_of : ℕ → (ℕ → BBox) → List ℕ → Tree ℕ
tree_of zero box ids = leaf (plan_of box ids).bx (plan_of box ids).axis (arranged box ids)
tree_of (suc k) box ids =
    let p = plan_of box ids in
    let l = arranged box ids in
    elim (eqb p.at 0) [
      | true ↦ leaf p.bx p.axis l
      | false ↦ split p.bx p.axis (tree_of k box (take p.at l)) (tree_of k box (drop p.at l))
    ]

-- the tree of these solids
abbrev pub tree_for : (ℕ → BBox) → List ℕ → Tree ℕ
tree_for box ids = tree_of (length ids) box ids

-- its nodes, and its solids in the leaves' order: none where there are no solids
unfoldable pub nodes_for : (ℕ → BBox) → List ℕ → List Node
nodes_for box [] = []
nodes_for box (i ∷ ids) = layout (tree_for box (i ∷ ids))

unfoldable pub order_for : (ℕ → BBox) → List ℕ → List ℕ
order_for box [] = []
order_for box (i ∷ ids) = leaves (tree_for box (i ∷ ids))
