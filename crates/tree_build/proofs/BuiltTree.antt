-- The tree of the build is well made: each node's box holds the boxes of the solids below it, all solids of the list stand in it and no others;
-- and the slices that the build leaves hold its layout. Assumes nothing.
use mathlib.Core.Path.{◌≡◌, refl, ap, ap₂, ◌∙◌, subst}
use mathlib.Core.Logic.{inl, inr}
use mathlib.Core.Bool.{Bool, true, false, cond}
use mathlib.Core.List.{List, [], ◌∷◌, ◌++◌}
use Prim.Native.Nat.{ℕ, zero, suc, ◌+◌, ◌-◌, ◌<◌}
use native.Mathlib.Nat.{not-suc-le-zero}
use native.Mathlib.Omega.{arith}
use lib.ListN.{length, take, drop, get_or, replicate, take-append-drop}
use lib.Dec.{leb, eqb}
use lib.Ieee.{Float, lt}
use borrow.Author.Tests.{eqb-false}
use borrow.Table.Steps.{cases}
use Rattle.floats.specs.Arith.{◌⊖◌, zero_f}
use Rattle.geometry.specs.Limits.{Sound}
use Rattle.geometry.specs.declared.bounding_box.BBox.{BBox}
use Rattle.rows.specs.Rows.{flat, padded}
use Rattle.tree_nodes.specs.Trees.{leaf, below_root, leaves, layout}
use Rattle.tree_nodes.specs.Nodes.{node_at, box_rows, mark_rows}
use Rattle.tree_nodes.specs.Members.{StandsIn, Well, Fine, HullOf, BuiltOf, Sensible}
use Rattle.lists.specs.Lists.{Member, Each, SameMembers}
use Rattle.tree_nodes.specs.declared.Node.{Node}
use Rattle.tree_nodes.proofs.Members.{built-well, built-below, below-built}
use Rattle.tree_nodes.proofs.Nodes.{node_at_lem}
use Rattle.tree_sort.specs.Sort.{inserted, sorted}
use Rattle.tree_split.specs.Build.{box_at, Fits, middle_box, hull_of, axis_of, by_middle, plan_axis, plan_of, arranged, tree_of, tree_for, nodes_for, order_for}
use Rattle.tree_split.proofs.Growth.{length-arranged, parts, tree-leaf, tree-split}
use Rattle.tree_build.specs.Slices.{room_for, Stored}
use Rattle.tree_build.proofs.Whole.{nodes-some, order-some, count-some}
use Rattle.std.specs.Prelude.{None, Option, Some}

-- ---- sorting keeps the members
module _ (less : ℕ → ℕ → Bool) (s : ℕ) where
  member-inserted : (x : ℕ) (l : List ℕ) → Member s (x ∷ l) → Member s (inserted less x l)
  unfolding inserted
  member-inserted x [] h = h
  member-inserted x (y ∷ ys) h = go (less y x) h (member-inserted x ys)
    where
      go : (b : Bool) → Member s (x ∷ y ∷ ys) → (Member s (x ∷ ys) → Member s (inserted less x ys)) → Member s (cond b (y ∷ inserted less x ys) (x ∷ y ∷ ys))
      go true (inl e) k = inr (k (inl e))
      go true (inr (inl e)) k = inl e
      go true (inr (inr i)) k = inr (k (inr i))
      go false h k = h

  inserted-member : (x : ℕ) (l : List ℕ) → Member s (inserted less x l) → Member s (x ∷ l)
  unfolding inserted
  inserted-member x [] h = h
  inserted-member x (y ∷ ys) h = go (less y x) h (inserted-member x ys)
    where
      go : (b : Bool) → Member s (cond b (y ∷ inserted less x ys) (x ∷ y ∷ ys)) → (Member s (inserted less x ys) → Member s (x ∷ ys)) → Member s (x ∷ y ∷ ys)
      go true (inl e) k = inr (inl e)
      go true (inr i) k = elim (k i) [ inl e ↦ inl e | inr j ↦ inr (inr j) ]
      go false h k = h

  member-sorted : (l : List ℕ) → Member s l → Member s (sorted less l)
  unfolding sorted
  member-sorted [] h = h
  member-sorted (x ∷ xs) (inl e) = member-inserted x (sorted less xs) (inl e)
  member-sorted (x ∷ xs) (inr i) = member-inserted x (sorted less xs) (inr (member-sorted xs i))

  sorted-member : (l : List ℕ) → Member s (sorted less l) → Member s l
  unfolding sorted
  sorted-member [] h = h
  sorted-member (x ∷ xs) h = elim (inserted-member x (sorted less xs) h) [ inl e ↦ inl e | inr i ↦ inr (sorted-member xs i) ]

module _ (box : ℕ → BBox) where
  same-arranged : (ids : List ℕ) → SameMembers ids (arranged box ids)
  unfolding arranged
  same-arranged ids s = cases (leb (length ids) 2)
      (λ t. rw t (record { to = λ h. h; from = λ h. h }))
      (λ t. rw t (record { to = member-sorted (by_middle box (plan_axis box ids)) s ids; from = sorted-member (by_middle box (plan_axis box ids)) s ids }))

  -- ---- the tree is built of its solids
  plan-hull : (ids : List ℕ) → 0 < length ids → HullOf box ids (plan_of box ids).bx
  unfolding plan_of hull_of
  plan-hull [] h = absurd (not-suc-le-zero h)
  plan-hull (i ∷ ids) h = refl

  leaf-built : (ids : List ℕ) → 0 < length ids → BuiltOf box ids (leaf (plan_of box ids).bx (plan_of box ids).axis (arranged box ids))
  leaf-built ids h = record { hulled = plan-hull ids h; same = same-arranged ids }

  tree-built : (k : ℕ) (ids : List ℕ) → 0 < length ids → BuiltOf box ids (tree_of k box ids)
  unfolding tree_of
  tree-built zero ids h = leaf-built ids h
  tree-built (suc k) ids h =
      let m : ℕ = (plan_of box ids).at in
      let l : List ℕ = arranged box ids in
      cases (eqb m 0)
      (λ t. rw (tree-leaf box k ids t) (leaf-built ids h))
      (λ t.
      let q = parts box ids t in
      let u = tree-built k (take m l) (omega (arith, q.first, q.some)) in
      let v = tree-built k (drop m l) (omega (arith, q.second, q.inside)) in
      let s : SameMembers ids (take m l ++ drop m l) = rw (take-append-drop m l) (same-arranged ids) in
      rw (tree-split box k ids t) (record { hulled = plan-hull ids h; first = take m l; second = drop m l; same = s; one = u; two = v }))

  -- The tree of some solids is built of them: each node's box is the hull of its solids, which a split parts between its children.
  pub built-tree : (ids : List ℕ) → 0 < length ids → BuiltOf box ids (tree_for box ids)
  built-tree ids h = tree-built (length ids) ids h

  -- Each node's box holds the boxes of all solids below it.
  pub well-tree : (ids : List ℕ) → 0 < length ids → Fine box ids → Well box (tree_for box ids)
  well-tree ids h f = built-well box (tree_for box ids) ids f (built-tree ids h)

  -- All solids of the list stand in the tree, and no others.
  pub member-tree : (ids : List ℕ) → 0 < length ids → (s : ℕ) → Member s ids → StandsIn s (tree_for box ids)
  member-tree ids h = built-below box (tree_for box ids) ids (built-tree ids h)

  pub tree-member : (ids : List ℕ) → 0 < length ids → (s : ℕ) → StandsIn s (tree_for box ids) → Member s ids
  tree-member ids h = below-built box (tree_for box ids) ids (built-tree ids h)

  -- ---- each leaf has solids, each split an axis
  axis-some : (s : BBox) → axis_of s ≡ 0 → ⊥
  unfolding axis_of
  axis-some s =
      let x = s.max.x ⊖ s.min.x in
      let y = s.max.y ⊖ s.min.y in
      let z = s.max.z ⊖ s.min.z in
      go (lt y x) (lt z x) (lt z y)
    where
      go : (a b c : Bool) → ◌≡◌ {A = ℕ} (cond a (cond b 1 (cond c 2 3)) (cond c 2 3)) 0 → ⊥
      go true true c e = omega arith
      go true false true e = omega arith
      go true false false e = omega arith
      go false b true e = omega arith
      go false b false e = omega arith

  plan-axis : (ids : List ℕ) → ((plan_of box ids).at ≡ 0 → ⊥) → (plan_of box ids).axis ≡ 0 → ⊥
  unfolding plan_of plan_axis
  plan-axis ids = cases (leb (length ids) 2)
      (λ t. rw t (λ z. absurd (z refl)))
      (λ t. rw t (λ z. axis-some (hull_of (λ (i : ℕ). middle_box (box i)) ids)))

  tree-sensible : (k : ℕ) (ids : List ℕ) → 0 < length ids → Sensible (tree_of k box ids)
  unfolding tree_of
  tree-sensible zero ids h = rw (length-arranged box ids) h
  tree-sensible (suc k) ids h =
      let m : ℕ = (plan_of box ids).at in
      let l : List ℕ = arranged box ids in
      cases (eqb m 0)
      (λ t. rw (tree-leaf box k ids t) (rw (length-arranged box ids) h))
      (λ t.
      let q = parts box ids t in
      let u = tree-sensible k (take m l) (omega (arith, q.first, q.some)) in
      let v = tree-sensible k (drop m l) (omega (arith, q.second, q.inside)) in
      rw (tree-split box k ids t) (plan-axis ids (eqb-false m 0 t), u, v))

  pub sensible-tree : (ids : List ℕ) → 0 < length ids → Sensible (tree_for box ids)
  sensible-tree ids h = tree-sensible (length ids) ids h

-- what the build asks of the boxes is what the laws of a well-made tree ask
pub fits-fine : (xs : List Float) (ids : List ℕ) → Each (Fits xs) ids → Fine (box_at xs) ids
unfolding Each
fits-fine xs [] h s i = absurd i
fits-fine xs (x ∷ ids) h s (inl e) = subst (λ (j : ℕ). Sound (box_at xs j)) e h.0.sound
fits-fine xs (x ∷ ids) h s (inr i) = fits-fine xs ids h.1 s i

-- ---- the slices that the build leaves, where it answers a number of nodes
answer-room : (b : Bool) (f n : ℕ) → Some f ≡ cond b (Some n) None → b ≡ true
answer-room true f n e = refl
answer-room false f n e = absurd (let z : ◌≡◌ {A = ℕ} 0 1 = cc in omega arith)

answer-is : (b : Bool) (f n : ℕ) → Some f ≡ cond b (Some n) None → f ≡ n
answer-is true f n e = ap upto e
  where
    upto : Option ℕ → ℕ
    upto (Some k) = k
    upto None = 0
answer-is false f n e = absurd (let z : ◌≡◌ {A = ℕ} 0 1 = cc in omega arith)

module _ (box : ℕ → BBox) (ids : List ℕ) (places B M O f : ℕ) (nodeBoxes : List Float) (marks order : List ℕ) (P : Stored box ids places B M O (Some f) nodeBoxes marks order) where
  room : room_for box ids places ≡ true
  room = answer-room (room_for box ids places) f (length (nodes_for box ids)) P.answer

  -- no solids: zeros throughout
  pub stored-nothing : ids ≡ [] → (nodeBoxes ≡ padded zero_f B []) × (marks ≡ padded 0 M []) × (order ≡ padded 0 O [])
  unfolding nodes_for order_for flat
  stored-nothing e =
      let a : nodes_for box ids ≡ [] = rw e in
      let b : order_for box ids ≡ [] = rw e in
      (P.rows ∙ rw (room, a), P.triples ∙ rw (room, a), P.solids ∙ rw (room, b))

  module _ (h : 0 < length ids) where
    -- the tree's layout, its solids in the leaves' order, and then zeros
    pub stored-layout : (nodeBoxes ≡ padded zero_f B (box_rows (layout (tree_for box ids)))) × (marks ≡ padded 0 M (mark_rows (layout (tree_for box ids)))) × (order ≡ padded 0 O (leaves (tree_for box ids)))
    stored-layout = (P.rows ∙ rw (room, nodes-some box ids h), P.triples ∙ rw (room, nodes-some box ids h), P.solids ∙ rw (room, order-some box ids h))

    -- node i of the slices is node i of the layout
    pub stored-node : (i : ℕ) (d : Node) → i < length (layout (tree_for box ids)) → node_at nodeBoxes marks i ≡ get_or (layout (tree_for box ids)) i d
    unfolding padded
    stored-node i d l =
        let ns : List Node = layout (tree_for box ids) in
        ap₂ (λ (a : List Float) (b : List ℕ). node_at a b i) stored-layout.0 stored-layout.1
        ∙ node_at_lem ns (replicate (B - length (box_rows ns)) zero_f) (replicate (M - length (mark_rows ns)) 0) i d l

    -- the answer is the number of nodes
    pub stored-count : f ≡ 1 + below_root (tree_for box ids)
    stored-count = answer-is (room_for box ids places) f (length (nodes_for box ids)) P.answer ∙ count-some box ids h
