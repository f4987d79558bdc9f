-- The tree of some solids hangs on the boxes of those solids alone. Assumes nothing.
use mathlib.Core.Path.{◌≡◌, refl, sym, ap, ap₂, ◌∙◌}
use mathlib.Core.Bool.{cond}
use mathlib.Core.List.{List, [], ◌∷◌}
use Prim.Native.Nat.{ℕ, zero, suc, ◌-◌}
use lib.ListN.{length, take, drop}
use lib.Dec.{leb, eqb}
use lib.Ieee.{Float, lt}
use borrow.Table.Steps.{cases}
use Rattle.geometry.specs.Boxes.{extend_box}
use Rattle.geometry.specs.declared.bounding_box.BBox.{BBox}
use Rattle.tree_nodes.specs.Trees.{leaf, split}
use Rattle.tree_nodes.specs.Members.{hull}
use Rattle.tree_sort.specs.Sort.{sorted}
use Rattle.lists.specs.Lists.{Each}
use Rattle.tree_sort.proofs.Sorted.{sorted-cong}
use Rattle.lists.proofs.Properties.{each_take, each-drop, each_map}
use Rattle.tree_split.specs.declared.BestSplit.{BestSplit}
use Rattle.tree_split.specs.declared.Plan.{Plan}
use Rattle.tree_split.specs.Build.{middle, middle_box, area_of, hull_of, hull_back, axis_of, on_axis, by_middle, cost_by, cost_of, better_of, best_upto, plan_axis, arranged, leaf_wins, split_by, plan_of, tree_of, tree_for}
use Rattle.tree_split.proofs.Growth.{each-arranged, tree-leaf, tree-split}

module _ (f g : ℕ → BBox) where
  -- the boxes agree on these solids
  abbrev Alike : List ℕ → Type 0
  Alike ids = Each (λ (i : ℕ). f i ≡ g i) ids

  hull-alike : (ids : List ℕ) (b : BBox) → Alike ids → hull f b ids ≡ hull g b ids
  unfolding Each hull
  hull-alike [] b e = refl
  hull-alike (i ∷ ids) b e = ap (λ (c : BBox). hull f (extend_box b c) ids) e.0 ∙ hull-alike ids (extend_box b (g i)) e.1

  hull_of-alike : (ids : List ℕ) → Alike ids → hull_of f ids ≡ hull_of g ids
  unfolding Each hull_of
  hull_of-alike [] e = refl
  hull_of-alike (i ∷ ids) e = ap (λ (c : BBox). hull f c ids) e.0 ∙ hull-alike ids (g i) e.1

  hull_back-alike : (ids : List ℕ) → Alike ids → hull_back f ids ≡ hull_back g ids
  unfolding Each hull_back
  hull_back-alike [] e = refl
  hull_back-alike (i ∷ []) e = e.0
  hull_back-alike (i ∷ j ∷ ids) e = ap₂ extend_box (hull_back-alike (j ∷ ids) e.1) e.0

module _ (box box' : ℕ → BBox) where
  abbrev Agree : ℕ → Type 0
  Agree i = box i ≡ box' i

  cost-alike : (ids : List ℕ) (i : ℕ) → Each Agree ids → cost_of box ids i ≡ cost_of box' ids i
  unfolding cost_of
  cost-alike ids i e = ap₂ (λ (l r : BBox). cost_by l i (area_of r) (length ids - i)) (hull_of-alike box box' (take i ids) (each_take Agree i ids e)) (hull_back-alike box box' (drop i ids) (each-drop Agree i ids e))

  best-alike : (ids : List ℕ) (k : ℕ) → Each Agree ids → best_upto box ids k ≡ best_upto box' ids k
  unfolding best_upto
  best-alike ids zero e = refl
  best-alike ids (suc k) e = ap₂ (λ (b : BestSplit) (c : Float). better_of b c (suc k)) (best-alike ids k e) (cost-alike ids (suc k) e)

  axis-alike : (ids : List ℕ) → Each Agree ids → plan_axis box ids ≡ plan_axis box' ids
  unfolding plan_axis
  axis-alike ids e =
      let m : ℕ → BBox = λ (i : ℕ). middle_box (box i) in
      let m' : ℕ → BBox = λ (i : ℕ). middle_box (box' i) in
      ap (λ (s : BBox). cond (leb (length ids) 2) 0 (axis_of s)) (hull_of-alike m m' ids (each_map Agree (λ (i : ℕ). m i ≡ m' i) (λ i p. ap middle_box p) ids e))

  arranged-alike : (ids : List ℕ) → Each Agree ids → arranged box ids ≡ arranged box' ids
  unfolding arranged
  arranged-alike ids e =
      let a : ℕ = plan_axis box ids in
      let s : sorted (by_middle box a) ids ≡ sorted (by_middle box' a) ids =
      sorted-cong Agree (by_middle box a) (by_middle box' a) (λ i j p q. ap₂ (λ (b c : BBox). lt (on_axis a (middle b)) (on_axis a (middle c))) p q) ids e in
      ap (cond (leb (length ids) 2) ids) (s ∙ ap (λ (n : ℕ). sorted (by_middle box' n) ids) (axis-alike ids e))

  split-alike : (bx bx' : BBox) (ids : List ℕ) → bx ≡ bx' → Each Agree ids → split_by box bx ids ≡ split_by box' bx' ids
  unfolding split_by
  split-alike bx bx' ids p e =
      ap₂ (λ (b : BBox) (best : BestSplit). cond (leb (length ids) 8) (cond (leaf_wins b (length ids) best.cost) 0 best.at) best.at) p (best-alike ids (length ids - 1) e)

  plan-alike : (ids : List ℕ) → Each Agree ids → plan_of box ids ≡ plan_of box' ids
  unfolding plan_of
  plan-alike ids e =
      let h : hull_of box ids ≡ hull_of box' ids = hull_of-alike box box' ids e in
      let s : split_by box (hull_of box ids) (arranged box ids) ≡ split_by box' (hull_of box' ids) (arranged box' ids) =
      split-alike (hull_of box ids) (hull_of box' ids) (arranged box ids) h (each-arranged box Agree ids e) ∙ ap (split_by box' (hull_of box' ids)) (arranged-alike ids e) in
      let a : cond (leb (length ids) 2) 0 (split_by box (hull_of box ids) (arranged box ids)) ≡ cond (leb (length ids) 2) 0 (split_by box' (hull_of box' ids) (arranged box' ids)) = ap (cond (leb (length ids) 2) 0) s in
      λ t. record { bx = h t; axis = axis-alike ids e t; at = a t }

  tree-alike : (k : ℕ) (ids : List ℕ) → Each Agree ids → tree_of k box ids ≡ tree_of k box' ids
  unfolding tree_of
  tree-alike zero ids e = ap₂ (λ (p : Plan) (l : List ℕ). leaf p.bx p.axis l) (plan-alike ids e) (arranged-alike ids e)
  tree-alike (suc k) ids e =
      let p : plan_of box ids ≡ plan_of box' ids = plan-alike ids e in
      let l : arranged box ids ≡ arranged box' ids = arranged-alike ids e in
      let E : Each Agree (arranged box ids) = each-arranged box Agree ids e in
      let m : ℕ = (plan_of box ids).at in
      let u = tree-alike k (take m (arranged box ids)) (each_take Agree m (arranged box ids) E) in
      let v = tree-alike k (drop m (arranged box ids)) (each-drop Agree m (arranged box ids) E) in
      cases (eqb m 0)
      (λ t. tree-leaf box k ids t
      ∙ ap₂ (λ (q : Plan) (o : List ℕ). leaf q.bx q.axis o) p l
      ∙ sym (tree-leaf box' k ids (ap (λ (q : Plan). eqb q.at 0) (sym p) ∙ t)))
      (λ t. tree-split box k ids t
      ∙ ap₂ (split (plan_of box ids).bx (plan_of box ids).axis) u v
      ∙ ap₂ (λ (q : Plan) (o : List ℕ). split q.bx q.axis (tree_of k box' (take q.at o)) (tree_of k box' (drop q.at o))) p l
      ∙ sym (tree-split box' k ids (ap (λ (q : Plan). eqb q.at 0) (sym p) ∙ t)))

  -- where two functions give each solid of the list the same box, they give the same tree
  pub same-tree : (ids : List ℕ) → Each (λ (i : ℕ). box i ≡ box' i) ids → tree_for box ids ≡ tree_for box' ids
  same-tree ids e = tree-alike (length ids) ids e
