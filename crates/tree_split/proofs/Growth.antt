-- A split falls strictly inside, so as much fuel as there are solids is enough; a tree has fewer than twice as many nodes as solids.
-- Assumes nothing.
use mathlib.Core.Path.{◌≡◌, refl, sym, ap, ap₂, ◌∙◌}
use mathlib.Core.Logic.{◌≢◌}
use mathlib.Core.Bool.{Bool, true, false, cond}
use mathlib.Core.List.{List}
use Prim.Native.Nat.{ℕ, zero, suc, ◌+◌, ◌-◌, ◌*◌, ◌≤◌, ◌<◌}
use native.Mathlib.Nat.{add-zero, add-suc}
use native.Mathlib.Omega.{arith}
use lib.ListN.{length, take, drop, length-drop}
use lib.Seq.{length-take-le}
use lib.Dec.{leb, eqb}
use lib.Ieee.{Float, lt}
use borrow.Author.Tests.{leb-false, eqb-false}
use borrow.Table.Steps.{cases}
use Rattle.geometry.specs.declared.bounding_box.BBox.{BBox}
use Rattle.tree_nodes.specs.Trees.{leaf, split, below_root}
use Rattle.lists.specs.Lists.{Each}
use Rattle.tree_sort.proofs.Sorted.{length-sorted, each-sorted}
use Rattle.tree_split.specs.declared.BestSplit.{BestSplit}
use Rattle.tree_split.specs.Build.{best_upto, cost_of, leaf_wins, split_by, plan_axis, arranged, by_middle, plan_of, hull_of, tree_of}

module _ (box : ℕ → BBox) where
  -- ---- arranging keeps the solids
  pub length-arranged : (ids : List ℕ) → length (arranged box ids) ≡ length ids
  unfolding arranged
  length-arranged ids = cases (leb (length ids) 2) (λ t. rw t) (λ t. rw t (length-sorted _ ids))

  pub each-arranged : (P : ℕ → Type 0) (ids : List ℕ) → Each P ids → Each P (arranged box ids)
  unfolding arranged
  each-arranged P ids h = cases (leb (length ids) 2) (λ t. rw t h) (λ t. rw t (each-sorted P (by_middle box (plan_axis box ids)) ids h))

  -- ---- a split falls strictly inside
  better-inside : (n : ℕ) (t : Bool) (a b : BestSplit) → (0 < a.at) × (a.at < n) → (0 < b.at) × (b.at < n) → (0 < (cond t a b).at) × ((cond t a b).at < n)
  better-inside n true a b p q = p
  better-inside n false a b p q = q

  pub best-inside : (ids : List ℕ) (k : ℕ) → 2 ≤ length ids → k < length ids → (0 < (best_upto box ids k).at) × ((best_upto box ids k).at < length ids)
  unfolding best_upto
  best-inside ids zero h l = (omega arith, omega arith)
  best-inside ids (suc k) h l =
      let c : Float = cost_of box ids (suc k) in
      better-inside (length ids) (lt c (best_upto box ids k).cost) (record { cost = c; at = suc k }) (best_upto box ids k) (omega arith, l) (best-inside ids k h (omega arith))

  cond-less : (n : ℕ) (t : Bool) (a b : ℕ) → (a ≢ 0 → a < n) → (b ≢ 0 → b < n) → cond t a b ≢ 0 → cond t a b < n
  cond-less n true a b p q = p
  cond-less n false a b p q = q

  split-inside : (bx : BBox) (ids : List ℕ) → 2 ≤ length ids → split_by box bx ids ≢ 0 → split_by box bx ids < length ids
  unfolding split_by
  split-inside bx ids h =
      let n : ℕ = length ids in
      let best : BestSplit = best_upto box ids (n - 1) in
      let b : best.at < n = (best-inside ids (n - 1) h (omega arith)).1 in
      cond-less n (leb n 8) (cond (leaf_wins bx n best.cost) 0 best.at) best.at
      (cond-less n (leaf_wins bx n best.cost) 0 best.at (λ z. absurd (z refl)) (λ _. b)) (λ _. b)

  pub plan-inside : (ids : List ℕ) → (plan_of box ids).at ≢ 0 → (plan_of box ids).at < length ids
  unfolding plan_of
  plan-inside ids =
      let l : length (arranged box ids) ≡ length ids = length-arranged ids in
      cases (leb (length ids) 2)
      (λ t. rw t (λ z. absurd (z refl)))
      (λ t. rw t (λ z. rw (← l) (split-inside (hull_of box ids) (arranged box ids) (omega (arith, l, leb-false (length ids) 2 t)) z)))

  -- ---- the tree, one level down
  pub tree-leaf : (k : ℕ) (ids : List ℕ) → eqb (plan_of box ids).at 0 ≡ true → tree_of (suc k) box ids ≡ leaf (plan_of box ids).bx (plan_of box ids).axis (arranged box ids)
  unfolding tree_of
  tree-leaf k ids t = rw (t, tree_of)

  pub tree-split : (k : ℕ) (ids : List ℕ) → eqb (plan_of box ids).at 0 ≡ false
      → tree_of (suc k) box ids ≡ split (plan_of box ids).bx (plan_of box ids).axis (tree_of k box (take (plan_of box ids).at (arranged box ids))) (tree_of k box (drop (plan_of box ids).at (arranged box ids)))
  unfolding tree_of
  tree-split k ids t = rw (t, tree_of)

  -- the two parts of a split, both with solids and with fewer than the whole
  pub record Parts (ids : List ℕ) : Type 0 where
    pub inside : (plan_of box ids).at < length ids
    pub first : length (take (plan_of box ids).at (arranged box ids)) ≡ (plan_of box ids).at
    pub second : length (drop (plan_of box ids).at (arranged box ids)) ≡ length ids - (plan_of box ids).at
    pub some : 0 < (plan_of box ids).at

  pub parts : (ids : List ℕ) → eqb (plan_of box ids).at 0 ≡ false → Parts ids
  parts ids t =
      let m : ℕ = (plan_of box ids).at in
      let l : List ℕ = arranged box ids in
      let z : m ≢ 0 = eqb-false m 0 t in
      let i : m < length ids = plan-inside ids z in
      let al : length l ≡ length ids = length-arranged ids in
      record { inside = i; first = length-take-le m l (omega arith); second = length-drop m l ∙ ap (λ (n : ℕ). n - m) al; some = omega (arith, z) }

  -- ---- fuel
  tree-more : (k : ℕ) (ids : List ℕ) → length ids ≤ k → 0 < length ids → tree_of (suc k) box ids ≡ tree_of k box ids
  tree-more zero ids h p = absurd (omega arith)
  tree-more (suc k) ids h p =
      let m : ℕ = (plan_of box ids).at in
      let l : List ℕ = arranged box ids in
      cases (eqb m 0)
      (λ t. tree-leaf (suc k) ids t ∙ sym (tree-leaf k ids t))
      (λ t.
      let q = parts ids t in
      tree-split (suc k) ids t
      ∙ ap₂ (split (plan_of box ids).bx (plan_of box ids).axis) (tree-more k (take m l) (omega (arith, q.first, q.inside)) (omega (arith, q.first, q.some))) (tree-more k (drop m l) (omega (arith, q.second, q.some)) (omega (arith, q.second, q.inside)))
      ∙ sym (tree-split k ids t))

  tree-enough : (d : ℕ) (ids : List ℕ) → 0 < length ids → tree_of (length ids + d) box ids ≡ tree_of (length ids) box ids
  tree-enough zero ids h = rw add-zero
  tree-enough (suc d) ids h = rw add-suc (tree-more (length ids + d) ids (omega arith) h ∙ tree-enough d ids h)

  -- as much as there are solids, or more
  pub tree-fuel : (k : ℕ) (ids : List ℕ) → 0 < length ids → length ids ≤ k → tree_of k box ids ≡ tree_of (length ids) box ids
  tree-fuel k ids h l =
      let e : k ≡ length ids + (k - length ids) = omega arith in
      ap (λ (n : ℕ). tree_of n box ids) e ∙ tree-enough (k - length ids) ids h

  -- ---- fewer than twice as many nodes as solids
  pub under-small : (k : ℕ) (ids : List ℕ) → 0 < length ids → below_root (tree_of k box ids) + 2 ≤ 2 * length ids
  unfolding tree_of below_root
  under-small zero ids h = omega arith
  under-small (suc k) ids h =
      let m : ℕ = (plan_of box ids).at in
      let l : List ℕ = arranged box ids in
      cases (eqb m 0)
      (λ t. rw (tree-leaf k ids t) (omega arith))
      (λ t.
      let q = parts ids t in
      let a = under-small k (take m l) (omega (arith, q.first, q.some)) in
      let b = under-small k (drop m l) (omega (arith, q.second, q.inside)) in
      rw (tree-split k ids t) (omega (arith, a, b, q.first, q.second, q.inside)))
