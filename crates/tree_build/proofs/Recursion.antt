-- The steps of the recursive build. Assumes nothing.
use mathlib.Core.Path.{◌≡◌, refl, sym, ap, ap₂, ◌∙◌, subst}
use mathlib.Core.List.{List, ◌++◌}
use mathlib.Core.Logic.{◌≢◌}
use Prim.Native.Nat.{ℕ, suc, ◌+◌, ◌-◌, ◌*◌, ◌≤◌, ◌<◌}
use native.Mathlib.Omega.{arith}
use lib.ListN.{length, take, drop, length-drop, length-append}
use lib.Seq.{length-take-le}
use borrow.Author.Tests.{eq-eqb, ne_eqb}
use borrow.Rule.Slice.PartMut.{put_mid}
use Rattle.geometry.specs.declared.bounding_box.BBox.{BBox}
use Rattle.tree_nodes.specs.Trees.{Tree, leaf, split, below_root, leaves}
use Rattle.tree_nodes.specs.declared.Node.{Node}
use Rattle.lists.specs.Lists.{Each}
use Rattle.tree_sort.proofs.Sorting.{second-half, both_halves}
use Rattle.tree_split.specs.declared.Plan.{Plan}
use Rattle.tree_split.specs.Build.{plan_of, arranged, tree_of, tree_for}
use Rattle.tree_split.proofs.Growth.{length-arranged, each-arranged, plan-inside, tree-leaf, tree-split, tree-fuel, under-small}
use Rattle.tree_build.specs.Slices.{Laid, BuiltAs}
use Rattle.tree_build.proofs.Laying.{laid_leaf, laid-split}
use Rattle.std.specs.Prelude.{None, Option, Some}

-- the solids ids have the plan p, and stand in the order o
pub record Planned (box : ℕ → BBox) (ids o : List ℕ) (p : Plan) : Type 0 where
  pub some : 0 < length ids
  pub plan : p ≡ plan_of box ids
  pub order : o ≡ arranged box ids

module _ (box : ℕ → BBox) (ids o : List ℕ) (p : Plan) (D : Planned box ids o p) where
  pub length_o : length o ≡ length ids
  length_o = ap length D.order ∙ length-arranged box ids

  pub each-o : (P : ℕ → Type 0) → Each P ids → Each P o
  each-o P h = rw D.order (each-arranged box P ids h)

  at-is : p.at ≡ (plan_of box ids).at
  at-is = ap (λ (q : Plan). q.at) D.plan

  fuel : length ids ≡ suc (length ids - 1)
  fuel = let s = D.some in omega arith

  tree-is-leaf : p.at ≡ 0 → tree_for box ids ≡ leaf p.bx p.axis o
  tree-is-leaf z =
      ap (λ (n : ℕ). tree_of n box ids) fuel ∙ tree-leaf box (length ids - 1) ids (eq-eqb (plan_of box ids).at 0 (sym at-is ∙ z)) ∙ rw (D.order, D.plan)

  pub built-leaf : (N N₁ : ℕ → Node) (places node free start : ℕ) → p.at ≡ 0 → node < free → free ≤ places → N₁ node ≡ record { bx = p.bx; first = start; count = length o; axis = p.axis }
      → ((k : ℕ) → k ≢ node → N₁ k ≡ N k) → BuiltAs (Some free) N N₁ places node free start o (tree_for box ids)
  unfolding below_root leaves
  built-leaf N N₁ places node free start z h c e same =
      rw (tree-is-leaf z) (omega arith, laid_leaf N N₁ places node free start p.bx p.axis o h c e (λ k d l. same k d), refl)

  module _ (z : p.at ≡ 0 → ⊥) where
    abbrev L : List ℕ
    L = take p.at o

    abbrev R : List ℕ
    R = drop p.at o

    pub inside : p.at < length ids
    inside = rw at-is (plan-inside box ids (λ q. z (at-is ∙ q)))

    pub half : p.at ≤ length o
    half = omega (arith, inside, length_o)

    pub length-L : length L ≡ p.at
    length-L = length-take-le p.at o half

    pub length_r : length R ≡ length ids - p.at
    length_r = length-drop p.at o ∙ ap (λ (n : ℕ). n - p.at) length_o

    abbrev tl : Tree ℕ
    tl = tree_for box L

    abbrev tr : Tree ℕ
    tr = tree_for box R

    tree-is-split : tree_for box ids ≡ split p.bx p.axis tl tr
    tree-is-split =
        let a : tree_of (length ids - 1) box L ≡ tl = tree-fuel box (length ids - 1) L (omega (arith, length-L)) (omega (arith, length-L, inside)) in
        let b : tree_of (length ids - 1) box R ≡ tr = tree-fuel box (length ids - 1) R (omega (arith, length_r, inside)) (omega (arith, length_r)) in
        let e : tree_of (suc (length ids - 1)) box ids ≡ split p.bx p.axis (tree_of (length ids - 1) box L) (tree_of (length ids - 1) box R) =
        tree-split box (length ids - 1) ids (ne_eqb (plan_of box ids).at 0 (λ q. z (at-is ∙ q))) ∙ rw (D.order, D.plan) in
        ap (λ (n : ℕ). tree_of n box ids) fuel ∙ e ∙ ap₂ (split p.bx p.axis) a b

    under-is : below_root (tree_for box ids) ≡ 2 + below_root tl + below_root tr
    unfolding below_root
    under-is = rw tree-is-split

    leaves-is : (o₂ o₃ : List ℕ) → o₂ ≡ leaves tl → o₃ ≡ leaves tr → o₂ ++ o₃ ≡ leaves (tree_for box ids)
    unfolding leaves
    leaves-is o₂ o₃ a b = rw tree-is-split (ap₂ (λ (x y : List ℕ). x ++ y) a b)

    pub short-left : below_root tl + 2 ≤ 2 * p.at
    short-left = omega (arith, under-small box (length L) L (omega (arith, length-L)), length-L)

    pub full-here : (places free : ℕ) → places < free + 2 → places < free + below_root (tree_for box ids)
    full-here places free h = omega (arith, under-is)

    pub full-left : (places free : ℕ) → places < free + 2 + below_root tl → places < free + below_root (tree_for box ids)
    full-left places free h = omega (arith, under-is)

    module _ (places node free start : ℕ) (N N₁ N₂ N₃ : ℕ → Node) (h : node < free)
        (e : N₁ node ≡ record { bx = p.bx; first = free; count = 0; axis = p.axis }) (same : (k : ℕ) → k ≢ node → N₁ k ≡ N k)
        (f : ℕ) (o₂ o₃ : List ℕ) (left : BuiltAs (Some f) N₁ N₂ places free (free + 2) start o₂ tl) (k₂ : length o₂ ≡ length L) where
      start_is : start + p.at ≡ start + length (leaves tl)
      start_is = omega (arith, length-L, k₂, ap length left.2)

      -- the order when both parts have come back
      abbrev o₄ : List ℕ
      o₄ = put_mid p.at (length (o₂ ++ R) - p.at) (o₂ ++ R) o₃

      both : (r : Option ℕ) → BuiltAs r N₂ N₃ places (free + 1) f (start + p.at) o₃ tr → BuiltAs r N N₃ places node free start o₄ (tree_for box ids)
      both None b = omega (arith, under-is, left.0, b)
      both (Some g) b =
          let B : Laid N₂ N₃ places (free + 1) (free + 2 + below_root tl) (start + length (leaves tl)) tr = rw (left.0, start_is) at b.1 in (
            omega (arith, b.0, left.0, under-is),
            rw tree-is-split (laid-split N N₁ N₂ N₃ places node free start p.bx p.axis tl tr h e (λ k d l. same k d) left.1 B),
            both_halves o o₂ o₃ p.at half k₂ ∙ leaves-is o₂ o₃ left.2 b.2,
          )

      -- the second part as it is lent is R
      pub built-both : (r : Option ℕ) → BuiltAs r N₂ N₃ places (free + 1) f (start + p.at) o₃ (tree_for box (take (length (o₂ ++ R) - p.at) (drop p.at (o₂ ++ R))))
          → BuiltAs r N N₃ places node free start o₄ (tree_for box ids)
      built-both r b = both r (subst (λ (l : List ℕ). BuiltAs r N₂ N₃ places (free + 1) f (start + p.at) o₃ (tree_for box l)) (second-half o o₂ o₃ p.at half k₂) b)

-- both parts have come back
pub whole_length : (o s₁ s₂ : List ℕ) (m : ℕ) → m ≤ length o → length s₁ ≡ length (take m o) → length s₂ ≡ length (take (length (s₁ ++ drop m o) - m) (drop m (s₁ ++ drop m o)))
    → length (put_mid m (length (s₁ ++ drop m o) - m) (s₁ ++ drop m o) s₂) ≡ length o
whole_length o s₁ s₂ m h k k₂ =
    let e : length s₂ ≡ length (drop m o) = k₂ ∙ ap length (second-half o s₁ s₂ m h k) in
    ap length (both_halves o s₁ s₂ m h k) ∙ length-append s₁ s₂ ∙ omega (arith, e, k, length-take-le m o h, length-drop m o)
