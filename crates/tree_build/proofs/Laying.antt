-- How the layouts of its two parts make up a split's layout. Nodes are a function of the place, so that nothing here speaks of slices.
-- Assumes nothing.
use mathlib.Core.Path.{◌≡◌, sym, ap, ◌∙◌}
use mathlib.Core.Logic.{◌≢◌}
use mathlib.Core.List.{List, ◌++◌}
use Prim.Native.Nat.{ℕ, zero, suc, ◌+◌, ◌-◌, ◌≤◌, ◌<◌}
use native.Mathlib.Nat.{not-suc-le-zero, add-zero}
use native.Mathlib.Omega.{arith}
use lib.ListN.{length, get_or, get_or-append}
use lib.Seq.{get_or-append-add}
use lib.Dec.{ltb}
use borrow.Author.Tests.{ltb-true, ltb-false}
use borrow.Table.Steps.{cases}
use Rattle.geometry.specs.declared.bounding_box.BBox.{BBox}
use Rattle.tree_nodes.specs.declared.Node.{Node}
use Rattle.tree_nodes.specs.Trees.{Tree, leaf, split, below_root, root_of, below_of, leaves}
use Rattle.tree_nodes.proofs.Nodes.{length-below}
use Rattle.tree_build.specs.Slices.{Laid}

module _ {S : Type 0} where
  pub laid_leaf : (N N' : ℕ → Node) (places node free start : ℕ) (b : BBox) (a : ℕ) (ids : List S) → node < free → free ≤ places
      → N' node ≡ record { bx = b; first = start; count = length ids; axis = a } → ((k : ℕ) → k ≢ node → k < places → N' k ≡ N k) → Laid N N' places node free start (leaf b a ids)
  unfolding below_root root_of below_of
  laid_leaf N N' places node free start b a ids h c e o = record {
    fits = omega arith;
    root = e;
    below = λ k d l. absurd (not-suc-le-zero l);
    before = λ k n l. o k n (omega arith);
    after = λ k l m. o k (λ q. let z : ⊥ = omega (arith, q) in z) m;
  }

  module _ (N N₁ N₂ N₃ : ℕ → Node) (places node free start : ℕ) (b : BBox) (a : ℕ) (l r : Tree S) (h : node < free)
      (e : N₁ node ≡ record { bx = b; first = free; count = 0; axis = a }) (o : (k : ℕ) → k ≢ node → k < places → N₁ k ≡ N k)
      (L : Laid N₁ N₂ places free (free + 2) start l) (R : Laid N₂ N₃ places (free + 1) (free + 2 + below_root l) (start + length (leaves l)) r) where
    below-ne : (x y : ℕ) → x < y → x ≢ y
    below-ne x y p q = omega (arith, q)

    above-ne : (x y : ℕ) → y < x → x ≢ y
    above-ne x y p q = omega (arith, q)

    -- what is neither the node nor from free on is as it was
    early : (k : ℕ) → k < free → N₃ k ≡ N₁ k
    early k p = R.before k (below-ne k (free + 1) (omega arith)) (omega arith) ∙ L.before k (below-ne k free p) (omega arith)

    split_below : (k : ℕ) (d : Node) → k < below_root (split b a l r) → N₃ (free + k) ≡ get_or (below_of free start (split b a l r)) k d
    unfolding below_root below_of
    split_below zero d p = rw add-zero (R.before free (below-ne free (free + 1) (omega arith)) (omega arith) ∙ L.root)
    split_below (suc zero) d p = R.root
    split_below (suc (suc k)) d p =
        let bl : List Node = below_of (free + 2) start l in
        let br : List Node = below_of (free + 2 + below_root l) (start + length (leaves l)) r in
        let ll : length bl ≡ below_root l = length-below (free + 2) start l in
        cases (ltb k (below_root l))
        (λ t. let q : k < below_root l = ltb-true k (below_root l) t in
        let f : free + suc (suc k) ≡ free + 2 + k = omega arith in
        rw f (R.before (free + 2 + k) (above-ne (free + 2 + k) (free + 1) (omega arith)) (omega arith) ∙ L.below k d q ∙ sym (get_or-append bl br d k (omega arith))))
        (λ t. let q : below_root l ≤ k = ltb-false k (below_root l) t in
        let j : ℕ = k - below_root l in
        let f : free + suc (suc k) ≡ free + 2 + below_root l + j = omega arith in
        let g : k ≡ length bl + j = omega arith in
        let u : j < below_root r = omega arith in
        rw f (R.below j d u ∙ sym (ap (λ (n : ℕ). get_or (bl ++ br) n d) g ∙ get_or-append-add bl br j d)))

    pub laid-split : Laid N N₃ places node free start (split b a l r)
    unfolding below_root root_of
    laid-split = record {
      fits = let f = R.fits in omega arith;
      root = early node h ∙ e;
      below = split_below;
      before = λ k n p. early k p ∙ o k n (let f = R.fits in omega arith);
      after = λ k p q. R.after k (omega arith) q ∙ L.after k (omega arith) q ∙ o k (above-ne k node (omega arith)) q;
    }
