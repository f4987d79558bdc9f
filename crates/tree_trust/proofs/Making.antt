-- What passes the tests: boxes are sound and lie in one another, and a tree whose nodes are counted stands in the slices whole. Assumes nothing.
use mathlib.Core.Path.{◌≡◌, refl, sym, subst, ◌∙◌}
use mathlib.Core.List.{List}
use mathlib.Core.Bool.{Bool, true, false, cond, ◌&&◌, and-eq-true_iff}
use Prim.Native.Nat.{ℕ, zero, suc, ◌+◌, ◌<◌}
use native.Mathlib.Omega.{arith}
use lib.Dec.{T}
use lib.Ieee.{Float, le}
use borrow.Author.Tests.{lt-ltb, ltb-true}
use Rattle.geometry.specs.Limits.{Under, Sound, Inside}
use Rattle.limits.specs.Limits.{within_point, within_box}
use Rattle.limits.proofs.Limits.{within-point}
use Rattle.geometry.specs.declared.vector.Vector.{Vector}
use Rattle.geometry.specs.declared.bounding_box.BBox.{BBox}
use Rattle.tree_nodes.specs.Trees.{Tree, leaf, split, below_root}
use Rattle.tree_nodes.specs.Nodes.{node_at, places_of, is_leaf}
use Rattle.tree_nodes.specs.declared.Node.{Node}
use Rattle.tree_walk.specs.Standing.{Stands}
use Rattle.tree_walk.specs.Walks.{leaf_entries}
use Rattle.tree_trust.specs.Trust.{tree_at, tree_box, Shallow, Nests, Trusted, is_under, is_sound, is_inside, nodes_from, is_trusted}
use Rattle.tree_trust.proofs.Counting.{There, split-nested, nodes-few, nodes-there, nodes-leaf, nodes-deep, nodes-split}

told : {t : Bool} → t ≡ true → T t
told e = subst T (sym e) tt

-- ---- what passes the tests of boxes
pub is-under : (u v : Vector) → is_under u v ≡ true → Under u v
unfolding is_under
is-under u v h =
    let a = (and-eq-true_iff (le u.x v.x) (le u.y v.y && le u.z v.z)).0 h in
    let b = (and-eq-true_iff (le u.y v.y) (le u.z v.z)).0 a.1 in
    record { x = told a.0; y = told b.0; z = told b.1 }

pub is-sound : (b : BBox) → is_sound b ≡ true → Sound b
unfolding is_sound within_box
is-sound b h =
    let a = (and-eq-true_iff (within_box b) (is_under b.min b.max)).0 h in
    let w = (and-eq-true_iff (within_point b.min) (within_point b.max)).0 a.0 in
    record { min = within-point b.min w.0; max = within-point b.max w.1; fair = is-under b.min b.max a.1 }

is-inside : (c p : BBox) → is_inside c p ≡ true → Inside c p
unfolding is_inside
is-inside c p h =
    let a = (and-eq-true_iff (is_under p.min c.min) (is_under c.max p.max)).0 h in
    record { min = is-under p.min c.min a.0; max = is-under c.max p.max a.1 }

-- ---- trees
-- the tree at place i stands there whole, at most so deep, and has so many nodes
record Made (boxes : List Float) (links order : List ℕ) (depth i many : ℕ) : Type 0 where
  pub stands : Stands (node_at boxes links) (places_of boxes links) order i (tree_at (node_at boxes links) order depth i)
  pub shallow : Shallow depth (tree_at (node_at boxes links) order depth i)
  pub nests : Nests (tree_at (node_at boxes links) order depth i)
  pub nodes : suc (below_root (tree_at (node_at boxes links) order depth i)) ≡ many

module _ (boxes : List Float) (links order : List ℕ) where
  abbrev N : ℕ → Node
  N = node_at boxes links

  abbrev P : ℕ
  P = places_of boxes links

  leaf-at : (depth i : ℕ) → is_leaf (N i) ≡ true → tree_at N order depth i ≡ leaf (N i).bx (N i).axis (leaf_entries order (N i))
  unfolding tree_at
  leaf-at zero i k = refl
  leaf-at (suc d) i k = rw k

  split_at : (d i : ℕ) → is_leaf (N i) ≡ false → tree_at N order (suc d) i ≡ split (N i).bx (N i).axis (tree_at N order d (N i).first) (tree_at N order d ((N i).first + 1))
  unfolding tree_at
  split_at d i k = rw k

  box-at : (depth i : ℕ) → tree_box (tree_at N order depth i) ≡ (N i).bx
  unfolding tree_at
  box-at zero i = refl
  box-at (suc d) i = go (is_leaf (N i))
    where
      go : (b : Bool) → tree_box (cond b (leaf (N i).bx (N i).axis (leaf_entries order (N i))) (split (N i).bx (N i).axis (tree_at N order d (N i).first) (tree_at N order d ((N i).first + 1)))) ≡ (N i).bx
      go true = refl
      go false = refl

  module _ (i : ℕ) (h : i < P) (s : Sound (N i).bx) where
    leaf-made : (depth : ℕ) → is_leaf (N i) ≡ true → Made boxes links order depth i 1
    unfolding below_root
    leaf-made depth k = record {
      stands = rw (leaf-at depth i k) (record { there = lt-ltb i P h; box = refl; kind = k; solids = refl });
      shallow = rw (leaf-at depth i k) tt;
      nests = rw (leaf-at depth i k) s;
      nodes = rw (leaf-at depth i k);
    }

    split-made : (depth d : ℕ) → depth ≡ suc d → is_leaf (N i) ≡ false → (a b m : ℕ) → Made boxes links order d (N i).first a → Made boxes links order d ((N i).first + 1) b → m ≡ a + b + 1
        → Inside (N (N i).first).bx (N i).bx → Inside (N ((N i).first + 1)).bx (N i).bx → Made boxes links order depth i m
    unfolding below_root
    split-made depth d e k a b m A B em u v =
        let x : Tree ℕ = tree_at N order d (N i).first in
        let y : Tree ℕ = tree_at N order d ((N i).first + 1) in
        rw e (record {
          stands = rw (split_at d i k) (record { there = lt-ltb i P h; box = refl; kind = k; axis = refl; one = A.stands; two = B.stands });
          shallow = rw (split_at d i k) (A.shallow, B.shallow);
          nests = rw (split_at d i k) (record {
            sound = s;
            one_in = subst (λ (c : BBox). Inside c (N i).bx) (sym (box-at d (N i).first)) u;
            two_in = subst (λ (c : BBox). Inside c (N i).bx) (sym (box-at d ((N i).first + 1))) v;
            one = A.nests;
            two = B.nests;
          });
          nodes = rw (split_at d i k) (omega (arith, A.nodes, B.nodes, em));
        })

  abbrev count : ℕ → ℕ → ℕ
  count d i = nodes_from N P d i

  -- the node at place i, where the trees below it, if it is a split, are made
  abbrev Below : ℕ → Type 0
  Below zero = Unit {0}
  Below (suc d) = (j : ℕ) → 0 < count d j → Made boxes links order d j (count d j)

  made_by : (d i : ℕ) → Below d → There N P i → (b : Bool) → is_leaf (N i) ≡ b → 0 < count d i → Made boxes links order d i (count d i)
  made_by d i f t true k h = rw (← nodes-leaf N P i t.there t.sound d k) (leaf-made i t.there (is-sound (N i).bx t.sound) d k)
  made_by zero i f t false k h = absurd (omega (arith, h, nodes-deep N P i t.there t.sound k 0 refl))
  made_by (suc d) i f t false k h =
      let e = nodes-split N P i t.there t.sound k (suc d) d refl in
      let n = split-nested N P i (count d (N i).first) (count d ((N i).first + 1)) (omega (arith, h, e)) in
      split-made i t.there (is-sound (N i).bx t.sound) (suc d) d refl k (count d (N i).first) (count d ((N i).first + 1)) (count (suc d) i)
      (f (N i).first n.both.one) (f ((N i).first + 1) n.both.two) (sym e ∙ n.both.sum)
      (is-inside (N (N i).first).bx (N i).bx n.one_inside) (is-inside (N ((N i).first + 1)).bx (N i).bx n.two-inside)

  nodes-made : (d i : ℕ) → 0 < count d i → Made boxes links order d i (count d i)
  nodes-made zero i h = made_by zero i tt (nodes-there N P zero i h) (is_leaf (N i)) refl h
  nodes-made (suc d) i h = made_by (suc d) i (nodes-made d) (nodes-there N P (suc d) i h) (is_leaf (N i)) refl h

  pub is-trusted : is_trusted boxes links ≡ true → Trusted boxes links order
  unfolding is_trusted
  is-trusted h =
      let M = nodes-made 62 0 (ltb-true 0 (count 62 0) h) in
      record { stands = M.stands; shallow = M.shallow; nests = M.nests; fits = omega (arith, M.nodes, nodes-few N P 62 0) }
