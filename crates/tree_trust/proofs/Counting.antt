-- How many nodes a tree in node slices has, a node at a time; what is counted stands there. Assumes nothing.
use mathlib.Core.Path.{◌≡◌, refl}
use mathlib.Core.Bool.{Bool, true, false, cond, ◌&&◌, ◌||◌}
use Prim.Native.Nat.{ℕ, zero, suc, ◌+◌, ◌<◌, ◌≤◌}
use native.Mathlib.Omega.{arith}
use lib.Dec.{ltb, eqb}
use borrow.Author.Tests.{lt-ltb, le-ltb, ltb-true, eq-eqb, eqb-false}
use Rattle.tree_nodes.specs.Nodes.{is_leaf}
use Rattle.tree_nodes.specs.declared.Node.{Node}
use Rattle.tree_trust.specs.Trust.{is_sound, is_inside, joined_of, split_nodes, nodes_at, nodes_from}

-- ---- two trees and the split above them
pub joined-few : (a b many : ℕ) → joined_of a b many ≤ many
unfolding joined_of
joined-few a b many = by (eqb a 0 || eqb b 0) (ltb (a + b) many) (ltb-true (a + b) many)
  where
    by : (s t : Bool) → (t ≡ true → a + b < many) → cond s 0 (cond t (a + b + 1) 0) ≤ many
    by true t k = omega arith
    by false true k = omega (arith, k refl)
    by false false k = omega arith

pub record Both (a b r : ℕ) : Type 0 where
  pub one : 0 < a
  pub two : 0 < b
  pub sum : r ≡ a + b + 1

pub joined-both : (a b many : ℕ) → 0 < joined_of a b many → Both a b (joined_of a b many)
unfolding joined_of
joined-both a b many = by (eqb a 0) (eqb b 0) (ltb (a + b) many) (eqb-false a 0) (eqb-false b 0)
  where
    by : (s t u : Bool) → (s ≡ false → a ≡ 0 → ⊥) → (t ≡ false → b ≡ 0 → ⊥) → 0 < cond (s || t) 0 (cond u (a + b + 1) 0) → Both a b (cond (s || t) 0 (cond u (a + b + 1) 0))
    by true t u k l h = absurd (omega (arith, h))
    by false true u k l h = absurd (omega (arith, h))
    by false false true k l h = record { one = omega (arith, k refl); two = omega (arith, l refl); sum = refl }
    by false false false k l h = absurd (omega (arith, h))

pub joined-none : (a b many : ℕ) → a ≡ 0 → joined_of a b many ≡ 0
unfolding joined_of
joined-none a b many e = rw (eq-eqb a 0 e)

zero-either : (t : Bool) → ◌≡◌ {A = ℕ} 0 (cond t 0 0)
zero-either true = refl
zero-either false = refl

module _ (N : ℕ → Node) (many : ℕ) where
  module _ (i a b : ℕ) where
    abbrev one_in : Bool
    one_in = is_inside (N (N i).first).bx (N i).bx

    abbrev two_in : Bool
    two_in = is_inside (N ((N i).first + 1)).bx (N i).bx

    pub split-none : joined_of a b many ≡ 0 → 0 ≡ split_nodes N many i a b
    unfolding split_nodes
    split-none e = rw e (zero-either (one_in && two_in))

    pub split-outside : one_in ≡ false → 0 ≡ split_nodes N many i a b
    unfolding split_nodes
    split-outside e = rw e

    pub split-outside-2 : one_in ≡ true → two_in ≡ false → 0 ≡ split_nodes N many i a b
    unfolding split_nodes
    split-outside-2 e f = rw (e, f)

    pub split-inside : one_in ≡ true → two_in ≡ true → joined_of a b many ≡ split_nodes N many i a b
    unfolding split_nodes
    split-inside e f = rw (e, f)

    split-few : split_nodes N many i a b ≤ many
    unfolding split_nodes
    split-few = by (one_in && two_in)
      where
        by : (t : Bool) → cond t (joined_of a b many) 0 ≤ many
        by true = joined-few a b many
        by false = omega arith

    pub record Nested (r : ℕ) : Type 0 where
      pub one_inside : one_in ≡ true
      pub two-inside : two_in ≡ true
      pub both : Both a b r

    pub split-nested : 0 < split_nodes N many i a b → Nested (split_nodes N many i a b)
    unfolding split_nodes
    split-nested = by one_in two_in refl refl
      where
        by : (s t : Bool) → one_in ≡ s → two_in ≡ t → 0 < cond (s && t) (joined_of a b many) 0 → Nested (cond (s && t) (joined_of a b many) 0)
        by true true e f h = record { one_inside = e; two-inside = f; both = joined-both a b many h }
        by true false e f h = absurd (omega (arith, h))
        by false t e f h = absurd (omega (arith, h))

  -- ---- a node
  -- what holds of one that is counted
  pub record There (i : ℕ) : Type 0 where
    pub there : i < many
    pub sound : is_sound (N i).bx ≡ true

  module _ (i below : ℕ) where
    at-few : below ≤ many → nodes_at N many i below ≤ many
    unfolding nodes_at
    at-few h = by (ltb i many) (is_sound (N i).bx) (is_leaf (N i)) (ltb-true i many)
      where
        by : (t s l : Bool) → (t ≡ true → i < many) → cond (t && s) (cond l 1 below) 0 ≤ many
        by true true true k = omega (arith, k refl)
        by true true false k = h
        by true false l k = omega arith
        by false s l k = omega arith

    at_there : 0 < nodes_at N many i below → There i
    unfolding nodes_at
    at_there = by (ltb i many) (is_sound (N i).bx) refl refl
      where
        by : (t s : Bool) → ltb i many ≡ t → is_sound (N i).bx ≡ s → 0 < cond (t && s) (cond (is_leaf (N i)) 1 below) 0 → There i
        by true true e f h = record { there = ltb-true i many e; sound = f }
        by true false e f h = absurd (omega (arith, h))
        by false s e f h = absurd (omega (arith, h))

    at-gone : many ≤ i → 0 ≡ nodes_at N many i below
    unfolding nodes_at
    at-gone l = rw (le-ltb i many l)

    module _ (h : i < many) where
      at-unsound : is_sound (N i).bx ≡ false → 0 ≡ nodes_at N many i below
      unfolding nodes_at
      at-unsound s = rw (lt-ltb i many h, s)

      module _ (s : is_sound (N i).bx ≡ true) where
        at_leaf : is_leaf (N i) ≡ true → 1 ≡ nodes_at N many i below
        unfolding nodes_at
        at_leaf k = rw (lt-ltb i many h, s, k)

        at_split : is_leaf (N i) ≡ false → below ≡ nodes_at N many i below
        unfolding nodes_at
        at_split k = rw (lt-ltb i many h, s, k)

  -- ---- a tree
  pub nodes-few : (d i : ℕ) → nodes_from N many d i ≤ many
  unfolding nodes_from
  nodes-few zero i = at-few i 0 (omega arith)
  nodes-few (suc d) i = at-few i _ (split-few i _ _)

  pub nodes-there : (d i : ℕ) → 0 < nodes_from N many d i → There i
  unfolding nodes_from
  nodes-there zero i h = at_there i 0 h
  nodes-there (suc d) i h = at_there i _ h

  pub nodes-gone : (d i : ℕ) → many ≤ i → 0 ≡ nodes_from N many d i
  unfolding nodes_from
  nodes-gone zero i l = at-gone i 0 l
  nodes-gone (suc d) i l = at-gone i _ l

  pub nodes-unsound : (d i : ℕ) → i < many → is_sound (N i).bx ≡ false → 0 ≡ nodes_from N many d i
  unfolding nodes_from
  nodes-unsound zero i h s = at-unsound i 0 h s
  nodes-unsound (suc d) i h s = at-unsound i _ h s

  module _ (i : ℕ) (h : i < many) (s : is_sound (N i).bx ≡ true) where
    pub nodes-leaf : (d : ℕ) → is_leaf (N i) ≡ true → 1 ≡ nodes_from N many d i
    unfolding nodes_from
    nodes-leaf zero k = at_leaf i 0 h s k
    nodes-leaf (suc d) k = at_leaf i _ h s k

    module _ (k : is_leaf (N i) ≡ false) where
      pub nodes-deep : (d : ℕ) → d ≡ 0 → 0 ≡ nodes_from N many d i
      unfolding nodes_from
      nodes-deep d e = rw e (at_split i 0 h s k)

      pub nodes-split : (depth d : ℕ) → depth ≡ suc d → split_nodes N many i (nodes_from N many d (N i).first) (nodes_from N many d ((N i).first + 1)) ≡ nodes_from N many depth i
      unfolding nodes_from
      nodes-split depth d e = rw e (at_split i _ h s k)
