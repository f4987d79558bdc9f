-- A node, as the code looks at it: what it counts from there. Assumes nothing.
use mathlib.Core.Path.{◌≡◌, refl, sym, ap, ◌∙◌}
use mathlib.Core.List.{List}
use mathlib.Core.Bool.{Bool, true, false, ◌||◌}
use Prim.Native.Nat.{ℕ, suc, ◌+◌, ◌*◌, ◌<◌, ◌≤◌}
use native.Mathlib.Omega.{arith}
use lib.ListN.{length}
use lib.Dec.{ltb, eqb}
use lib.Ieee.{Float}
use Rattle.geometry.specs.declared.bounding_box.BBox.{BBox}
use Rattle.rows.specs.Rows.{row}
use Rattle.rows.specs.Points.{box_of_row}
use Rattle.rows.specs.Entries.{triple_of}
use Rattle.rows.specs.declared.Triple.{Triple}
use Rattle.tree_nodes.specs.Nodes.{node_at, places_of, is_leaf}
use Rattle.tree_nodes.specs.declared.Node.{Node}
use Rattle.tree_walk.proofs.Rounds.{places-box}
use Rattle.tree_trust.specs.Trust.{is_sound, is_inside, joined_of, split_nodes, nodes_from, is_trusted}
use Rattle.tree_trust.proofs.Counting.{joined-both, nodes-few, nodes-there, joined-none, split-none, split-outside, split-outside-2, split-inside, nodes-unsound, nodes-leaf, nodes-deep, nodes-split}

-- ---- a tree below, counted
module _ (boxes : List Float) (links : List ℕ) (many d i a : ℕ) (ea : a ≡ nodes_from (node_at boxes links) many d i) where
  pub counted-few : a ≤ many
  counted-few = rw ea (nodes-few (node_at boxes links) many d i)

  pub counted-there : many ≡ places_of boxes links → 0 < a → i * 6 + 6 ≤ length boxes
  counted-there em h = (places-box boxes links i (omega (arith, em, (nodes-there (node_at boxes links) many d i (omega (arith, h, ea))).there))).0

pub second-counted : (a b many m : ℕ) → m ≡ joined_of a b many → 0 < m → 0 < b
second-counted a b many m e h = (joined-both a b many (omega (arith, e, h))).two

pub counted-whole : (boxes : List Float) (links : List ℕ) (many n : ℕ) → many ≡ places_of boxes links → n ≡ nodes_from (node_at boxes links) many 62 0 → ltb 0 n ≡ is_trusted boxes links
unfolding is_trusted
counted-whole boxes links many n em en = rw (en, em)

-- ---- the node at place i
module _ (boxes : List Float) (links : List ℕ) (many i : ℕ) (h : i < many) where
  abbrev N : ℕ → Node
  N = node_at boxes links

  module _ (em : many ≡ places_of boxes links) where
    pub looked-box : i * 6 + 6 ≤ length boxes
    looked-box = (places-box boxes links i (omega (arith, em))).0

    pub looked-marks : i * 3 + 3 ≤ length links
    looked-marks = (places-box boxes links i (omega (arith, em))).1

  module _ (p : BBox) (ep : p ≡ box_of_row (row 6 i boxes)) (s : Bool) (es : s ≡ is_sound p) where
    is-sound : (k : Bool) → s ≡ k → is_sound (N i).bx ≡ k
    is-sound k e = sym (ap is_sound ep) ∙ sym es ∙ e

    pub looked-unsound : s ≡ false → (depth : ℕ) → 0 ≡ nodes_from N many depth i
    looked-unsound f depth = nodes-unsound N many depth i h (is-sound false f)

    module _ (t : s ≡ true) (n : Triple) (en : n ≡ triple_of (row 3 i links)) (lf : Bool) (el : lf ≡ (eqb n.c 0 || ltb 0 n.b)) where
      is_leaf_lem : (k : Bool) → lf ≡ k → is_leaf (N i) ≡ k
      is_leaf_lem k e = sym (ap (λ (m : Triple). eqb m.c 0 || ltb 0 m.b) en) ∙ sym el ∙ e

      pub looked-leaf : lf ≡ true → (depth : ℕ) → 1 ≡ nodes_from N many depth i
      looked-leaf l depth = nodes-leaf N many i h (is-sound true t) depth (is_leaf_lem true l)

      module _ (l : lf ≡ false) where
        pub looked-deep : (depth : ℕ) → depth ≡ 0 → 0 ≡ nodes_from N many depth i
        looked-deep depth e = nodes-deep N many i h (is-sound true t) (is_leaf_lem false l) depth e

        module _ (first : ℕ) (ef : first ≡ n.a) (depth d : ℕ) (ed : depth ≡ suc d) (a : ℕ) (ea : a ≡ nodes_from N many d first) where
          ff : first ≡ (N i).first
          ff = ef ∙ ap (λ (m : Triple). m.a) en

          split-is : (b : ℕ) → b ≡ nodes_from N many d (first + 1) → split_nodes N many i a b ≡ nodes_from N many depth i
          split-is b eb =
              ap (λ (x : ℕ). split_nodes N many i x b) (ea ∙ ap (λ (k : ℕ). nodes_from N many d k) ff)
              ∙ ap (λ (x : ℕ). split_nodes N many i (nodes_from N many d (N i).first) x) (eb ∙ ap (λ (k : ℕ). nodes_from N many d (k + 1)) ff)
              ∙ nodes-split N many i h (is-sound true t) (is_leaf_lem false l) depth d ed

          pub looked-none : a ≡ 0 → 0 ≡ nodes_from N many depth i
          looked-none z = split-none N many i a (nodes_from N many d (first + 1)) (joined-none a (nodes_from N many d (first + 1)) many z) ∙ split-is (nodes_from N many d (first + 1)) refl

          module _ (b : ℕ) (eb : b ≡ nodes_from N many d (first + 1)) (m : ℕ) (em : m ≡ joined_of a b many) where
            pub looked-many : m ≡ 0 → 0 ≡ nodes_from N many depth i
            looked-many z = split-none N many i a b (sym em ∙ z) ∙ split-is b eb

            module _ (q : BBox) (eq : q ≡ box_of_row (row 6 first boxes)) (x : Bool) (ex : x ≡ is_inside q p) where
              one_in : (k : Bool) → x ≡ k → is_inside (N (N i).first).bx (N i).bx ≡ k
              one_in k e = sym (ex ∙ ap (λ (c : BBox). is_inside c p) (eq ∙ ap (λ (j : ℕ). box_of_row (row 6 j boxes)) ff) ∙ ap (λ (c : BBox). is_inside (N (N i).first).bx c) ep) ∙ e

              pub looked-outside : x ≡ false → 0 ≡ nodes_from N many depth i
              looked-outside e = split-outside N many i a b (one_in false e) ∙ split-is b eb

              module _ (w : x ≡ true) (r : BBox) (er : r ≡ box_of_row (row 6 (first + 1) boxes)) (y : Bool) (ey : y ≡ is_inside r p) where
                two_in : (k : Bool) → y ≡ k → is_inside (N ((N i).first + 1)).bx (N i).bx ≡ k
                two_in k e = sym (ey ∙ ap (λ (c : BBox). is_inside c p) (er ∙ ap (λ (j : ℕ). box_of_row (row 6 (j + 1) boxes)) ff) ∙ ap (λ (c : BBox). is_inside (N ((N i).first + 1)).bx c) ep) ∙ e

                pub looked-outside-2 : y ≡ false → 0 ≡ nodes_from N many depth i
                looked-outside-2 e = split-outside-2 N many i a b (one_in true w) (two_in false e) ∙ split-is b eb

                pub looked-split : y ≡ true → m ≡ nodes_from N many depth i
                looked-split e = em ∙ split-inside N many i a b (one_in true w) (two_in true e) ∙ split-is b eb
