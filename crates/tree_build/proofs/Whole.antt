-- From the laid_out nodes to whole slices: the nodes and then zeros. Assumes nothing.
use mathlib.Core.Path.{◌≡◌, refl, sym, ap, ap₂, ◌∙◌}
use mathlib.Core.Bool.{true, false}
use mathlib.Core.List.{List, [], ◌∷◌, ◌++◌, map}
use Prim.Native.Nat.{ℕ, zero, suc, ◌+◌, ◌-◌, ◌*◌, ◌≤◌, ◌<◌}
use native.Mathlib.Nat.{not-suc-le-zero}
use native.Mathlib.Omega.{arith}
use lib.ListN.{length, take, drop, get_or, replicate, length-map, length-drop, length-replicate, length-append, get_or-map, get_or-eq_default}
use lib.Seq.{take-append-le, drop-append-le, take_at, drop_at, length-take-le}
use lib.Dec.{leb, ltb}
use lib.Ieee.{Float}
use borrow.Author.Tests.{ltb-true, ltb-false, le-leb, lt-leb}
use borrow.Table.Steps.{cases}
use Rattle.floats.specs.Arith.{zero_f}
use Rattle.geometry.specs.Vectors.{vec}
use Rattle.geometry.specs.Boxes.{box_of}
use Rattle.geometry.specs.declared.bounding_box.BBox.{BBox}
use Rattle.rows.specs.Rows.{row, flat, padded}
use Rattle.rows.specs.Points.{box_of_row, box_row}
use Rattle.rows.specs.Entries.{triple_of, triple_row}
use Rattle.rows.proofs.Rows.{padded-rows}
use Rattle.rows.proofs.Backs.{box-back, triple-back}
use Rattle.tree_nodes.specs.Trees.{Tree, below_root, below_of, leaves, layout}
use Rattle.tree_nodes.specs.Nodes.{node_of, node_at, marks_of_node, places_of, box_rows, mark_rows}
use Rattle.tree_nodes.specs.declared.Node.{Node}
use Rattle.tree_nodes.proofs.Nodes.{length-below, length-layout, places-fit}
use Rattle.lists.specs.Lists.{Each}
use Rattle.tree_split.specs.Build.{tree_for, nodes_for, order_for}
use Rattle.tree_build.specs.Slices.{Laid, BuiltAs, LaidOut, room_for, Stored}
use Rattle.std.specs.Prelude.{None, Option, Some}

-- ---- parts of zeros
module _ {A : Type 0} (z : A) where
  drop-replicate : (m n : ℕ) → drop m (replicate n z) ≡ replicate (n - m) z
  drop-replicate zero n = ap (λ (j : ℕ). replicate j z) (let e : n ≡ n - 0 = omega arith in e)
  drop-replicate (suc m) zero = ap (λ (j : ℕ). replicate j z) (let e : 0 ≡ 0 - suc m = omega arith in e)
  drop-replicate (suc m) (suc n) = drop-replicate m n ∙ ap (λ (j : ℕ). replicate j z) (let e : n - m ≡ suc n - suc m = omega arith in e)

  take-replicate : (m n : ℕ) → m ≤ n → take m (replicate n z) ≡ replicate m z
  take-replicate zero n h = refl
  take-replicate (suc m) zero h = absurd (not-suc-le-zero h)
  take-replicate (suc m) (suc n) h = ap (λ (l : List A). z ∷ l) (take-replicate m n (omega arith))

  row-zeros : (k i n : ℕ) → i * k + k ≤ n → row k i (replicate n z) ≡ replicate k z
  row-zeros k i n h = rw (drop-replicate (i * k) n) (take-replicate k (n - i * k) (omega arith))

  pub cleared : (l l' : List A) (m : ℕ) → l' ≡ take 0 l ++ replicate (length l - 0) z → length l ≡ m → l' ≡ replicate m z
  cleared l l' m e h = e ∙ ap (λ (j : ℕ). replicate j z) (let q : length l - 0 ≡ m = omega arith in q)

  padded-none : (m : ℕ) (l : List A) → l ≡ replicate m z → l ≡ padded z m []
  unfolding padded
  padded-none m l e = e ∙ ap (λ (j : ℕ). replicate j z) (let q : m ≡ m - 0 = omega arith in q)

row-append : {A : Type 0} (k i : ℕ) (xs ys : List A) → i * k + k ≤ length xs → row k i (xs ++ ys) ≡ row k i xs
row-append k i xs ys h = rw (drop-append-le (i * k) xs ys (omega arith)) (take-append-le k (drop (i * k) xs) ys (rw length-drop (omega arith)))

-- rows that are those of bs and then zero rows, with zeros after them
module _ {A B : Type 0} (k : ℕ) (f : List A → B) (g : B → List A) (wide : (b : B) → length (g b) ≡ k) (back : (r : List A) → length r ≡ k → g (f r) ≡ r) (zb : B) (z : A) (zeros : g zb ≡ replicate k z) where
  whole-rows : (n : ℕ) (xs rest : List A) (bs : List B) (m : ℕ) → length xs ≡ n * k → length bs ≤ n → n * k ≤ m → rest ≡ replicate (m - n * k) z
      → ((i : ℕ) → i < n → i * k + k ≤ n * k) → ((i : ℕ) → i < n → f (row k i xs) ≡ get_or bs i zb) → xs ++ rest ≡ padded z m (flat g bs)
  whole-rows n xs rest bs m l few fit e inside each =
      let lr : length rest ≡ m - n * k = ap length e ∙ length-replicate (m - n * k) z in
      let all : length (xs ++ rest) ≡ m = length-append xs rest ∙ omega (arith, l, lr) in
      let d : drop (n * k) (xs ++ rest) ≡ replicate (length (xs ++ rest) - n * k) z = drop_at xs rest (n * k) l ∙ e ∙ ap (λ (j : ℕ). replicate (j - n * k) z) (sym all) in
      padded-rows k f g wide back zb z zeros n (xs ++ rest) bs (omega (arith, all)) few
      (λ i h. ap f (row-append k i xs rest (omega (arith, l, inside i h))) ∙ each i h) d
      ∙ ap (λ (j : ℕ). padded z j (flat g bs)) all

-- ---- the tree in slices that were zero
abbrev zero_node : Node
zero_node = record { bx = box_of (vec zero_f zero_f zero_f) (vec zero_f zero_f zero_f); first = 0; count = 0; axis = 0 }

module _ (places : ℕ) (nodeBoxes₀ nodeBoxes : List Float) (marks₀ marks : List ℕ) (hb : places * 6 ≤ length nodeBoxes₀) (hm : places * 3 ≤ length marks₀)
    (zb : nodeBoxes₀ ≡ replicate (length nodeBoxes₀) zero_f) (zm : marks₀ ≡ replicate (length marks₀) 0)
    (kb : length nodeBoxes ≡ length (take (places * 6) nodeBoxes₀)) (km : length marks ≡ length (take (places * 3) marks₀)) (order : List ℕ) (t : Tree ℕ) where
  abbrev N : ℕ → Node
  N i = node_at (take (places * 6) nodeBoxes₀) (take (places * 3) marks₀) i

  zero_row : {A : Type 0} (z : A) (k i : ℕ) (xs : List A) → places * k ≤ length xs → xs ≡ replicate (length xs) z → i * k + k ≤ places * k → row k i (take (places * k) xs) ≡ replicate k z
  zero_row z k i xs h e l = ap (λ (ys : List _). row k i (take (places * k) ys)) e ∙ rw (take-replicate z (places * k) (length xs) h) (row-zeros z k i (places * k) l)

  zeros : (i : ℕ) → i < places → N i ≡ zero_node
  zeros i h = ap₂ (λ (x : List Float) (y : List ℕ). node_of x (triple_of y)) (zero_row zero_f 6 i nodeBoxes₀ hb zb (omega arith)) (zero_row 0 3 i marks₀ hm zm (omega arith))

  layout-at : Laid N (node_at nodeBoxes marks) places 0 1 0 t → (i : ℕ) → i < places → node_at nodeBoxes marks i ≡ get_or (layout t) i zero_node
  unfolding layout
  layout-at L zero h = L.root
  layout-at L (suc i) h =
      let lb : length (below_of 1 0 t) ≡ below_root t = length-below 1 0 t in
      let e : 1 + i ≡ suc i = omega arith in
      cases (ltb i (below_root t))
      (λ q. ap (node_at nodeBoxes marks) (sym e) ∙ L.below i zero_node (ltb-true i (below_root t) q))
      (λ q. let u : below_root t ≤ i = ltb-false i (below_root t) q in
      L.after (suc i) (omega arith) h ∙ zeros (suc i) h ∙ sym (get_or-eq_default (below_of 1 0 t) zero_node {n = i} (omega arith)))

  module _ (fits : 1 + below_root t ≤ places) (each : (i : ℕ) → i < places → node_at nodeBoxes marks i ≡ get_or (layout t) i zero_node) where
    few : {B : Type 0} (f : Node → B) → length (map f (layout t)) ≤ places
    few f = rw (length-map (layout t) f, length-layout t) fits

    whole-boxes : nodeBoxes ++ drop (places * 6) nodeBoxes₀ ≡ padded zero_f (length nodeBoxes₀) (box_rows (layout t))
    whole-boxes = whole-rows 6 box_of_row box_row (λ b. refl) box-back zero_node.bx zero_f refl places nodeBoxes (drop (places * 6) nodeBoxes₀) (map (λ (n : Node). n.bx) (layout t)) (length nodeBoxes₀)
        (kb ∙ length-take-le (places * 6) nodeBoxes₀ hb) (few (λ (n : Node). n.bx)) hb (ap (drop (places * 6)) zb ∙ drop-replicate zero_f (places * 6) (length nodeBoxes₀)) (λ i h. omega arith)
        (λ i h. ap (λ (n : Node). n.bx) (each i h) ∙ sym (get_or-map (λ (n : Node). n.bx) (layout t) i zero_node))

    whole-marks : marks ++ drop (places * 3) marks₀ ≡ padded 0 (length marks₀) (mark_rows (layout t))
    whole-marks = whole-rows 3 triple_of triple_row (λ b. refl) triple-back (marks_of_node zero_node) 0 refl places marks (drop (places * 3) marks₀) (map marks_of_node (layout t)) (length marks₀)
        (km ∙ length-take-le (places * 3) marks₀ hm) (few marks_of_node) hm (ap (drop (places * 3)) zm ∙ drop-replicate 0 (places * 3) (length marks₀)) (λ i h. omega arith)
        (λ i h. ap marks_of_node (each i h) ∙ sym (get_or-map marks_of_node (layout t) i zero_node))

  pub laid_out : (r : Option ℕ) → BuiltAs r N (node_at nodeBoxes marks) places 0 1 0 order t
      → LaidOut r (nodeBoxes ++ drop (places * 6) nodeBoxes₀) (marks ++ drop (places * 3) marks₀) order places (length nodeBoxes₀) (length marks₀) t
  laid_out None b = b
  laid_out (Some f) b =
      let each = layout-at b.1 in
      (b.0, omega (arith, b.0, b.1.fits), whole-boxes b.1.fits each, whole-marks b.1.fits each, b.2)

-- ---- the ways out of the whole build
-- the slices at first, and cleared: the first n of the order stay
pub record Cleared (nodeBoxes₀ nodeBoxes₁ : List Float) (marks₀ marks₁ order₀ order₁ : List ℕ) (n places : ℕ) : Type 0 where
  pub within : n ≤ length order₀
  pub some : n ≡ 0 → ⊥
  pub count : places ≡ places_of nodeBoxes₀ marks₀
  pub node-boxes : nodeBoxes₁ ≡ replicate (length nodeBoxes₀) zero_f
  pub node-marks : marks₁ ≡ replicate (length marks₀) 0
  pub order : order₁ ≡ take n order₀ ++ replicate (length order₀ - n) 0

module _ (box : ℕ → BBox) where
  pub nodes-some : (ids : List ℕ) → 0 < length ids → nodes_for box ids ≡ layout (tree_for box ids)
  unfolding nodes_for
  nodes-some [] h = absurd (not-suc-le-zero h)
  nodes-some (i ∷ ids) h = refl

  pub order-some : (ids : List ℕ) → 0 < length ids → order_for box ids ≡ leaves (tree_for box ids)
  unfolding order_for
  order-some [] h = absurd (not-suc-le-zero h)
  order-some (i ∷ ids) h = refl

  pub count-some : (ids : List ℕ) → 0 < length ids → length (nodes_for box ids) ≡ 1 + below_root (tree_for box ids)
  count-some ids h = ap length (nodes-some ids h) ∙ length-layout (tree_for box ids)

  module _ (ids : List ℕ) (places B M O : ℕ) (nodeBoxes : List Float) (marks order : List ℕ) where
    pub stored-none : ids ≡ [] → nodeBoxes ≡ replicate B zero_f → marks ≡ replicate M 0 → order ≡ replicate O 0 → Stored box ids places B M O (Some 0) nodeBoxes marks order
    unfolding nodes_for order_for flat
    stored-none e b m o =
        let l : leb 0 places ≡ true = le-leb 0 places (omega arith) in
        rw e (record { answer = rw l; rows = rw l (padded-none zero_f B nodeBoxes b); triples = rw l (padded-none 0 M marks m); solids = rw l (padded-none 0 O order o) })

    module _ (h : 0 < length ids) where
      stored-full : places < 1 + below_root (tree_for box ids) → nodeBoxes ≡ replicate B zero_f → marks ≡ replicate M 0 → order ≡ replicate O 0 → Stored box ids places B M O None nodeBoxes marks order
      unfolding flat
      stored-full f b m o =
          let l : room_for box ids places ≡ false = lt-leb (length (nodes_for box ids)) places (omega (arith, count-some ids h)) in
          record { answer = rw l; rows = rw l (padded-none zero_f B nodeBoxes b); triples = rw l (padded-none 0 M marks m); solids = rw l (padded-none 0 O order o) }

      stored-done : (f : ℕ) → f ≡ 1 + below_root (tree_for box ids) → f ≤ places → nodeBoxes ≡ padded zero_f B (box_rows (layout (tree_for box ids))) → marks ≡ padded 0 M (mark_rows (layout (tree_for box ids)))
          → order ≡ padded 0 O (leaves (tree_for box ids)) → Stored box ids places B M O (Some f) nodeBoxes marks order
      stored-done f e g b m o =
          let l : room_for box ids places ≡ true = le-leb (length (nodes_for box ids)) places (omega (arith, count-some ids h)) in
          record { answer = rw l (ap Some (e ∙ sym (count-some ids h))); rows = rw (l, nodes-some ids h) b; triples = rw (l, nodes-some ids h) m; solids = rw (l, order-some ids h) o }

  -- ---- around the call that lays the tree out
  module _ (nodeBoxes₀ nodeBoxes₁ : List Float) (marks₀ marks₁ order₀ order₁ : List ℕ) (n places : ℕ) (C : Cleared nodeBoxes₀ nodeBoxes₁ marks₀ marks₁ order₀ order₁ n places) where
    front : take n order₁ ≡ take n order₀
    front = rw C.order (take_at (take n order₀) (replicate (length order₀ - n) 0) n (length-take-le n order₀ C.within))

    front_length : length (take n order₀) ≡ n
    front_length = length-take-le n order₀ C.within

    length-boxes : length nodeBoxes₁ ≡ length nodeBoxes₀
    length-boxes = ap length C.node-boxes ∙ length-replicate (length nodeBoxes₀) zero_f

    length-marks : length marks₁ ≡ length marks₀
    length-marks = ap length C.node-marks ∙ length-replicate (length marks₀) 0

    pub ready : (P : ℕ → Type 0) → (places ≡ 0 → ⊥) → n ≤ 1024 → Each P (take n order₀)
        → Each P (take n order₁) × (0 < length (take n order₁)) × (length (take n order₁) ≤ 1024) × (0 < places) × (places * 6 ≤ length nodeBoxes₁) × (places * 3 ≤ length marks₁)
        × (nodeBoxes₁ ≡ replicate (length nodeBoxes₁) zero_f) × (marks₁ ≡ replicate (length marks₁) 0)
    ready P z h e =
        let p = places-fit nodeBoxes₀ marks₀ in
        let fl = front_length in (
          rw front e,
          rw front (omega (arith, C.some)),
          rw front (omega arith),
          omega arith,
          omega (arith, p.0, length-boxes, C.count),
          omega (arith, p.1, length-marks, C.count),
          C.node-boxes ∙ ap (λ (j : ℕ). replicate j zero_f) (sym length-boxes),
          C.node-marks ∙ ap (λ (j : ℕ). replicate j 0) (sym length-marks),
        )

    pub done : (f : ℕ) (nodeBoxes₂ : List Float) (marks₂ o₂ : List ℕ) → LaidOut (Some f) nodeBoxes₂ marks₂ o₂ places (length nodeBoxes₁) (length marks₁) (tree_for box (take n order₁)) → length o₂ ≡ length (take n order₁)
        → Stored box (take n order₀) (places_of nodeBoxes₀ marks₀) (length nodeBoxes₀) (length marks₀) (length order₀) (Some f) nodeBoxes₂ marks₂ (o₂ ++ drop n order₁)
    unfolding padded
    done f nodeBoxes₂ marks₂ o₂ G k =
        let fl = front_length in
        let T : Tree ℕ = tree_for box (take n order₀) in
        let G' : LaidOut (Some f) nodeBoxes₂ marks₂ o₂ places (length nodeBoxes₁) (length marks₁) T = rw front at G in
        let ll : length (leaves T) ≡ n = sym (ap length G'.4) ∙ k ∙ ap length front ∙ fl in
        let d : drop n order₁ ≡ replicate (length order₀ - n) 0 = rw C.order (drop_at (take n order₀) (replicate (length order₀ - n) 0) n fl) in
        stored-done (take n order₀) (places_of nodeBoxes₀ marks₀) (length nodeBoxes₀) (length marks₀) (length order₀) nodeBoxes₂ marks₂ (o₂ ++ drop n order₁) (omega (arith, fl, C.some)) f G'.0 (omega (arith, G'.1, C.count))
        (G'.2 ∙ ap (λ (j : ℕ). padded zero_f j (box_rows (layout T))) length-boxes) (G'.3 ∙ ap (λ (j : ℕ). padded 0 j (mark_rows (layout T))) length-marks)
        (rw (d, G'.4, ll))

    pub full : (nodeBoxes : List Float) (marks order : List ℕ) → places < 1 + below_root (tree_for box (take n order₁)) → nodeBoxes ≡ replicate (length nodeBoxes₀) zero_f → marks ≡ replicate (length marks₀) 0 → order ≡ replicate (length order₀) 0
        → Stored box (take n order₀) (places_of nodeBoxes₀ marks₀) (length nodeBoxes₀) (length marks₀) (length order₀) None nodeBoxes marks order
    full nodeBoxes marks order g b m o =
        let fl = front_length in
        let g' : places < 1 + below_root (tree_for box (take n order₀)) = rw front at g in
        stored-full (take n order₀) (places_of nodeBoxes₀ marks₀) (length nodeBoxes₀) (length marks₀) (length order₀) nodeBoxes marks order (omega (arith, fl, C.some)) (omega (arith, g', C.count)) b m o
