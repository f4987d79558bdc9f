-- On node slices that hold a tree's layout, and then zeros, the walk is the recursion on that tree. Assumes nothing.
use mathlib.Core.Path.{◌≡◌, refl, sym, ap, ◌∙◌}
use mathlib.Core.List.{List, [], ◌∷◌, ◌++◌, map}
use mathlib.Core.Bool.{Bool, true, false, cond, ◌||◌}
use Prim.Native.Nat.{ℕ, zero, suc, ◌+◌, ◌-◌, ◌*◌, ◌/◌, ◌≤◌, ◌<◌}
use native.Mathlib.Omega.{arith}
use native.Mathlib.Nat.{add-zero}
use lib.ListN.{length, take, drop, get_or, replicate, length-append, length-map, get_or-append}
use lib.Seq.{get_or-append-add, take-take, take-append_seam, take-add, drop-drop, drop-append_seam}
use lib.Dec.{ltb, eqb, lit<}
use borrow.Author.Tests.{lt-ltb, ne_eqb}
use lib.Ieee.{Float}
use Rattle.floats.specs.Arith.{zero_f}
use Rattle.geometry.specs.Boxes.{box_test, skips}
use Rattle.geometry.specs.declared.ray.Ray.{Ray}
use Rattle.rows.specs.Rows.{row, padded}
use Rattle.rows.specs.Points.{box_of_row, box_row}
use Rattle.rows.specs.Entries.{triple_of, triple_row}
use Rattle.rows.proofs.Rows.{get_d-row, length-flat, get_d-padded}
use Rattle.tree_nodes.specs.Trees.{Tree, leaf, split, leaves, below_root, root_of, below_of, layout}
use Rattle.tree_nodes.specs.Nodes.{node_at, marks_of_node, places_of, box_rows, mark_rows}
use Rattle.tree_nodes.specs.declared.Node.{Node}
use Rattle.tree_walk.specs.declared.Nearest.{Nearest}
use Rattle.tree_walk.specs.Standing.{Stands}
use Rattle.tree_walk.specs.Walks.{nothing, scan, backward, children_of, visit, walk_on, walk_rows}
use Rattle.tree_nodes.specs.Members.{Sensible}
use Rattle.tree_nodes.proofs.Nodes.{node_at_lem}
use Rattle.tree_walk.proofs.Rounds.{round-gone, round-skip, round-leaf}
use Rattle.tree_walk.proofs.Turns.{walk_none, walk-rounds}
use Rattle.tree_walk.proofs.Stacks.{visits, visits-leaf, visits-split, onward-same, onward-best}
use Rattle.geometry.specs.declared.hit.Hit.{Hit}
use Rattle.std.specs.Prelude.{Ok, Result}
use Rattle.refusals.specs.declared.Refusal.{Refusal}

-- ---- trees that stand among the nodes
-- the places are those of the trees
abbrev pub Stack : (ℕ → Node) → ℕ → List ℕ → List ℕ → List (Tree ℕ) → Type 0
Stack N places order [] [] = Unit {0}
Stack N places order [] (x ∷ ts) = ⊥
Stack N places order (i ∷ is) [] = ⊥
Stack N places order (i ∷ is) (x ∷ ts) = Stands N places order i x × Stack N places order is ts

module _ (N : ℕ → Node) (places : ℕ) (order : List ℕ) where
  stack-length : (is : List ℕ) (ts : List (Tree ℕ)) → Stack N places order is ts → length is ≡ length ts
  stack-length [] [] h = refl
  stack-length [] (x ∷ ts) h = absurd h
  stack-length (i ∷ is) [] h = absurd h
  stack-length (i ∷ is) (x ∷ ts) h = ap suc (stack-length is ts h.1)

-- how many nodes a stack of trees has
abbrev pub nodes_of : List (Tree ℕ) → ℕ
nodes_of [] = 0
nodes_of (x ∷ ts) = suc (below_root x) + nodes_of ts

module _ (hit : ℕ → Result Hit Refusal) (r : Ray) (N : ℕ → Node) (places : ℕ) (order : List ℕ) where
  down : (n first : ℕ) (is : List ℕ) (u v : Tree ℕ) (ts : List (Tree ℕ)) (best : Nearest) (back : Bool)
      → walk_on hit r N places order n ((first + 1) ∷ first ∷ is) best ≡ visits hit r (v ∷ u ∷ ts) best
      → walk_on hit r N places order n (first ∷ (first + 1) ∷ is) best ≡ visits hit r (u ∷ v ∷ ts) best
      → walk_on hit r N places order n ((children_of first back).near ∷ (children_of first back).far ∷ is) best ≡ cond back (visits hit r (v ∷ u ∷ ts) best) (visits hit r (u ∷ v ∷ ts) best)
  unfolding children_of
  down n first is u v ts best true h k = h
  down n first is u v ts best false h k = k

  pub walk-is-visits : (n : ℕ) (is : List ℕ) (ts : List (Tree ℕ)) (best : Nearest) → Stack N places order is ts → nodes_of ts ≤ n
      → walk_on hit r N places order n is best ≡ visits hit r ts best
  unfolding walk_on visits below_root
  walk-is-visits zero [] [] best h l = refl
  walk-is-visits zero [] (x ∷ ts) best h l = absurd h
  walk-is-visits zero (i ∷ is) [] best h l = absurd h
  walk-is-visits zero (i ∷ is) (x ∷ ts) best h l = absurd (omega arith)
  walk-is-visits (suc n) [] [] best h l = refl
  walk-is-visits (suc n) [] (x ∷ ts) best h l = absurd h
  walk-is-visits (suc n) (i ∷ is) [] best h l = absurd h
  walk-is-visits (suc n) (i ∷ is) (leaf b a ss ∷ ts) best h l =
      let H = h.0 in
      rw (H.there, H.box, H.kind, H.solids)
      (rw (walk-is-visits n is ts best h.1 (omega arith), onward-same (scan hit ss best) (walk_on hit r N places order n is) (visits hit r ts) (λ d. walk-is-visits n is ts d h.1 (omega arith)))
      (sym (visits-leaf hit r b a ss ts best)))
  walk-is-visits (suc n) (i ∷ is) (split b a u v ∷ ts) best h l =
      let H = h.0 in
      rw (H.there, H.box, H.kind, H.axis, stack-length N places order is ts h.1)
      (rw (
        walk-is-visits n is ts best h.1 (omega arith),
        down n (N i).first is u v ts best (backward r a)
            (walk-is-visits n (((N i).first + 1) ∷ (N i).first ∷ is) (v ∷ u ∷ ts) best (H.two, (H.one, h.1)) (omega arith))
            (walk-is-visits n ((N i).first ∷ ((N i).first + 1) ∷ is) (u ∷ v ∷ ts) best (H.one, (H.two, h.1)) (omega arith)),
      )
      (sym (visits-split hit r b a u v ts best)))

  pub walk-is-visit : (n i : ℕ) (x : Tree ℕ) (best : Nearest) → Stands N places order i x → below_root x < n → walk_on hit r N places order n (i ∷ []) best ≡ visit hit r x 0 best
  unfolding visits
  walk-is-visit n i x best h l = walk-is-visits n (i ∷ []) (x ∷ []) best (h, tt) (omega arith) ∙ onward-best (visit hit r x 0 best)

-- ---- a tree that is laid out stands there
kind-leaf : (c a : ℕ) → 0 < c → (eqb a 0 || ltb 0 c) ≡ true
kind-leaf c a h = rw (lt-ltb 0 c h) (go (eqb a 0))
  where
    go : (b : Bool) → (b || true) ≡ true
    go true = refl
    go false = refl

kind-split : (a : ℕ) → (a ≡ 0 → ⊥) → (eqb a 0 || ltb 0 0) ≡ false
kind-split a h = rw (ne_eqb a 0 h)

pub length-below : {S : Type 0} (free start : ℕ) (x : Tree S) → length (below_of free start x) ≡ below_root x
unfolding below_of below_root
length-below free start (leaf b a ss) = refl
length-below free start (split b a u v) =
    let l = length-below (free + 2) start u in
    let m = length-below (free + 2 + below_root u) (start + length (leaves u)) v in
    omega (arith, l, m, length-append (below_of (free + 2) start u) (below_of (free + 2 + below_root u) (start + length (leaves u)) v))

pub length-layout : {S : Type 0} (x : Tree S) → length (layout x) ≡ suc (below_root x)
unfolding layout
length-layout x = ap suc (length-below 1 0 x)

module _ (N : ℕ → Node) (places : ℕ) (order : List ℕ) where
  pub laid-stands : (x : Tree ℕ) (node free start : ℕ) → Sensible x → node < places → free + below_root x ≤ places → N node ≡ root_of free start x
      → ((k : ℕ) (d : Node) → k < below_root x → N (free + k) ≡ get_or (below_of free start x) k d) → take (length (leaves x)) (drop start order) ≡ leaves x → Stands N places order node x
  unfolding below_root root_of below_of leaves
  laid-stands (leaf b a ss) node free start good h f e below o = record {
    there = lt-ltb node places h;
    box = ap (λ (n : Node). n.bx) e;
    kind = rw e (kind-leaf (length ss) a good);
    solids = rw e o;
  }
  laid-stands (split b a u v) node free start good h f e below o =
      let bl : List Node = below_of (free + 2) start u in
      let m : ℕ = free + 2 + below_root u in
      let s : ℕ = start + length (leaves u) in
      let br : List Node = below_of m s v in
      let d₀ : Node = root_of free start u in
      let ll : length bl ≡ below_root u = length-below (free + 2) start u in
      let lo : length (leaves u ++ leaves v) ≡ length (leaves u) + length (leaves v) = length-append (leaves u) (leaves v) in
      let r₁ : N free ≡ root_of (free + 2) start u = rw add-zero at (below 0 d₀ (omega arith)) in
      let r₂ : N (free + 1) ≡ root_of m s v = below 1 d₀ (omega arith) in
      let one : Stands N places order free u = laid-stands u free (free + 2) start good.1 (omega arith) (omega arith) r₁
      (λ k d l. let q : free + 2 + k ≡ free + suc (suc k) = omega arith in
      rw q (below (suc (suc k)) d (omega arith) ∙ get_or-append bl br d k (omega arith)))
      (sym (take-take (length (leaves u)) (length (leaves u ++ leaves v)) (drop start order) (omega arith)) ∙ rw o (take-append_seam (leaves u) (leaves v))) in
      let two : Stands N places order (free + 1) v = laid-stands v (free + 1) m s good.2 (omega arith) (omega arith) r₂
      (λ k d l. let q : m + k ≡ free + suc (suc (below_root u + k)) = omega arith in
      let g : below_root u + k ≡ length bl + k = omega arith in
      rw q (below (suc (suc (below_root u + k))) d (omega arith) ∙ ap (λ (n : ℕ). get_or (bl ++ br) n d) g ∙ get_or-append-add bl br k d))
      (rest (leaves u) (leaves v) start o) in
      record { there = lt-ltb node places h; box = ap (λ (n : Node). n.bx) e; kind = rw e (kind-split a good.0); axis = ap (λ (n : Node). n.axis) e; one = rw e one; two = rw e two }
    where
      rest : (ls rs : List ℕ) (start : ℕ) → take (length (ls ++ rs)) (drop start order) ≡ ls ++ rs → take (length rs) (drop (start + length ls) order) ≡ rs
      rest ls rs start o =
          let o' : take (length ls) (drop start order) ++ take (length rs) (drop (length ls) (drop start order)) ≡ ls ++ rs = sym (take-add (length ls) (length rs) (drop start order)) ∙ rw length-append at o in
          let f : take (length ls) (drop start order) ≡ ls = sym (take-take (length ls) (length (ls ++ rs)) (drop start order) (rw length-append (omega arith))) ∙ rw o (take-append_seam ls rs) in
          let g : ls ++ take (length rs) (drop (length ls) (drop start order)) ≡ ls ++ rs = rw f at o' in
          rw (← (drop-drop (length ls) start order)) (sym (drop-append_seam ls (take (length rs) (drop (length ls) (drop start order)))) ∙ ap (drop (length ls)) g ∙ drop-append_seam ls rs)

-- ---- slices that begin with the rows of nodes
pub places-rows : (ns : List Node) (ys : List Float) (zs : List ℕ) → length ns ≤ places_of (box_rows ns ++ ys) (mark_rows ns ++ zs)
unfolding places_of
places-rows ns ys zs = go (ltb (length marks / 3) (length boxes / 6))
  where
    boxes : List Float
    boxes = box_rows ns ++ ys

    marks : List ℕ
    marks = mark_rows ns ++ zs

    lb : length ns * 6 ≤ length boxes
    lb = omega (arith, length-append (box_rows ns) ys, length-flat 6 box_of_row box_row (λ b. refl) (map (λ (n : Node). n.bx) ns), length-map ns (λ (n : Node). n.bx))

    lm : length ns * 3 ≤ length marks
    lm = omega (arith, length-append (mark_rows ns) zs, length-flat 3 triple_of triple_row (λ b. refl) (map marks_of_node ns), length-map ns marks_of_node)

    go : (b : Bool) → length ns ≤ cond b (length marks / 3) (length boxes / 6)
    go true = omega (arith, lm)
    go false = omega (arith, lb)

-- The walk of slices that hold a tree's layout, its solids in order, and then zeros, is the recursion on that tree.
pub walk_of-layout : (hit : ℕ → Result Hit Refusal) (r : Ray) (x : Tree ℕ) → Sensible x → (B M O : ℕ)
    → walk_rows hit r (padded zero_f B (box_rows (layout x))) (padded 0 M (mark_rows (layout x))) (padded 0 O (leaves x)) ≡ visit hit r x 0 nothing
unfolding walk_rows padded layout
walk_of-layout hit r x good B M O =
    walk-is-visit hit r N P order P 0 x nothing stands (omega (arith, room, length-layout x))
  where
    boxes : List Float
    boxes = box_rows (layout x) ++ replicate (B - length (box_rows (layout x))) zero_f

    marks : List ℕ
    marks = mark_rows (layout x) ++ replicate (M - length (mark_rows (layout x))) 0

    order : List ℕ
    order = leaves x ++ replicate (O - length (leaves x)) 0

    N : ℕ → Node
    N = node_at boxes marks

    P : ℕ
    P = places_of boxes marks

    room : length (layout x) ≤ P
    room = places-rows (layout x) (replicate (B - length (box_rows (layout x))) zero_f) (replicate (M - length (mark_rows (layout x))) 0)

    there : (i : ℕ) (d : Node) → i < length (layout x) → N i ≡ get_or (layout x) i d
    there = node_at_lem (layout x) (replicate (B - length (box_rows (layout x))) zero_f) (replicate (M - length (mark_rows (layout x))) 0)

    stands : Stands N P order 0 x
    stands =
        laid-stands N P order x 0 1 0 good (omega (arith, room, length-layout x)) (omega (arith, room, length-layout x))
        (there 0 (root_of 1 0 x) (omega (arith, length-layout x)))
        (λ k d l. let e : 1 + k ≡ suc k = omega arith in ap N e ∙ there (suc k) d (omega (arith, length-layout x)))
        (take-append_seam (leaves x) (replicate (O - length (leaves x)) 0))

-- ---- zeros throughout: a tree without solids
by-test {ℓ} : {Q : Type ℓ} (t : Bool) → (t ≡ true → Q) → (t ≡ false → Q) → Q
by-test true f g = f refl
by-test false f g = g refl

module _ (hit : ℕ → Result Hit Refusal) (r : Ray) (N : ℕ → Node) (places : ℕ) (order : List ℕ) (best : Nearest) where
  lone : (k : ℕ) → (N 0).count ≡ 0 → (N 0).axis ≡ 0 → walk_on hit r N places order k (0 ∷ []) best ≡ Ok best
  unfolding walk_on scan
  lone zero c a = refl
  lone (suc k) c a = by-test (ltb 0 places)
      (λ h. by-test (skips (box_test (N 0).bx r) best.hit.t)
      (λ s. round-skip (walk-rounds hit r N places order) k 0 [] best h s ∙ walk_none hit r N places order k best)
      (λ s. round-leaf (walk-rounds hit r N places order) k 0 [] best h s (rw a) ∙ rw c (walk_none hit r N places order k best)))
      (λ h. round-gone (walk-rounds hit r N places order) k 0 [] best h ∙ walk_none hit r N places order k best)

-- The walk of marks that are zeros throughout finds nothing.
pub walk_of-zeros : (hit : ℕ → Result Hit Refusal) (r : Ray) (boxes : List Float) (M : ℕ) (order : List ℕ) → walk_rows hit r boxes (padded 0 M []) order ≡ Ok nothing
unfolding walk_rows
walk_of-zeros hit r boxes M order =
    lone hit r (node_at boxes marks) (places_of boxes marks) order nothing (places_of boxes marks) (mark 1 (lit< tt)) (mark 2 (lit< tt))
  where
    marks : List ℕ
    marks = padded 0 M []

    mark : (j : ℕ) → j < 3 → get_or (row 3 0 marks) j 0 ≡ 0
    mark j h = get_d-row 3 0 j marks 0 h ∙ get_d-padded 0 M [] (0 * 3 + j)
