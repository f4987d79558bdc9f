-- The turns of a glance, in the order in which the code makes them. Assumes nothing.
use mathlib.Core.Path.{◌≡◌, refl, sym, ap, subst, ◌∙◌}
use mathlib.Core.List.{List}
use mathlib.Core.Bool.{Bool, true, false, not, ◌||◌}
use Prim.Native.Nat.{ℕ, ◌+◌, ◌-◌, ◌*◌, ◌≤◌, ◌<◌}
use lib.ListN.{length, get_or, set, take, drop}
use lib.Dec.{T, ltb, eqb}
use lib.Ieee.{Float, lt, le}
use borrow.Author.Tests.{ltb-true}
use Rattle.floats.specs.Arith.{INF}
use Rattle.geometry.specs.Boxes.{box_test, passes}
use Rattle.geometry.specs.Limits.{Sound, Usable}
use Rattle.geometry.specs.declared.ray.Ray.{Ray}
use Rattle.geometry.specs.declared.hit.Hit.{Hit}
use Rattle.geometry.specs.declared.bounding_box.BBox.{BBox}
use Rattle.rows.specs.Rows.{row}
use Rattle.rows.specs.Points.{box_of_row}
use Rattle.rows.specs.Entries.{triple_of}
use Rattle.rows.specs.declared.Triple.{Triple}
use Rattle.lists.specs.Lists.{Member}
use Rattle.tree_nodes.specs.Trees.{Tree, leaf, split}
use Rattle.tree_nodes.specs.Nodes.{node_at, places_of, is_leaf}
use Rattle.tree_nodes.specs.declared.Node.{Node}
use Rattle.tree_walk.specs.declared.Children.{Children}
use Rattle.tree_walk.specs.Walks.{children_of, leaf_entries, walk_rows}
use Rattle.tree_walk.specs.Standing.{Stands}
use Rattle.tree_walk.proofs.Rounds.{places-box}
use Rattle.tree_trust.specs.Trust.{whole_tree, tree_box, Trusted}
use Rattle.tree_glance.specs.Glances.{LastCover, AllAnswer, Shorter, Tells, ended_of}
use Rattle.tree_glance.proofs.Leaves.{Answering}
use Rattle.tree_glance.proofs.Glancing.{Hides, Done, failed-done, Part, Glancing, Fork, fork, tree-sound, there, leaf-answers, leaf-clear, leaf-in, glancing-start, glancing-end, answers-end, glancing-back, glancing-hidden, go-near, go-far, go-neither, go_both}
use Rattle.tree_glance.proofs.Endings.{whole_tells, hides-tells, clear-tells, all-answering, kept-cover}
use Rattle.tree_sight.specs.declared.Sight.TheVariants.{Hidden, Visible}
use Rattle.std.specs.Prelude.{Ok, Result, Some}
use Rattle.refusals.specs.declared.Refusal.{Refusal}

at_same : {a b : Hit} → ◌≡◌ {A = Result Hit Refusal} (Ok a) (Ok b) → a ≡ b
at_same e = cc

module _ (hit : ℕ → Result Hit Refusal) (r : Ray) (distance : Float) (boxes : List Float) (links order : List ℕ) where
  abbrev N : ℕ → Node
  N = node_at boxes links

  abbrev P : ℕ
  P = places_of boxes links

  abbrev tree : Tree ℕ
  tree = whole_tree boxes links order

  -- where the loop is: i is looked at, and so many places wait
  abbrev pub At-place : ℕ → List ℕ → ℕ → Bool → Type 0
  At-place = Glancing hit r distance N P order tree

  -- ---- a tree that stands at a place
  stands-box : (p : ℕ) (x : Tree ℕ) → Stands N P order p x → box_of_row (row 6 p boxes) ≡ tree_box x
  stands-box p (leaf c a is) S = S.box
  stands-box p (split c a u v) S = S.box

  stands-there : (p : ℕ) (x : Tree ℕ) → Stands N P order p x → p < P
  stands-there p (leaf c a is) S = ltb-true p P S.there
  stands-there p (split c a u v) S = ltb-true p P S.there

  -- what its box is asked for
  asked : (p : ℕ) (x : Tree ℕ) → Stands N P order p x → Part hit r distance N P order tree x → (p * 6 + 6 ≤ length boxes) × Sound (box_of_row (row 6 p boxes))
  asked p x S Q = ((places-box boxes links p (stands-there p x S)).0, subst Sound (sym (stands-box p x S)) (tree-sound x Q.nests))

  missed : (p : ℕ) (x : Tree ℕ) → Stands N P order p x → (hid : Bool) → T (not (passes (box_test (box_of_row (row 6 p boxes)) r))) → Done hit r distance hid x
  missed p x S hid h = failed-done hit r distance hid x (subst (λ (b : BBox). T (not (passes (box_test b r)))) (stands-box p x S) h)

  module _ (t : Trusted boxes links order) where
    -- ---- the root
    pub root-asked : (0 * 6 + 6 ≤ length boxes) × Sound (box_of_row (row 6 0 boxes))
    root-asked = ((places-box boxes links 0 (stands-there 0 tree t.stands)).0, subst Sound (sym (stands-box 0 tree t.stands)) (tree-sound tree t.nests))

    pub root-missed : T (le distance INF) → T (not (passes (box_test (box_of_row (row 6 0 boxes)) r))) → Tells (Some Visible) (walk_rows hit r boxes links order) distance
    root-missed l h =
        let d = missed 0 tree t.stands false h in
        clear-tells hit r distance boxes links order t l d.answers (d.clear refl)

    pub look-start : (stack : List ℕ) → length stack ≡ 64 → At-place 0 stack 0 false
    look-start stack l = glancing-start hit r distance N P order tree stack l t.stands t.nests

  module _ (i : ℕ) (stack : List ℕ) (sp : ℕ) (hid : Bool) (g : At-place i stack sp hid) where
    pub place-fits : i * 6 + 6 ≤ length boxes
    place-fits = (places-box boxes links i (there hit r distance N P order tree i stack sp hid g)).0

    pub place-links : i * 3 + 3 ≤ length links
    place-links = (places-box boxes links i (there hit r distance N P order tree i stack sp hid g)).1

    module _ (n : Triple) (en : n ≡ triple_of (row 3 i links)) (first : ℕ) (ef : first ≡ n.a) (lf : Bool) (el : lf ≡ (eqb n.c 0 || ltb 0 n.b)) where
      leaf-is : (k : Bool) → lf ≡ k → is_leaf (N i) ≡ k
      leaf-is k e = sym (ap (λ (m : Triple). eqb m.c 0 || ltb 0 m.b) en) ∙ sym el ∙ e

      -- ---- a leaf
      module _ (l : lf ≡ true) (count : ℕ) (ec : count ≡ n.b) where
        entries : take count (drop first order) ≡ leaf_entries order (N i)
        entries = rw (ec, ef, en)

        pub leaf-done : ((s : ℕ) → Member s (take count (drop first order)) → (h : Hit) × (hit s ≡ Ok h) × T (not (lt h.t distance))) → Done hit r distance hid g.top
        leaf-done F =
            let f : (s : ℕ) → Member s (leaf_entries order (N i)) → (h : Hit) × (hit s ≡ Ok h) × T (not (lt h.t distance)) = subst (λ (is : List ℕ). (s : ℕ) → Member s is → (h : Hit) × (hit s ≡ Ok h) × T (not (lt h.t distance))) entries F in
            record {
              answers = leaf-answers hit r distance N P order tree i stack sp hid g (leaf-is true l) (λ s m. ((f s m).0, (f s m).1));
              clear = λ e. leaf-clear hit r distance N P order tree i stack sp hid g (leaf-is true l) (λ s m h q. far s h q (f s m));
            }
          where
            far : (s : ℕ) (h : Hit) → hit s ≡ Ok h → (k : Hit) × (hit s ≡ Ok k) × T (not (lt k.t distance)) → T (not (lt h.t distance))
            far s h q z = let e : z.0 ≡ h = at_same (sym z.1 ∙ q) in subst (λ (k : Hit). T (not (lt k.t distance))) e z.2

        module _ (calm : Bool) (cover : List ℕ) (S : Shorter hit r distance calm boxes i (take count (drop first order)) cover) where
          in_leaf : Member (get_or cover 1 0) (leaf_entries order (N i))
          in_leaf = subst (Member (get_or cover 1 0)) entries S.among

          pub leaf-hides : Hides hit r distance tree
          leaf-hides = record {
            box = (N i).bx;
            entry = get_or cover 1 0;
            own = S.own;
            in_tree = leaf-in hit r distance N P order tree i stack sp hid g (leaf-is true l) (get_or cover 1 0) in_leaf;
            passed = S.entered.passed;
            before = S.entered.before;
            returned = S.returned;
            short = S.short;
          }

          pub leaf-kept : length stack ≡ 64 → LastCover boxes links order cover stack
          leaf-kept w =
              kept-cover boxes links order cover stack S.wide w (subst (λ (p : ℕ). p * 6 + 6 ≤ length boxes) (sym S.place) place-fits)
              (rw S.place (leaf-in hit r distance N P order tree i stack sp hid g (leaf-is true l) (get_or cover 1 0) in_leaf))

          pub leaf-answered : calm ≡ false → Answering hit r g.top
          leaf-answered e = leaf-answers hit r distance N P order tree i stack sp hid g (leaf-is true l) (subst (AllAnswer hit) entries (S.answered e))

      -- ---- a split
      module _ (l : lf ≡ false) (back : Bool) (c : Children) (ec : c ≡ children_of first back) where
        pub forked : Fork hit r distance N P order tree i stack sp hid g c
        forked = fork hit r distance N P order tree i stack sp hid g (leaf-is false l) back c (ec ∙ rw (ef, en))

        pub near-asked : (c.near * 6 + 6 ≤ length boxes) × Sound (box_of_row (row 6 c.near boxes))
        near-asked = asked c.near forked.near forked.near-stands forked.near-part

        pub far-asked : (c.far * 6 + 6 ≤ length boxes) × Sound (box_of_row (row 6 c.far boxes))
        far-asked = asked c.far forked.far forked.far-stands forked.far-part

        near-done : T (not (passes (box_test (box_of_row (row 6 c.near boxes)) r))) → Done hit r distance hid forked.near
        near-done = missed c.near forked.near forked.near-stands hid

        far-done : T (not (passes (box_test (box_of_row (row 6 c.far boxes)) r))) → Done hit r distance hid forked.far
        far-done = missed c.far forked.far forked.far-stands hid

        module _ (p : T (not (passes (box_test (box_of_row (row 6 c.near boxes)) r)))) where
          pub to-far : At-place c.far stack sp hid
          to-far = go-far hit r distance N P order tree i stack sp hid g c forked (near-done p)

          pub to-neither : T (not (passes (box_test (box_of_row (row 6 c.far boxes)) r))) → Done hit r distance hid g.top
          to-neither q = go-neither hit r distance N P order tree i stack sp hid g c forked (near-done p) (far-done q)

        pub to-near : T (not (passes (box_test (box_of_row (row 6 c.far boxes)) r))) → At-place c.near stack sp hid
        to-near q = go-near hit r distance N P order tree i stack sp hid g c forked (far-done q)

        pub to_both : sp ≤ 63 → At-place c.near (set stack sp c.far) (sp + 1) hid
        to_both k = go_both hit r distance N P order tree i stack sp hid g c forked k

    -- ---- on from there
    pub look-back : (sp ≡ 0 → ⊥) → Done hit r distance hid g.top → At-place (get_or stack (sp - 1) 0) stack (sp - 1) hid
    look-back = glancing-back hit r distance N P order tree i stack sp hid g

    pub look-hidden : (sp ≡ 0 → ⊥) → Answering hit r g.top → Hides hit r distance tree → At-place (get_or stack (sp - 1) 0) stack (sp - 1) true
    look-hidden = glancing-hidden hit r distance N P order tree i stack sp hid g

    module _ (t : Trusted boxes links order) (u : Usable r) (l : T (le distance INF)) where
      pub look-end : sp ≡ 0 → Done hit r distance hid g.top → Tells (ended_of hid) (walk_rows hit r boxes links order) distance
      look-end e d = whole_tells hit r distance boxes links order t l u hid (glancing-end hit r distance N P order tree i stack sp hid g e d)

      -- hidden by the last leaf: nothing waits
      pub look-end-hidden : sp ≡ 0 → Answering hit r g.top → Hides hit r distance tree → Tells (Some Hidden) (walk_rows hit r boxes links order) distance
      look-end-hidden e A H = hides-tells hit r distance boxes links order t u (answers-end hit r distance N P order tree i stack sp hid g e A) H

      -- every solid answers
      pub look-calm : ((j : ℕ) → (h : Hit) × (hit j ≡ Ok h)) → Hides hit r distance tree → Tells (Some Hidden) (walk_rows hit r boxes links order) distance
      look-calm A H = hides-tells hit r distance boxes links order t u (all-answering hit r A tree) H
