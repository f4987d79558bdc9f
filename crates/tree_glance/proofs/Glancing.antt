-- The loop of a glance: the places that are still to be looked at, and what the rest of the tree comes to. Assumes nothing.
use mathlib.Core.Path.{◌≡◌, sym, ap, subst, ◌∙◌}
use mathlib.Core.Logic.{inl, inr}
use mathlib.Core.List.{List, [], ◌∷◌}
use mathlib.Core.Bool.{Bool, true, false, not}
use Prim.Native.Nat.{ℕ, suc, ◌+◌, ◌-◌, ◌≤◌, ◌<◌}
use native.Mathlib.Omega.{arith}
use lib.ListN.{length, get_or, set, length-set}
use lib.Seq.{get_or-set_same}
use lib.Dec.{T}
use lib.Ieee.{Float, lt}
use borrow.Author.Tests.{ltb-true}
use Rattle.floats.proofs.Tests.{clash}
use Rattle.geometry.specs.Boxes.{box_test, passes}
use Rattle.geometry.specs.Limits.{Sound}
use Rattle.geometry.specs.declared.ray.Ray.{Ray}
use Rattle.geometry.specs.declared.hit.Hit.{Hit}
use Rattle.geometry.specs.declared.bounding_box.BBox.{BBox}
use Rattle.lists.specs.Lists.{Member, Each}
use Rattle.tree_nodes.specs.Trees.{Tree, leaf, split}
use Rattle.tree_nodes.specs.Nodes.{is_leaf}
use Rattle.tree_nodes.specs.declared.Node.{Node}
use Rattle.tree_walk.specs.declared.Children.{Children}
use Rattle.tree_walk.specs.Walks.{children_of, leaf_entries}
use Rattle.tree_walk.specs.Standing.{Stands}
use Rattle.tree_walk.proofs.Rounds.{piled, piled-set, piled-top}
use Rattle.tree_walk.proofs.Layouts.{Stack}
use Rattle.tree_trust.specs.Trust.{tree_box, Nests}
use Rattle.tree_glance.specs.Glances.{LeafIn}
use Rattle.tree_glance.proofs.Leaves.{Answering, Clear}
use Rattle.std.specs.Prelude.{Ok, Result}
use Rattle.refusals.specs.declared.Refusal.{Refusal}

true≢false : {A : Type 0} → true ≡ false → A
true≢false e = clash (sym e)

pub tree-sound : (x : Tree ℕ) → Nests x → Sound (tree_box x)
tree-sound (leaf o a is) N = N
tree-sound (split o a x y) N = N.sound

module _ (hit : ℕ → Result Hit Refusal) (r : Ray) (distance : Float) where
  -- a leaf of the tree that hides the ray's origin
  pub record Hides (tree : Tree ℕ) : Type 0 where
    pub box : BBox
    pub entry : ℕ
    pub own : Hit
    pub in_tree : LeafIn box entry tree
    pub passed : T (passes (box_test box r))
    pub before : T (lt (box_test box r).tmin distance)
    pub returned : hit entry ≡ Ok own
    pub short : T (lt own.t distance)

  -- nothing is left to be looked at in x; what is clear is asked only while nothing hides
  pub record Done (hid : Bool) (x : Tree ℕ) : Type 0 where
    pub answers : Answering hit r x
    pub clear : hid ≡ false → Clear hit r distance x

  -- a tree whose box fails the test
  pub failed-done : (hid : Bool) (x : Tree ℕ) → T (not (passes (box_test (tree_box x) r))) → Done hid x
  failed-done hid x h = record { answers = answers x h; clear = λ e. clear x h }
    where
      neither : {A : Type 0} (b : Bool) → T (not b) → T b → A
      neither true p q = absurd p
      neither false p q = absurd q

      answers : (x : Tree ℕ) → T (not (passes (box_test (tree_box x) r))) → Answering hit r x
      answers (leaf c a is) h = λ p. neither (passes (box_test c r)) h p
      answers (split c a u v) h = λ p. neither (passes (box_test c r)) h p

      clear : (x : Tree ℕ) → T (not (passes (box_test (tree_box x) r))) → Clear hit r distance x
      clear (leaf c a is) h = λ p. neither (passes (box_test c r)) h p
      clear (split c a u v) h = λ p. neither (passes (box_test c r)) h p

  module _ (N : ℕ → Node) (places : ℕ) (order : List ℕ) (tree : Tree ℕ) where
    pub record Part (x : Tree ℕ) : Type 0 where
      pub nests : Nests x
      pub leaves : (c : BBox) (s : ℕ) → LeafIn c s x → LeafIn c s tree

    -- i is looked at now, and the places in the stack wait: once these are done, all is
    pub record Glancing (i : ℕ) (stack : List ℕ) (sp : ℕ) (hid : Bool) : Type 0 where
      pub top : Tree ℕ
      pub trees : List (Tree ℕ)
      pub stands : Stands N places order i top
      pub piles : Stack N places order (piled stack sp) trees
      pub part : Part top
      pub parts : Each Part trees
      pub answers : Answering hit r top → Each (Answering hit r) trees → Answering hit r tree
      pub clear : hid ≡ false → Clear hit r distance top → Each (Clear hit r distance) trees → Clear hit r distance tree
      pub hides : hid ≡ true → Hides tree
      pub low : sp ≤ 64
      pub broad : length stack ≡ 64

    -- what a glance that ends comes to
    pub record Whole (hid : Bool) : Type 0 where
      pub answers : Answering hit r tree
      pub clear : hid ≡ false → Clear hit r distance tree
      pub hides : hid ≡ true → Hides tree

    pub glancing-start : (stack : List ℕ) → length stack ≡ 64 → Stands N places order 0 tree → Nests tree → Glancing 0 stack 0 false
    unfolding Each
    glancing-start stack l s n = record {
      top = tree;
      trees = [];
      stands = s;
      piles = tt;
      part = record { nests = n; leaves = λ c t h. h };
      parts = tt;
      answers = λ a e. a;
      clear = λ h a e. a;
      hides = λ e. clash e;
      low = omega arith;
      broad = l;
    }

    module _ (i : ℕ) (stack : List ℕ) (sp : ℕ) (hid : Bool) (G : Glancing i stack sp hid) where
      -- ---- nothing waits
      pub glancing-end : sp ≡ 0 → Done hid G.top → Whole hid
      unfolding Each
      glancing-end e d = go G.trees (subst (λ (k : ℕ). Stack N places order (piled stack k) G.trees) e G.piles) G.answers G.clear
        where
          go : (ts : List (Tree ℕ)) → Stack N places order [] ts → (Answering hit r G.top → Each (Answering hit r) ts → Answering hit r tree)
              → (hid ≡ false → Clear hit r distance G.top → Each (Clear hit r distance) ts → Clear hit r distance tree) → Whole hid
          go [] p a c = record { answers = a d.answers tt; clear = λ h. c h (d.clear h) tt; hides = G.hides }
          go (x ∷ ts) p a c = absurd p

      pub answers-end : sp ≡ 0 → Answering hit r G.top → Answering hit r tree
      unfolding Each
      answers-end e A = go G.trees (subst (λ (k : ℕ). Stack N places order (piled stack k) G.trees) e G.piles) G.answers
        where
          go : (ts : List (Tree ℕ)) → Stack N places order [] ts → (Answering hit r G.top → Each (Answering hit r) ts → Answering hit r tree) → Answering hit r tree
          go [] p a = a A tt
          go (x ∷ ts) p a = absurd p

      -- ---- the last place that waits, once the top is done
      pub glancing-pop : (k : Bool) → (sp ≡ 0 → ⊥) → Answering hit r G.top → (k ≡ false → hid ≡ false) → (k ≡ false → Clear hit r distance G.top) → (k ≡ true → Hides tree)
          → Glancing (get_or stack (sp - 1) 0) stack (sp - 1) k
      unfolding Each
      glancing-pop k nz A w C H =
          let es : sp ≡ suc (sp - 1) = omega arith in
          go G.trees (subst (λ (l : List ℕ). Stack N places order l G.trees) (piled-top stack (sp - 1) sp es) G.piles) G.parts G.answers G.clear
        where
          go : (ts : List (Tree ℕ)) → Stack N places order (get_or stack (sp - 1) 0 ∷ piled stack (sp - 1)) ts → Each Part ts → (Answering hit r G.top → Each (Answering hit r) ts → Answering hit r tree)
              → (hid ≡ false → Clear hit r distance G.top → Each (Clear hit r distance) ts → Clear hit r distance tree) → Glancing (get_or stack (sp - 1) 0) stack (sp - 1) k
          go [] p q a c = absurd p
          go (x ∷ ts) p q a c = record {
            top = x;
            trees = ts;
            stands = p.0;
            piles = p.1;
            part = q.0;
            parts = q.1;
            answers = λ u v. a A (u, v);
            clear = λ h u v. c (w h) (C h) (u, v);
            hides = H;
            low = omega (arith, G.low);
            broad = G.broad;
          }

      pub glancing-back : (sp ≡ 0 → ⊥) → Done hid G.top → Glancing (get_or stack (sp - 1) 0) stack (sp - 1) hid
      glancing-back nz d = glancing-pop hid nz d.answers (λ e. e) d.clear G.hides

      pub glancing-hidden : (sp ≡ 0 → ⊥) → Answering hit r G.top → Hides tree → Glancing (get_or stack (sp - 1) 0) stack (sp - 1) true
      glancing-hidden nz A H = glancing-pop true nz A (λ e. true≢false e) (λ e. true≢false e) (λ e. H)

      -- ---- a leaf
      -- what its entries say
      pub leaf-answers : is_leaf (N i) ≡ true → ((s : ℕ) → Member s (leaf_entries order (N i)) → (h : Hit) × (hit s ≡ Ok h)) → Answering hit r G.top
      leaf-answers k A = go G.top G.stands
        where
          go : (x : Tree ℕ) → Stands N places order i x → Answering hit r x
          go (leaf c a is) S = λ p s m. A s (subst (Member s) (sym S.solids) m)
          go (split c a u v) S = true≢false (sym k ∙ S.kind)

      pub leaf-clear : is_leaf (N i) ≡ true → ((s : ℕ) → Member s (leaf_entries order (N i)) → (h : Hit) → hit s ≡ Ok h → T (not (lt h.t distance))) → Clear hit r distance G.top
      leaf-clear k F = go G.top G.stands
        where
          go : (x : Tree ℕ) → Stands N places order i x → Clear hit r distance x
          go (leaf c a is) S = λ p s m. F s (subst (Member s) (sym S.solids) m)
          go (split c a u v) S = true≢false (sym k ∙ S.kind)

      pub leaf-in : is_leaf (N i) ≡ true → (s : ℕ) → Member s (leaf_entries order (N i)) → LeafIn (N i).bx s tree
      leaf-in k s m = go G.top G.stands G.part
        where
          go : (x : Tree ℕ) → Stands N places order i x → Part x → LeafIn (N i).bx s tree
          go (leaf c a is) S P = P.leaves (N i).bx s (sym S.box, subst (Member s) S.solids m)
          go (split c a u v) S P = true≢false (sym k ∙ S.kind)

      pub there : i < places
      there = go G.top G.stands
        where
          go : (x : Tree ℕ) → Stands N places order i x → i < places
          go (leaf c a is) S = ltb-true i places S.there
          go (split c a u v) S = ltb-true i places S.there

      -- ---- a split
      pub record Fork (c : Children) : Type 0 where
        pub near : Tree ℕ
        pub far : Tree ℕ
        pub near-stands : Stands N places order c.near near
        pub far-stands : Stands N places order c.far far
        pub near-part : Part near
        pub far-part : Part far
        pub answers : Answering hit r near → Answering hit r far → Answering hit r G.top
        pub clear : Clear hit r distance near → Clear hit r distance far → Clear hit r distance G.top

      pub fork : is_leaf (N i) ≡ false → (back : Bool) (c : Children) → c ≡ children_of (N i).first back → Fork c
      unfolding children_of
      fork k back c e = go back G.top G.stands G.part (λ a. a) (λ a. a) e
        where
          go : (back : Bool) (x : Tree ℕ) → Stands N places order i x → Part x → (Answering hit r x → Answering hit r G.top) → (Clear hit r distance x → Clear hit r distance G.top)
              → c ≡ children_of (N i).first back → Fork c
          go back (leaf b a is) S P A C e = true≢false (sym S.kind ∙ k)
          go true (split b a u v) S P A C e = subst Fork (sym e) (record {
            near = v;
            far = u;
            near-stands = S.two;
            far-stands = S.one;
            near-part = record { nests = P.nests.two; leaves = λ d s l. P.leaves d s (inr l) };
            far-part = record { nests = P.nests.one; leaves = λ d s l. P.leaves d s (inl l) };
            answers = λ n f. A (λ p. (f, n));
            clear = λ n f. C (λ p. (f, n));
          })
          go false (split b a u v) S P A C e = subst Fork (sym e) (record {
            near = u;
            far = v;
            near-stands = S.one;
            far-stands = S.two;
            near-part = record { nests = P.nests.one; leaves = λ d s l. P.leaves d s (inl l) };
            far-part = record { nests = P.nests.two; leaves = λ d s l. P.leaves d s (inr l) };
            answers = λ n f. A (λ p. (n, f));
            clear = λ n f. C (λ p. (n, f));
          })

      module _ (c : Children) (F : Fork c) where
        -- the far child is done
        pub go-near : Done hid F.far → Glancing c.near stack sp hid
        go-near d = record {
          top = F.near;
          trees = G.trees;
          stands = F.near-stands;
          piles = G.piles;
          part = F.near-part;
          parts = G.parts;
          answers = λ a t. G.answers (F.answers a d.answers) t;
          clear = λ h a t. G.clear h (F.clear a (d.clear h)) t;
          hides = G.hides;
          low = G.low;
          broad = G.broad;
        }

        pub go-far : Done hid F.near → Glancing c.far stack sp hid
        go-far d = record {
          top = F.far;
          trees = G.trees;
          stands = F.far-stands;
          piles = G.piles;
          part = F.far-part;
          parts = G.parts;
          answers = λ a t. G.answers (F.answers d.answers a) t;
          clear = λ h a t. G.clear h (F.clear (d.clear h) a) t;
          hides = G.hides;
          low = G.low;
          broad = G.broad;
        }

        pub go-neither : Done hid F.near → Done hid F.far → Done hid G.top
        go-neither n f = record { answers = F.answers n.answers f.answers; clear = λ h. F.clear (n.clear h) (f.clear h) }

        -- both: the far child waits
        pub go_both : sp ≤ 63 → Glancing c.near (set stack sp c.far) (sp + 1) hid
        unfolding Each
        go_both l = record {
          top = F.near;
          trees = F.far ∷ G.trees;
          stands = F.near-stands;
          piles = subst (λ (q : List ℕ). Stack N places order q (F.far ∷ G.trees)) (sym piles) (F.far-stands, G.piles);
          part = F.near-part;
          parts = (F.far-part, G.parts);
          answers = λ a t. G.answers (F.answers a t.0) t.1;
          clear = λ h a t. G.clear h (F.clear a t.0) t.1;
          hides = G.hides;
          low = omega (arith, l);
          broad = length-set stack sp c.far ∙ G.broad;
        }
          where
            piles : piled (set stack sp c.far) (sp + 1) ≡ c.far ∷ piled stack sp
            piles =
                piled-top (set stack sp c.far) sp (sp + 1) (omega arith)
                ∙ ap (λ (x : ℕ). x ∷ piled (set stack sp c.far) sp) (get_or-set_same stack sp c.far 0 (omega (arith, l, G.broad)))
                ∙ ap (λ (q : List ℕ). c.far ∷ q) (piled-set stack sp c.far sp (omega arith))
