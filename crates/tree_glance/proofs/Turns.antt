-- The rounds of a glance: what is left of them says what all say. Assumes nothing.
use mathlib.Core.Path.{◌≡◌, refl, sym, ap, ap₂, ◌∙◌}
use mathlib.Core.List.{List, [], ◌∷◌}
use mathlib.Core.Bool.{Bool, true, false, not, cond, ◌||◌}
use Prim.Native.Nat.{ℕ, zero, suc, ◌+◌, ◌-◌, ◌<◌, ◌≤◌}
use native.Mathlib.Omega.{arith}
use lib.ListN.{length, take, drop, get_or, set}
use lib.Seq.{get_or-set_same}
use lib.Dec.{T, ltb, eqb}
use lib.Ieee.{Float, le}
use borrow.Author.Tests.{lt-ltb, le-ltb}
use Rattle.floats.proofs.Tests.{clash}
use Rattle.floats.specs.Arith.{INF}
use Rattle.geometry.specs.Boxes.{box_test, passes}
use Rattle.geometry.specs.declared.ray.Ray.{Ray}
use Rattle.geometry.specs.declared.hit.Hit.{Hit}
use Rattle.rows.specs.Rows.{row}
use Rattle.rows.specs.Points.{box_of_row}
use Rattle.rows.specs.Entries.{triple_of}
use Rattle.rows.specs.declared.Triple.{Triple}
use Rattle.tree_nodes.specs.Nodes.{node_at, is_leaf}
use Rattle.tree_nodes.specs.declared.Node.{Node}
use Rattle.tree_trust.specs.Trust.{whole_tree, Trusted}
use Rattle.tree_beams.specs.Beams.{Aimed, misses_box}
use Rattle.tree_beams.specs.declared.Beam.{Beam}
use Rattle.tree_beams.proofs.Missing.{box-missed}
use Rattle.tree_walk.specs.Walks.{children_of, backward, walk_rows}
use Rattle.tree_walk.specs.declared.Children.{Children}
use Rattle.tree_walk.proofs.Rounds.{piled, length-piled, piled-set, piled-top}
use Rattle.tree_glance.specs.Glances.{LastCover, Shorter, LeafTold, Tells, clear, spotted_of, enters_before, leaf_glance, past_leaf, ended_of, look_on, leaf_says, look_rows}
use Rattle.tree_glance.proofs.Leaves.{Answering}
use Rattle.tree_glance.proofs.Glancing.{Hides, Done}
use Rattle.tree_glance.proofs.Spots.{told-far, told-short}
use Rattle.tree_glance.proofs.Endings.{aimed-usable, tells_as}
use Rattle.tree_glance.proofs.Looking.{At-place, root-asked, root-missed, look-start, leaf-done, leaf-hides, leaf-kept, leaf-answered, near-asked, far-asked, to-far, to-neither, to-near, to_both, look-back, look-hidden, look-end, look-end-hidden, look-calm}
use Rattle.tree_sight.specs.declared.Sight.TheVariants.{Hidden, Visible}
use Rattle.std.specs.Prelude.{None, Ok, Option, Result, Some}
use Rattle.refusals.specs.declared.Refusal.{Refusal}
use Rattle.tree_sight.specs.declared.Sight.{Sight}

-- one place more that waits
piled-one : (s : List ℕ) (sp v : ℕ) → sp < length s → piled (set s sp v) (sp + 1) ≡ v ∷ piled s sp
piled-one s sp v h = piled-top (set s sp v) sp (sp + 1) (omega arith) ∙ ap₂ (λ (x : ℕ) (l : List ℕ). x ∷ l) (get_or-set_same s sp v 0 h) (piled-set s sp v sp (omega arith))

if-so : (t : Bool) (x y z : Option Sight) → cond t x y ≡ z → t ≡ true → x ≡ z
if-so true x y z e h = e
if-so false x y z e h = clash h

if-not : (t : Bool) (x y z : Option Sight) → cond t x y ≡ z → t ≡ false → y ≡ z
if-not true x y z e h = clash (sym h)
if-not false x y z e h = e

-- ---- one round
module _ (says : ℕ → Option Sight) (misses : ℕ → Bool) (r : Ray) (node : ℕ → Node) (calm : Bool) where
  on_none : (k : ℕ) (hid : Bool) → look_on says misses r node calm k [] hid ≡ ended_of hid
  unfolding look_on
  on_none zero hid = refl
  on_none (suc k) hid = refl

  on-over : (i : ℕ) (w : List ℕ) (hid : Bool) → look_on says misses r node calm 0 (i ∷ w) hid ≡ None
  unfolding look_on
  on-over i w hid = refl

  module _ (k i : ℕ) (w : List ℕ) (hid : Bool) where
    abbrev on : List ℕ → Bool → Option Sight
    on = look_on says misses r node calm k

    round-leaf : is_leaf (node i) ≡ true → look_on says misses r node calm (suc k) (i ∷ w) hid ≡ past_leaf calm (says i) hid (on w)
    unfolding look_on
    round-leaf l = rw l

    round-split : is_leaf (node i) ≡ false → (c : Children) → c ≡ children_of (node i).first (backward r (node i).axis) → look_on says misses r node calm (suc k) (i ∷ w) hid
        ≡ cond (misses c.near) (cond (misses c.far) (on w hid) (on (c.far ∷ w) hid))
        (cond (misses c.far) (on (c.near ∷ w) hid) (cond (ltb 63 (length w)) None (on (c.near ∷ c.far ∷ w) hid)))
    unfolding look_on
    round-split l c e = rw (l, e)

-- ---- the loop
module _ (hit : ℕ → Result Hit Refusal) (b : Beam) (distance : Float) (calm : Bool) (boxes : List Float) (links order : List ℕ) where
  abbrev says : ℕ → Option Sight
  says = leaf_says hit b distance calm boxes links order

  abbrev misses : ℕ → Bool
  misses i = misses_box (box_of_row (row 6 i boxes)) b

  abbrev N : ℕ → Node
  N = node_at boxes links

  abbrev all : Option Sight
  all = look_rows hit b distance calm boxes links order

  -- what is left from the places that wait
  abbrev pub LeftFrom : ℕ → List ℕ → Bool → Type 0
  LeftFrom k w hid = look_on says misses b.ray N calm k w hid ≡ all

  module _ (m : Bool) (em : m ≡ misses_box (box_of_row (row 6 0 boxes)) b) where
    all-missed : m ≡ true → Some Visible ≡ all
    unfolding look_rows
    all-missed h = rw (← em, h)

    all_left : m ≡ false → LeftFrom 2048 (0 ∷ []) false
    unfolding look_rows
    all_left h = rw (← em, h)

  -- no place is left, or the next one is looked at
  module _ (k : ℕ) (stack : List ℕ) (sp : ℕ) (hid : Bool) (e : LeftFrom k (piled stack sp) hid) where
    left-none : sp ≡ 0 → ended_of hid ≡ all
    left-none z = sym (on_none says misses b.ray N calm k hid) ∙ rw (ap (piled stack) z) at e

    left-hidden : hid ≡ true → sp ≡ 0 → Some Hidden ≡ all
    unfolding ended_of
    left-hidden h z = rw h at (left-none z)

    left-next : (sp ≡ 0 → ⊥) → LeftFrom k (get_or stack (sp - 1) 0 ∷ piled stack (sp - 1)) hid
    left-next z = rw (piled-top stack (sp - 1) sp (omega arith)) at e

  module _ (rounds i : ℕ) (stack : List ℕ) (sp : ℕ) (hid : Bool) (e : LeftFrom rounds (i ∷ piled stack sp) hid) where
    left_over : rounds ≡ 0 → None ≡ all
    left_over z = sym (on-over says misses b.ray N calm i (piled stack sp) hid) ∙ rw z at e

    module _ (hr : 0 < rounds) (n : Triple) (en : n ≡ triple_of (row 3 i links)) (first : ℕ) (ef : first ≡ n.a) (lf : Bool) (el : lf ≡ (eqb n.c 0 || ltb 0 n.b)) where
      abbrev k : ℕ
      k = rounds - 1

      abbrev w : List ℕ
      w = piled stack sp

      opened : LeftFrom (suc k) (i ∷ w) hid
      opened = let er : rounds ≡ suc k = omega arith in rw er at e

      leaf-is : (t : Bool) → lf ≡ t → is_leaf (N i) ≡ t
      leaf-is t h = sym (ap (λ (m : Triple). eqb m.c 0 || ltb 0 m.b) en) ∙ sym el ∙ h

      -- ---- a leaf
      module _ (l : lf ≡ true) (count : ℕ) (ec : count ≡ n.b) (g : Option Sight)
          (eg : g ≡ leaf_glance (spotted_of distance calm hit (take count (drop first order)) clear) (enters_before boxes i b.ray distance)) where
        said : g ≡ says i
        unfolding leaf_says
        said = eg ∙ rw (ec, ef, en)

        past : past_leaf calm g hid (look_on says misses b.ray N calm k w) ≡ all
        past = rw said (sym (round-leaf says misses b.ray N calm k i w hid (leaf-is true l)) ∙ opened)

        past-unsure : g ≡ None → None ≡ all
        unfolding past_leaf
        past-unsure h = rw h at past

        past-visible : g ≡ Some Visible → LeftFrom k w hid
        unfolding past_leaf
        past-visible h = rw h at past

        module _ (h : g ≡ Some Hidden) where
          past-calm : calm ≡ true → Some Hidden ≡ all
          unfolding past_leaf
          past-calm t = if-so calm (Some Hidden) (look_on says misses b.ray N calm k w true) all (rw h at past) t

          past-hidden : calm ≡ false → LeftFrom k w true
          unfolding past_leaf
          past-hidden t = if-not calm (Some Hidden) (look_on says misses b.ray N calm k w true) all (rw h at past) t

      -- ---- a split
      module _ (l : lf ≡ false) (back : Bool) (ew : back ≡ backward b.ray n.c) (c : Children) (ec : c ≡ children_of first back)
          (p : Bool) (ep : p ≡ misses_box (box_of_row (row 6 c.near boxes)) b) (q : Bool) (eq : q ≡ misses_box (box_of_row (row 6 c.far boxes)) b) where
        abbrev onto : List ℕ → Option Sight
        onto v = look_on says misses b.ray N calm k v hid

        sides : cond p (cond q (onto w) (onto (c.far ∷ w))) (cond q (onto (c.near ∷ w)) (cond (ltb 63 (length w)) None (onto (c.near ∷ c.far ∷ w)))) ≡ all
        sides = rw (ep, eq) (sym (round-split says misses b.ray N calm k i w hid (leaf-is false l) c (ec ∙ rw (ef, ew, en))) ∙ opened)

        sides-neither : p ≡ true → q ≡ true → LeftFrom k w hid
        sides-neither h j = rw (h, j) at sides

        sides-far : p ≡ true → q ≡ false → LeftFrom k (c.far ∷ w) hid
        sides-far h j = rw (h, j) at sides

        sides-near : p ≡ false → q ≡ true → LeftFrom k (c.near ∷ w) hid
        sides-near h j = rw (h, j) at sides

        module _ (h : p ≡ false) (j : q ≡ false) where
          full-or : cond (ltb 63 (length w)) None (onto (c.near ∷ c.far ∷ w)) ≡ all
          full-or = rw (h, j) at sides

          sides-full : 63 < sp → None ≡ all
          sides-full f = rw (lt-ltb 63 (length w) (omega (arith, length-piled stack sp))) at full-or

          sides-both : length stack ≡ 64 → sp ≤ 63 → LeftFrom k (c.near ∷ piled (set stack sp c.far) (sp + 1)) hid
          sides-both wide f =
              rw (piled-one stack sp c.far (omega (arith, wide))) (rw (le-ltb 63 (length w) (omega (arith, length-piled stack sp))) at full-or)

-- ---- the loop, with what holds of the place that is looked at
module _ (hit : ℕ → Result Hit Refusal) (b : Beam) (distance : Float) (calm : Bool) (boxes : List Float) (links order : List ℕ) where
  pub record Turn (rounds i : ℕ) (stack : List ℕ) (sp : ℕ) (hid : Bool) : Type 0 where
    pub place : At-place hit b.ray distance boxes links order i stack sp hid
    pub left : LeftFrom hit b distance calm boxes links order rounds (i ∷ piled stack sp) hid

  -- an answer, and what it says of the walk
  abbrev pub Said : Option Sight → Type 0
  Said g = Tells g (walk_rows hit b.ray boxes links order) distance × (g ≡ look_rows hit b distance calm boxes links order)

  module _ (t : Trusted boxes links order) (m : Bool) (em : m ≡ misses_box (box_of_row (row 6 0 boxes)) b) where
    pub turn-missed : Aimed b → T (le distance INF) → m ≡ true → Said (Some Visible)
    turn-missed A d h = (
      root-missed hit b.ray distance boxes links order t d (box-missed _ b (root-asked hit b.ray distance boxes links order t).1 A m em h),
      all-missed hit b distance calm boxes links order m em h,
    )

    pub turn-start : (stack : List ℕ) → length stack ≡ 64 → m ≡ false → Turn 2048 0 stack 0 false
    turn-start stack w h = record { place = look-start hit b.ray distance boxes links order t stack w; left = all_left hit b distance calm boxes links order m em h }

  module _ (rounds i : ℕ) (stack : List ℕ) (sp : ℕ) (hid : Bool) (T' : Turn rounds i stack sp hid) where
    abbrev G : At-place hit b.ray distance boxes links order i stack sp hid
    G = T'.place

    abbrev E : LeftFrom hit b distance calm boxes links order rounds (i ∷ piled stack sp) hid
    E = T'.left

    abbrev Left : List ℕ → Bool → Type 0
    Left = LeftFrom hit b distance calm boxes links order (rounds - 1)

    abbrev Finished : Type 0
    Finished = Done hit b.ray distance hid G.top

    pub turn-over : rounds ≡ 0 → Said None
    turn-over z = (tt, left_over hit b distance calm boxes links order rounds i stack sp hid E z)

    back_by : Finished → Left (piled stack sp) hid → (sp ≡ 0 → ⊥) → Turn (rounds - 1) (get_or stack (sp - 1) 0) stack (sp - 1) hid
    back_by D e z = record {
      place = look-back hit b.ray distance boxes links order i stack sp hid G z D;
      left = left-next hit b distance calm boxes links order (rounds - 1) stack sp hid e z;
    }

    end_by : Trusted boxes links order → Aimed b → T (le distance INF) → Finished → Left (piled stack sp) hid → sp ≡ 0 → (g : Option Sight) → g ≡ ended_of hid → Said g
    end_by t A d D e z g h = (
      tells_as g (ended_of hid) (walk_rows hit b.ray boxes links order) distance h (look-end hit b.ray distance boxes links order i stack sp hid G t (aimed-usable b A) d z D),
      h ∙ left-none hit b distance calm boxes links order (rounds - 1) stack sp hid e z,
    )

    module _ (hr : 0 < rounds) (n : Triple) (en : n ≡ triple_of (row 3 i links)) (first : ℕ) (ef : first ≡ n.a) (lf : Bool) (el : lf ≡ (eqb n.c 0 || ltb 0 n.b)) where
      -- ---- a leaf
      module _ (l : lf ≡ true) (count : ℕ) (ec : count ≡ n.b) (cover cover' : List ℕ) (g : Option Sight)
          (eg : g ≡ leaf_glance (spotted_of distance calm hit (take count (drop first order)) clear) (enters_before boxes i b.ray distance))
          (L : LeafTold hit b.ray distance calm boxes i (take count (drop first order)) cover cover' g) where
        pub turn-unsure : g ≡ None → Said None
        turn-unsure h = (tt, past-unsure hit b distance calm boxes links order rounds i stack sp hid E hr n en first ef lf el l count ec g eg h)

        module _ (h : g ≡ Some Visible) where
          far : Finished
          far = leaf-done hit b.ray distance boxes links order i stack sp hid G n en first ef lf el l count ec (told-far hit b.ray distance calm boxes i (take count (drop first order)) cover cover' g L h)

          onward : Left (piled stack sp) hid
          onward = past-visible hit b distance calm boxes links order rounds i stack sp hid E hr n en first ef lf el l count ec g eg h

          pub turn-past : (sp ≡ 0 → ⊥) → Turn (rounds - 1) (get_or stack (sp - 1) 0) stack (sp - 1) hid
          turn-past = back_by far onward

          pub turn_last : Trusted boxes links order → Aimed b → T (le distance INF) → sp ≡ 0 → (a : Option Sight) → a ≡ ended_of hid → Said a
          turn_last t A d = end_by t A d far onward

        module _ (h : g ≡ Some Hidden) where
          short : Shorter hit b.ray distance calm boxes i (take count (drop first order)) cover'
          short = told-short hit b.ray distance calm boxes i (take count (drop first order)) cover cover' g L h

          hides : Hides hit b.ray distance (whole_tree boxes links order)
          hides = leaf-hides hit b.ray distance boxes links order i stack sp hid G n en first ef lf el l count ec calm cover' short

          pub turn-kept : length stack ≡ 64 → LastCover boxes links order cover' stack
          turn-kept = leaf-kept hit b.ray distance boxes links order i stack sp hid G n en first ef lf el l count ec calm cover' short

          pub turn-calm : Trusted boxes links order → Aimed b → T (le distance INF) → ((j : ℕ) → (k : Hit) × (hit j ≡ Ok k)) → calm ≡ true → Said (Some Hidden)
          turn-calm t A d answers c = (
            look-calm hit b.ray distance boxes links order i stack sp hid G t (aimed-usable b A) d answers hides,
            past-calm hit b distance calm boxes links order rounds i stack sp hid E hr n en first ef lf el l count ec g eg h c,
          )

          module _ (c : calm ≡ false) where
            answered : Answering hit b.ray G.top
            answered = leaf-answered hit b.ray distance boxes links order i stack sp hid G n en first ef lf el l count ec calm cover' short c

            hidden : Left (piled stack sp) true
            hidden = past-hidden hit b distance calm boxes links order rounds i stack sp hid E hr n en first ef lf el l count ec g eg h c

            pub turn-hidden : (sp ≡ 0 → ⊥) → Turn (rounds - 1) (get_or stack (sp - 1) 0) stack (sp - 1) true
            turn-hidden z = record {
              place = look-hidden hit b.ray distance boxes links order i stack sp hid G z answered hides;
              left = left-next hit b distance calm boxes links order (rounds - 1) stack sp true hidden z;
            }

            pub turn-hidden-last : Trusted boxes links order → Aimed b → T (le distance INF) → sp ≡ 0 → Said (Some Hidden)
            turn-hidden-last t A d z = (
              look-end-hidden hit b.ray distance boxes links order i stack sp hid G t (aimed-usable b A) d z answered hides,
              left-hidden hit b distance calm boxes links order (rounds - 1) stack sp true hidden refl z,
            )

      -- ---- a split
      module _ (l : lf ≡ false) (back : Bool) (ew : back ≡ backward b.ray n.c) (c : Children) (ec : c ≡ children_of first back)
          (A : Aimed b) (p : Bool) (ep : p ≡ misses_box (box_of_row (row 6 c.near boxes)) b) (q : Bool) (eq : q ≡ misses_box (box_of_row (row 6 c.far boxes)) b) where
        near-failed : p ≡ true → T (not (passes (box_test (box_of_row (row 6 c.near boxes)) b.ray)))
        near-failed h = box-missed _ b (near-asked hit b.ray distance boxes links order i stack sp hid G n en first ef lf el l back c ec).1 A p ep h

        far-failed : q ≡ true → T (not (passes (box_test (box_of_row (row 6 c.far boxes)) b.ray)))
        far-failed h = box-missed _ b (far-asked hit b.ray distance boxes links order i stack sp hid G n en first ef lf el l back c ec).1 A q eq h

        module _ (h : p ≡ true) where
          module _ (j : q ≡ true) where
            neither : Finished
            neither = to-neither hit b.ray distance boxes links order i stack sp hid G n en first ef lf el l back c ec (near-failed h) (far-failed j)

            aside : Left (piled stack sp) hid
            aside = sides-neither hit b distance calm boxes links order rounds i stack sp hid E hr n en first ef lf el l back ew c ec p ep q eq h j

            pub turn-neither : (sp ≡ 0 → ⊥) → Turn (rounds - 1) (get_or stack (sp - 1) 0) stack (sp - 1) hid
            turn-neither = back_by neither aside

            pub turn-neither-last : Trusted boxes links order → T (le distance INF) → sp ≡ 0 → (a : Option Sight) → a ≡ ended_of hid → Said a
            turn-neither-last t d = end_by t A d neither aside

          pub turn-far : q ≡ false → Turn (rounds - 1) c.far stack sp hid
          turn-far j = record {
            place = to-far hit b.ray distance boxes links order i stack sp hid G n en first ef lf el l back c ec (near-failed h);
            left = sides-far hit b distance calm boxes links order rounds i stack sp hid E hr n en first ef lf el l back ew c ec p ep q eq h j;
          }

        module _ (h : p ≡ false) where
          pub turn_near : q ≡ true → Turn (rounds - 1) c.near stack sp hid
          turn_near j = record {
            place = to-near hit b.ray distance boxes links order i stack sp hid G n en first ef lf el l back c ec (far-failed j);
            left = sides-near hit b distance calm boxes links order rounds i stack sp hid E hr n en first ef lf el l back ew c ec p ep q eq h j;
          }

          module _ (j : q ≡ false) where
            pub turn-full : 63 < sp → Said None
            turn-full f = (tt, sides-full hit b distance calm boxes links order rounds i stack sp hid E hr n en first ef lf el l back ew c ec p ep q eq h j f)

            pub turn-both : length stack ≡ 64 → sp ≤ 63 → Turn (rounds - 1) c.near (set stack sp c.far) (sp + 1) hid
            turn-both w f = record {
              place = to_both hit b.ray distance boxes links order i stack sp hid G n en first ef lf el l back c ec f;
              left = sides-both hit b distance calm boxes links order rounds i stack sp hid E hr n en first ef lf el l back ew c ec p ep q eq h j w f;
            }
