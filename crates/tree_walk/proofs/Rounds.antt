-- The rounds of a walk of node slices, whatever it answers and however it goes through a leaf: the full walk, and the one that stops at a cover. Assumes nothing.
use mathlib.Core.Path.{◌≡◌, refl, sym, ap, ap₂, ◌∙◌}
use mathlib.Core.List.{List, [], ◌∷◌}
use mathlib.Core.Bool.{Bool, true, false, cond, ◌||◌}
use Prim.Native.Nat.{ℕ, zero, suc, ◌+◌, ◌-◌, ◌*◌, ◌/◌, ◌≤◌, ◌<◌}
use native.Mathlib.Omega.{arith}
use lib.ListN.{length, take, drop, get_or, set, length-set}
use lib.Seq.{get_or-set_same, get_or-set_other}
use lib.Dec.{ltb, eqb}
use borrow.Author.Tests.{ltb-true, ltb-false, lt-ltb, le-ltb}
use lib.Ieee.{Float}
use Rattle.geometry.specs.Boxes.{box_test, skips}
use Rattle.geometry.specs.declared.ray.Ray.{Ray}
use Rattle.geometry.specs.declared.bounding_box.BBox.{BBox}
use Rattle.rows.specs.Rows.{row}
use Rattle.rows.specs.Points.{box_of_row}
use Rattle.rows.specs.Entries.{triple_of}
use Rattle.rows.specs.declared.Triple.{Triple}
use Rattle.tree_nodes.specs.Nodes.{node_at, places_of, is_leaf}
use Rattle.tree_nodes.specs.declared.Node.{Node}
use Rattle.tree_walk.specs.declared.Nearest.{Nearest}
use Rattle.tree_walk.specs.declared.Children.{Children}
use Rattle.tree_walk.specs.Walks.{nothing, backward, children_of, leaf_entries}

-- ---- the places that wait, the last one first
abbrev pub piled : List ℕ → ℕ → List ℕ
piled s zero = []
piled s (suc k) = get_or s k 0 ∷ piled s k

pub length-piled : (s : List ℕ) (k : ℕ) → length (piled s k) ≡ k
length-piled s zero = refl
length-piled s (suc k) = ap suc (length-piled s k)

pub piled-set : (s : List ℕ) (j v k : ℕ) → k ≤ j → piled (set s j v) k ≡ piled s k
piled-set s j v zero h = refl
piled-set s j v (suc k) h = ap₂ (λ (x : ℕ) (l : List ℕ). x ∷ l) (get_or-set_other s j k v 0 (omega arith)) (piled-set s j v k (omega arith))

pub piled-top : (s : List ℕ) (k sp : ℕ) → sp ≡ suc k → piled s sp ≡ get_or s k 0 ∷ piled s k
piled-top s k sp e = rw e

piled-push : (s : List ℕ) (sp far near : ℕ) → sp + 1 < length s → piled (set (set s sp far) (sp + 1) near) (sp + 2) ≡ near ∷ far ∷ piled s sp
piled-push s sp far near h =
    let s₁ : List ℕ = set s sp far in
    let s₂ : List ℕ = set s₁ (sp + 1) near in
    let l : length s₁ ≡ length s = length-set s sp far in
    let a : get_or s₂ (sp + 1) 0 ≡ near = get_or-set_same s₁ (sp + 1) near 0 (omega arith) in
    let b : get_or s₂ sp 0 ≡ far = get_or-set_other s₁ (sp + 1) sp near 0 (omega arith) ∙ get_or-set_same s sp far 0 (omega arith) in
    let c : piled s₂ sp ≡ piled s sp = piled-set s₁ (sp + 1) near sp (omega arith) ∙ piled-set s sp far sp (omega arith) in
    piled-top s₂ (sp + 1) (sp + 2) (omega arith) ∙ ap₂ (λ (x : ℕ) (l : List ℕ). x ∷ l) a (piled-top s₂ sp (sp + 1) (omega arith) ∙ ap₂ (λ (x : ℕ) (l : List ℕ). x ∷ l) b c)

pub places-box : (boxes : List Float) (marks : List ℕ) (i : ℕ) → i < places_of boxes marks → (i * 6 + 6 ≤ length boxes) × (i * 3 + 3 ≤ length marks)
unfolding places_of
places-box boxes marks i = go (ltb (length marks / 3) (length boxes / 6)) (ltb-true (length marks / 3) (length boxes / 6)) (ltb-false (length marks / 3) (length boxes / 6))
  where
    go : (b : Bool) → (b ≡ true → length marks / 3 < length boxes / 6) → (b ≡ false → length boxes / 6 ≤ length marks / 3)
        → i < cond b (length marks / 3) (length boxes / 6) → (i * 6 + 6 ≤ length boxes) × (i * 3 + 3 ≤ length marks)
    go true p q h = let z = p refl in (omega arith, omega arith)
    go false p q h = let z = q refl in (omega arith, omega arith)

-- ---- one round
-- `walk` answers `done` of the best at its end and `full` at a 65th waiting place, and goes through a leaf by `into`
pub record Rounds {A : Type 0} (r : Ray) (node : ℕ → Node) (places : ℕ) (order : List ℕ) (done : Nearest → A) (full : A) (into : List ℕ → Nearest → (Nearest → A) → A)
    (walk : ℕ → List ℕ → Nearest → A) : Type 0 where
  pub over : (w : List ℕ) (b : Nearest) → walk zero w b ≡ done b
  pub none : (k : ℕ) (b : Nearest) → walk k [] b ≡ done b
  pub step : (k i : ℕ) (w : List ℕ) (b : Nearest) (c : Children) → c ≡ children_of (node i).first (backward r (node i).axis) → walk (suc k) (i ∷ w) b
      ≡ cond (ltb i places)
      (cond (skips (box_test (node i).bx r) b.hit.t) (walk k w b)
      (cond (is_leaf (node i)) (into (leaf_entries order (node i)) b (walk k w))
      (cond (ltb 64 (length w + 2)) full (walk k (c.near ∷ c.far ∷ w) b))))
      (walk k w b)

module _ {A : Type 0} {r : Ray} {node : ℕ → Node} {places : ℕ} {order : List ℕ} {done : Nearest → A} {full : A} {into : List ℕ → Nearest → (Nearest → A) → A}
    {walk : ℕ → List ℕ → Nearest → A} (R : Rounds r node places order done full into walk) (k i : ℕ) (w : List ℕ) (b : Nearest) where
  abbrev sides : Children
  sides = children_of (node i).first (backward r (node i).axis)

  pub round-gone : ltb i places ≡ false → walk (suc k) (i ∷ w) b ≡ walk k w b
  round-gone h = R.step k i w b sides refl ∙ rw h

  module _ (h : ltb i places ≡ true) where
    pub round-skip : skips (box_test (node i).bx r) b.hit.t ≡ true → walk (suc k) (i ∷ w) b ≡ walk k w b
    round-skip s = R.step k i w b sides refl ∙ rw (h, s)

    module _ (s : skips (box_test (node i).bx r) b.hit.t ≡ false) where
      pub round-leaf : is_leaf (node i) ≡ true → walk (suc k) (i ∷ w) b ≡ into (leaf_entries order (node i)) b (walk k w)
      round-leaf l = R.step k i w b sides refl ∙ rw (h, s, l)

      module _ (l : is_leaf (node i) ≡ false) where
        pub round-full : ltb 64 (length w + 2) ≡ true → walk (suc k) (i ∷ w) b ≡ full
        round-full f = R.step k i w b sides refl ∙ rw (h, s, l, f)

        pub round-down : ltb 64 (length w + 2) ≡ false → (c : Children) → c ≡ children_of (node i).first (backward r (node i).axis) → walk (suc k) (i ∷ w) b ≡ walk k (c.near ∷ c.far ∷ w) b
        round-down f c e = R.step k i w b c e ∙ rw (h, s, l, f)

-- the rounds that are left of n after i of them, one round on
pub round-left : (n i : ℕ) → n - (i + 1) ≡ n - i - 1
round-left n i = omega arith

-- ---- the loop of the walk, which answers `all`
pub record Walking {A : Type 0} (walk : ℕ → List ℕ → Nearest → A) (all : A) (boxes : List Float) (marks : List ℕ) (many : ℕ) (stack : List ℕ) (sp rounds : ℕ) (best : Nearest) : Type 0 where
  pub every : many ≡ places_of boxes marks
  pub low : sp ≤ 64
  pub broad : length stack ≡ 64
  pub same : walk rounds (piled stack sp) best ≡ all

pub walking_start : {A : Type 0} {walk : ℕ → List ℕ → Nearest → A} {all : A} {boxes : List Float} {marks : List ℕ} {many : ℕ} {stack : List ℕ} {best : Nearest}
    → walk (places_of boxes marks) (0 ∷ []) nothing ≡ all → many ≡ places_of boxes marks → length stack ≡ 64 → get_or stack 0 0 ≡ 0 → best ≡ nothing → Walking walk all boxes marks many stack 1 many best
walking_start {stack} a e l z h = record { every = e; low = omega arith; broad = l; same = rw (e, h, piled-top stack 0 1 (omega arith), z) a }

module _ {A : Type 0} {r : Ray} {boxes : List Float} {marks order : List ℕ} {done : Nearest → A} {full : A} {into : List ℕ → Nearest → (Nearest → A) → A}
    {walk : ℕ → List ℕ → Nearest → A} {all : A} {many : ℕ} {stack : List ℕ} {sp rounds : ℕ} {best : Nearest}
    (R : Rounds r (node_at boxes marks) (places_of boxes marks) order done full into walk) (W : Walking walk all boxes marks many stack sp rounds best) where
  pub walking-empty : sp ≡ 0 → done best ≡ all
  walking-empty e =
      let p : piled stack sp ≡ [] = ap (piled stack) e in
      sym (R.none rounds best) ∙ rw p at W.same

  pub walking-end : rounds ≡ 0 → done best ≡ all
  walking-end e = sym (R.over (piled stack sp) best) ∙ rw e at W.same

  module _ (hr : 0 < rounds) (hs : sp ≡ 0 → ⊥) where
    abbrev N : ℕ → Node
    N = node_at boxes marks

    abbrev i : ℕ
    i = get_or stack (sp - 1) 0

    abbrev st : List ℕ
    st = piled stack (sp - 1)

    abbrev P : ℕ
    P = places_of boxes marks

    opened : walk (suc (rounds - 1)) (i ∷ st) best ≡ all
    opened =
        let er : rounds ≡ suc (rounds - 1) = omega arith in
        let es : sp ≡ suc (sp - 1) = omega arith in
        sym (ap₂ (λ (n : ℕ) (l : List ℕ). walk n l best) er (piled-top stack (sp - 1) sp es)) ∙ W.same

    on : {s : List ℕ} {k : ℕ} {b : Nearest} → k ≤ 64 → length s ≡ 64
        → walk (suc (rounds - 1)) (i ∷ st) best ≡ walk (rounds - 1) (piled s k) b → Walking walk all boxes marks many s k (rounds - 1) b
    on l b e = record { every = W.every; low = l; broad = b; same = sym e ∙ opened }

    -- past a leaf, whose entries give the best d
    pub walking-past : {d : Nearest} → walk (rounds - 1) st d ≡ all → Walking walk all boxes marks many stack (sp - 1) (rounds - 1) d
    walking-past q = record { every = W.every; low = omega (arith, W.low); broad = W.broad; same = q }

    pub walking-gone : many ≤ i → Walking walk all boxes marks many stack (sp - 1) (rounds - 1) best
    walking-gone h = on (omega (arith, W.low)) W.broad (round-gone R (rounds - 1) i st best (le-ltb i P (omega (arith, W.every))))

    module _ (h : i < many) where
      pub walking-box : i * 6 + 6 ≤ length boxes
      walking-box = (places-box boxes marks i (omega (arith, W.every))).0

      pub walking-marks : i * 3 + 3 ≤ length marks
      walking-marks = (places-box boxes marks i (omega (arith, W.every))).1

      there : ltb i P ≡ true
      there = lt-ltb i P (omega (arith, W.every))

      module _ (b : BBox) (skipped : Bool) (eb : b ≡ box_of_row (row 6 i boxes)) (es : skipped ≡ skips (box_test b r) best.hit.t) where
        skip_is : (k : Bool) → skipped ≡ k → skips (box_test (N i).bx r) best.hit.t ≡ k
        skip_is k e = rw (← eb) (sym es ∙ e)

        pub walking_skip : skipped ≡ true → Walking walk all boxes marks many stack (sp - 1) (rounds - 1) best
        walking_skip e = on (omega (arith, W.low)) W.broad (round-skip R (rounds - 1) i st best there (skip_is true e))

        module _ (e : skipped ≡ false) (n : Triple) (en : n ≡ triple_of (row 3 i marks)) (lf : Bool) (el : lf ≡ (eqb n.c 0 || ltb 0 n.b)) where
          leaf-is : (k : Bool) → lf ≡ k → is_leaf (N i) ≡ k
          leaf-is k e = sym (ap (λ (m : Triple). eqb m.c 0 || ltb 0 m.b) en) ∙ sym el ∙ e

          module _ (first : ℕ) (ef : first ≡ n.a) where
            -- at a leaf: what is left is to go through its entries, and on from there
            pub walking-into : (count : ℕ) → count ≡ n.b → lf ≡ true → into (take count (drop first order)) best (walk (rounds - 1) st) ≡ all
            walking-into count ec l =
                sym (round-leaf R (rounds - 1) i st best there (skip_is false e) (leaf-is true l) ∙ rw (ef, ec, en)) ∙ opened

            module _ (l : lf ≡ false) where
              pub walking-full : 62 < sp - 1 → full ≡ all
              walking-full f =
                  sym (round-full R (rounds - 1) i st best there (skip_is false e) (leaf-is false l) (lt-ltb 64 (length st + 2) (omega (arith, length-piled stack (sp - 1))))) ∙ opened

              module _ (f : sp - 1 ≤ 62) (back : Bool) (ew : back ≡ backward r n.c) (c : Children) (ec : c ≡ children_of first back) where
                room : ltb 64 (length st + 2) ≡ false
                room = le-ltb 64 (length st + 2) (omega (arith, length-piled stack (sp - 1)))

                pub walking-down : Walking walk all boxes marks many (set (set stack (sp - 1) c.far) (sp - 1 + 1) c.near) (sp - 1 + 2) (rounds - 1) best
                walking-down = on (omega arith) (simp length-set W.broad)
                    (round-down R (rounds - 1) i st best there (skip_is false e) (leaf-is false l) room c (ec ∙ rw (ef, ew, en))
                    ∙ rw (piled-push stack (sp - 1) c.far c.near (omega (arith, W.broad))))
