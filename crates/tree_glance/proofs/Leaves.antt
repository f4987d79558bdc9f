-- What a walk answers by the leaves alone: it meets no refusal on a tree that is shallow and whose entries answer (visit-answered); it falls short of a distance where a leaf that passes the
-- test, entered before it, has an entry that does (leaf-falls-short); and it does not where no leaf that it can come to has one (clear-reaches). Assumes nothing.
use mathlib.Core.Path.{◌≡◌, refl, subst}
use mathlib.Core.Logic.{◌⊎◌, inl, inr}
use mathlib.Core.List.{List, [], ◌∷◌}
use mathlib.Core.Bool.{Bool, true, false, not, cond, ◌&&◌, ◌||◌}
use Prim.Native.Nat.{ℕ, zero, suc, ◌+◌, ◌≤◌}
use native.Mathlib.Omega.{arith}
use lib.Dec.{T, ltb, ltb→lt}
use lib.Ieee.{Float, lt, le}
use Rattle.floats.specs.Arith.{zero_f}
use Rattle.floats.specs.Numbers.{number}
use Rattle.floats.proofs.Order.{le_refl, le_lt_trans, le-number-l, lt-number-l}
use Rattle.geometry.specs.Boxes.{box_test, passes, skips}
use Rattle.geometry.specs.Limits.{Sound, Inside, Usable}
use Rattle.geometry.specs.declared.ray.Ray.{Ray}
use Rattle.geometry.specs.declared.hit.Hit.{Hit}
use Rattle.geometry.specs.declared.bounding_box.BBox.{BBox}
use Rattle.geometry.proofs.Nested.{box-holds, holds-skips, inside-refl, inside-trans}
use Rattle.lists.specs.Lists.{Member}
use Rattle.tree_nodes.specs.Trees.{Tree, leaf, split}
use Rattle.refusals.specs.declared.Refusal.TheVariants.{Waiting}
use Rattle.tree_walk.specs.declared.Nearest.{Nearest}
use Rattle.tree_walk.specs.Walks.{nearer, tried, onward, scan, backward, visit}
use Rattle.tree_walk.proofs.Visits.{refused≢best, best-same, onward-found, scan-hit, visit-le}
use Rattle.tree_trust.specs.Trust.{Shallow, tree_box, Nests}
use Rattle.tree_glance.specs.Glances.{LeafIn}
use Rattle.std.specs.Prelude.{Err, Ok, Result}
use Rattle.refusals.specs.declared.Refusal.{Refusal}

abbrev pub Found-best : Result Nearest Refusal → Type 0
Found-best f = (b : Nearest) × (f ≡ Ok b)

onward-best : (f : Result Nearest Refusal) (k : Nearest → Result Nearest Refusal) → Found-best f → ((b : Nearest) → Found-best (k b)) → Found-best (onward f k)
onward-best f k p q = rw p.1 (q p.0)

-- what is not passed by for another reason passes
not-skipped : (a b c : Bool) → T (not (a || b || c)) → T (not a && not b)
not-skipped true b c h = absurd h
not-skipped false true c h = absurd h
not-skipped false false c h = tt

module _ (hit : ℕ → Result Hit Refusal) (r : Ray) where
  tried-best : (i : ℕ) (h : Hit) (best : Nearest) → hit i ≡ Ok h → tried i (hit i) best ≡ Ok (nearer i h best)
  unfolding tried
  tried-best i h best e = rw e refl

  scan-best : (is : List ℕ) → ((i : ℕ) → Member i is → (h : Hit) × (hit i ≡ Ok h)) → (best : Nearest) → Found-best (scan hit is best)
  unfolding scan
  scan-best [] A best = (best, refl)
  scan-best (i ∷ is) A best =
      onward-best (tried i (hit i) best) (scan hit is) (nearer i (A i (inl refl)).0 best, tried-best i (A i (inl refl)).0 best (A i (inl refl)).1)
      (scan-best is (λ (j : ℕ) (m : Member j is). A j (inr m)))

  no-wait : (n w : ℕ) → suc n + w ≤ 62 → (k : Bool) → (T k → T (ltb 64 (w + 2))) → T k → ⊥
  no-wait n w b k K h = omega (arith, ltb→lt 64 (w + 2) (K h), b)

  -- each entry of a leaf answers, unless its box or one above it fails the test
  abbrev pub Answering : Tree ℕ → Type 0
  Answering (leaf c a is) = T (passes (box_test c r)) → (i : ℕ) → Member i is → (h : Hit) × (hit i ≡ Ok h)
  Answering (split c a x y) = T (passes (box_test c r)) → Answering x × Answering y

  -- no refusal
  pub visit-answered : (n w : ℕ) → n + w ≤ 62 → (x : Tree ℕ) → Shallow n x → Answering x → (best : Nearest) → Found-best (visit hit r x w best)
  unfolding visit
  visit-answered n w b (leaf c a is) l A best = go (skips (box_test c r) best.hit.t) (λ z. z)
    where
      go : (k : Bool) → (T (not k) → T (not (skips (box_test c r) best.hit.t))) → Found-best (cond k (Ok best) (scan hit is best))
      go true K = (best, refl)
      go false K = scan-best is (A (not-skipped (lt (box_test c r).tmax (box_test c r).tmin) (le (box_test c r).tmax zero_f) (le best.hit.t (box_test c r).tmin) (K tt))) best
  visit-answered zero w b (split c a x y) l A best = absurd l
  visit-answered (suc n) w b (split c a x y) l A best =
      go (λ (p : T (passes (box_test c r))) (v : ℕ) (h : n + v ≤ 62). visit-answered n v h x l.0 (A p).0) (λ (p : T (passes (box_test c r))) (v : ℕ) (h : n + v ≤ 62). visit-answered n v h y l.1 (A p).1)
      (skips (box_test c r) best.hit.t) (λ z. z) (ltb 64 (w + 2)) (λ z. z) (backward r a)
    where
      passing : T (not (skips (box_test c r) best.hit.t)) → T (passes (box_test c r))
      passing = not-skipped (lt (box_test c r).tmax (box_test c r).tmin) (le (box_test c r).tmax zero_f) (le best.hit.t (box_test c r).tmin)

      go : (T (passes (box_test c r)) → (v : ℕ) → n + v ≤ 62 → (d : Nearest) → Found-best (visit hit r x v d)) → (T (passes (box_test c r)) → (v : ℕ) → n + v ≤ 62 → (d : Nearest) → Found-best (visit hit r y v d))
          → (k : Bool) → (T (not k) → T (not (skips (box_test c r) best.hit.t))) → (j : Bool) → (T j → T (ltb 64 (w + 2))) → (i : Bool) → Found-best (cond k (Ok best) (cond j (Err Waiting) (cond i
          (onward (visit hit r y (w + 1) best) (visit hit r x w)) (onward (visit hit r x (w + 1) best) (visit hit r y w)))))
      go X Y true S j K i = (best, refl)
      go X Y false S true K i = absurd (no-wait n w b true K tt)
      go X Y false S false K true = let p = passing (S tt) in onward-best (visit hit r y (w + 1) best) (visit hit r x w) (Y p (w + 1) (omega (arith, b)) best) (X p w (omega (arith, b)))
      go X Y false S false K false = let p = passing (S tt) in onward-best (visit hit r x (w + 1) best) (visit hit r y w) (X p (w + 1) (omega (arith, b)) best) (Y p w (omega (arith, b)))

-- ---- a leaf's box lies in each box above it
pub leaf-inside : (c : BBox) (s : ℕ) (x : Tree ℕ) → Nests x → LeafIn c s x → Inside c (tree_box x)
leaf-inside c s (leaf o a is) N L = subst (λ (b : BBox). Inside b o) L.0 (inside-refl o N)
leaf-inside c s (split o a x y) N (inl L) = inside-trans c (tree_box x) o (leaf-inside c s x N.one L) N.one_in
leaf-inside c s (split o a x y) N (inr L) = inside-trans c (tree_box y) o (leaf-inside c s y N.two L) N.two_in

pub leaf-sound : (c : BBox) (s : ℕ) (x : Tree ℕ) → Nests x → LeafIn c s x → Sound c
leaf-sound c s (leaf o a is) N L = subst Sound L.0 N
leaf-sound c s (split o a x y) N (inl L) = leaf-sound c s x N.one L
leaf-sound c s (split o a x y) N (inr L) = leaf-sound c s y N.two L

-- ---- a leaf that passes, is entered before the distance and holds an entry that falls short of it
module _ (hit : ℕ → Result Hit Refusal) (r : Ray) (u : Usable r) (c : BBox) (p : T (passes (box_test c r))) (distance : Float) (e : T (lt (box_test c r).tmin distance))
    (s : ℕ) (d : Hit) (D : hit s ≡ Ok d) (short : T (lt d.t distance)) where
  skipped : (o : BBox) (best : Nearest) → Sound c → Sound o → Inside c o → T (skips (box_test o r) best.hit.t) → T (lt best.hit.t distance)
  skipped o best C O i k =
      le_lt_trans best.hit.t (box_test c r).tmin distance
      (holds-skips (box_test o r) (box_test c r) (box-holds c o r C O i u) (box_test c r).tmin best.hit.t p (le_refl (box_test c r).tmin (lt-number-l (box_test c r).tmin distance e)) k) e

  abbrev pub Shortens : Tree ℕ → Type 0
  Shortens x = Nests x → LeafIn c s x → (w : ℕ) (best b : Nearest) → T (number best.hit.t) → visit hit r x w best ≡ Ok b → T (lt b.hit.t distance)

  stays : (best b : Nearest) → ◌≡◌ {A = Result Nearest Refusal} (Ok best) (Ok b) → T (lt best.hit.t distance) → T (lt b.hit.t distance)
  stays best b q l = subst (λ (x : Nearest). T (lt x.hit.t distance)) (best-same q) l

  two-short : (x y : Tree ℕ) → Shortens x → Shortens y → Nests x → Nests y → LeafIn c s x ⊎ LeafIn c s y → (w w' : ℕ) (best b : Nearest) → T (number best.hit.t)
      → onward (visit hit r x w best) (visit hit r y w') ≡ Ok b → T (lt b.hit.t distance)
  two-short x y X Y nx ny h w w' best b N q =
      let z = onward-found (visit hit r x w best) (visit hit r y w') b q in
      let l = visit-le hit r x w best z.0 N z.1 in
      let n = le-number-l z.0.hit.t best.hit.t l in
      elim h [
        | inl i ↦ le_lt_trans b.hit.t z.0.hit.t distance (visit-le hit r y w' z.0 b n z.2) (X nx i w best z.0 N z.1)
        | inr i ↦ Y ny i w' z.0 b n z.2
      ]

  pub leaf-falls-short : (x : Tree ℕ) → Shortens x
  unfolding visit
  leaf-falls-short (leaf o a is) M L w best b N q = go (skips (box_test o r) best.hit.t) (λ z. z) q
    where
      go : (k : Bool) → (T k → T (skips (box_test o r) best.hit.t)) → cond k (Ok best) (scan hit is best) ≡ Ok b → T (lt b.hit.t distance)
      go true K q = stays best b q (skipped o best (leaf-sound c s (leaf o a is) M L) M (leaf-inside c s (leaf o a is) M L) (K tt))
      go false K q = le_lt_trans b.hit.t d.t distance (scan-hit hit s d D (lt-number-l d.t distance short) is best b N L.1 q) short
  leaf-falls-short (split o a x y) M L w best b N q =
      go (leaf-falls-short x) (leaf-falls-short y) (skips (box_test o r) best.hit.t) (ltb 64 (w + 2)) (backward r a) (λ z. z) q
    where
      go : Shortens x → Shortens y → (k j i : Bool) → (T k → T (skips (box_test o r) best.hit.t)) → cond k (Ok best) (cond j (Err Waiting) (cond i
          (onward (visit hit r y (w + 1) best) (visit hit r x w)) (onward (visit hit r x (w + 1) best) (visit hit r y w)))) ≡ Ok b → T (lt b.hit.t distance)
      go X Y true j i K q = stays best b q (skipped o best (leaf-sound c s (split o a x y) M L) M.sound (leaf-inside c s (split o a x y) M L) (K tt))
      go X Y false true i K q = absurd (refused≢best Waiting b q)
      go X Y false false true K q = two-short y x Y X M.two M.one (elim L [ inl m ↦ inr m | inr m ↦ inl m ]) (w + 1) w best b N q
      go X Y false false false K q = two-short x y X Y M.one M.two L (w + 1) w best b N q

module _ (hit : ℕ → Result Hit Refusal) (r : Ray) (distance : Float) where
  abbrev pub Reaching : Nearest → Type 0
  Reaching b = T (not (lt b.hit.t distance))

  nearer-reaching : (i : ℕ) (h : Hit) (best : Nearest) → T (not (lt h.t distance)) → Reaching best → Reaching (nearer i h best)
  unfolding nearer
  nearer-reaching i h best H B = go (lt h.t best.hit.t)
    where
      go : (k : Bool) → Reaching (cond k (record { hit = h; entry = i }) best)
      go true = H
      go false = B

  -- each entry that answers, answers no less than the distance
  abbrev pub Far : List ℕ → Type 0
  Far is = (i : ℕ) → Member i is → (h : Hit) → hit i ≡ Ok h → T (not (lt h.t distance))

  tried-reaching : (i : ℕ) (a : Result Hit Refusal) (best b : Nearest) → ((h : Hit) → a ≡ Ok h → T (not (lt h.t distance))) → Reaching best → tried i a best ≡ Ok b → Reaching b
  unfolding tried
  tried-reaching i (Ok h) best b F B q = subst Reaching (best-same q) (nearer-reaching i h best (F h refl) B)
  tried-reaching i (Err n) best b F B q = absurd (refused≢best n b q)

  scan-reaching : (is : List ℕ) → Far is → (best b : Nearest) → Reaching best → scan hit is best ≡ Ok b → Reaching b
  unfolding scan
  scan-reaching [] F best b B q = subst Reaching (best-same q) B
  scan-reaching (i ∷ is) F best b B q =
      let z = onward-found (tried i (hit i) best) (scan hit is) b q in
      scan-reaching is (λ (j : ℕ) (m : Member j is). F j (inr m)) z.0 b (tried-reaching i (hit i) best z.0 (F i (inl refl)) B z.1) z.2

  -- the entries of each leaf reach the distance, unless its box or one above it fails the test
  abbrev pub Clear : Tree ℕ → Type 0
  Clear (leaf c a is) = T (passes (box_test c r)) → Far is
  Clear (split c a x y) = T (passes (box_test c r)) → Clear x × Clear y

  pub clear-reaches : (x : Tree ℕ) → Clear x → (w : ℕ) (best b : Nearest) → Reaching best → visit hit r x w best ≡ Ok b → Reaching b
  unfolding visit
  clear-reaches (leaf c a is) C w best b B q = go (skips (box_test c r) best.hit.t) (λ z. z) q
    where
      go : (k : Bool) → (T (not k) → T (not (skips (box_test c r) best.hit.t))) → cond k (Ok best) (scan hit is best) ≡ Ok b → Reaching b
      go true K q = subst Reaching (best-same q) B
      go false K q =
          scan-reaching is (C (not-skipped (lt (box_test c r).tmax (box_test c r).tmin) (le (box_test c r).tmax zero_f) (le best.hit.t (box_test c r).tmin) (K tt))) best b B q
  clear-reaches (split c a x y) C w best b B q =
      go (λ (p : T (passes (box_test c r))). clear-reaches x (C p).0) (λ (p : T (passes (box_test c r))). clear-reaches y (C p).1) (skips (box_test c r) best.hit.t) (λ z. z) (ltb 64 (w + 2)) (backward r a) q
    where
      passing : T (not (skips (box_test c r) best.hit.t)) → T (passes (box_test c r))
      passing = not-skipped (lt (box_test c r).tmax (box_test c r).tmin) (le (box_test c r).tmax zero_f) (le best.hit.t (box_test c r).tmin)

      go : (T (passes (box_test c r)) → (v : ℕ) (best b : Nearest) → Reaching best → visit hit r x v best ≡ Ok b → Reaching b) → (T (passes (box_test c r)) → (v : ℕ) (best b : Nearest) → Reaching best → visit hit r y v best ≡ Ok b → Reaching b)
          → (k : Bool) → (T (not k) → T (not (skips (box_test c r) best.hit.t))) → (j i : Bool) → cond k (Ok best) (cond j (Err Waiting) (cond i
          (onward (visit hit r y (w + 1) best) (visit hit r x w)) (onward (visit hit r x (w + 1) best) (visit hit r y w)))) ≡ Ok b → Reaching b
      go X Y true K j i q = subst Reaching (best-same q) B
      go X Y false K true i q = absurd (refused≢best Waiting b q)
      go X Y false K false true q =
          let z = onward-found (visit hit r y (w + 1) best) (visit hit r x w) b q in X (passing (K tt)) w z.0 b (Y (passing (K tt)) (w + 1) best z.0 B z.1) z.2
      go X Y false K false false q =
          let z = onward-found (visit hit r x (w + 1) best) (visit hit r y w) b q in Y (passing (K tt)) w z.0 b (X (passing (K tt)) (w + 1) best z.0 B z.1) z.2
