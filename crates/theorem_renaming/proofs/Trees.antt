-- The tree of solids and the walk of it hang on the solids alone, not on the numbers that name them. Assumes nothing.
use Prim.Native.Nat.{ℕ, zero, suc, ◌+◌, ◌-◌, ◌/◌}
use mathlib.Core.Path.{◌≡◌, refl, sym, ap, ap₂, ◌∙◌, fun_ext, subst}
use native.Mathlib.Omega.{arith}
use mathlib.Core.Bool.{Bool, true, false, cond}
use mathlib.Core.List.{List, [], ◌∷◌, ◌++◌, map}
use lib.Dec.{leb, ltb, eqb}
use lib.ListN.{length, take, drop, length-map}
use lib.Ieee.{Float, lt}
use Rattle.geometry.specs.Boxes.{box_test, skips, extend_box}
use Rattle.geometry.specs.declared.bounding_box.BBox.{BBox}
use Rattle.geometry.specs.declared.ray.Ray.{Ray}
use Rattle.geometry.specs.declared.hit.Hit.{Hit}
use Rattle.refusals.specs.declared.Refusal.{Refusal}
use Rattle.refusals.specs.declared.Refusal.TheVariants.{Waiting}
use Rattle.tree_nodes.specs.Trees.{Tree, leaf, split, leaves, below_root, root_of, below_of, layout}
use Rattle.tree_nodes.specs.Members.{hull}
use Rattle.tree_nodes.specs.declared.Node.{Node}
use Rattle.tree_sort.specs.Sort.{inserted, sorted}
use Rattle.tree_split.specs.Build.{hull_of, hull_back, middle_box, axis_of, by_middle, cost_by, area_of, cost_of, better_of, best_upto, plan_axis, arranged, leaf_wins, split_by, plan_of, tree_of, tree_for, nodes_for}
use Rattle.tree_split.specs.declared.BestSplit.{BestSplit}
use Rattle.tree_split.specs.declared.Plan.{Plan}
use Rattle.tree_walk.specs.Walks.{nearer, tried, onward, scan, backward, visit}
use Rattle.tree_walk.specs.declared.Nearest.{Nearest}
use Rattle.std.specs.Prelude.{Err, Ok, Result}

-- the hit that was found
unfoldable pub struck_by : Result Nearest Refusal → Result Hit Refusal
struck_by (Ok a) = Ok a.hit
struck_by (Err k) = Err k

unfoldable pub renamed : (ℕ → ℕ) → Tree ℕ → Tree ℕ
renamed f (leaf b a is) = leaf b a (map f is)
renamed f (split b a u v) = split b a (renamed f u) (renamed f v)

unfoldable shaped : Plan → List ℕ → (List ℕ → Tree ℕ) → Tree ℕ
shaped p l g = elim (eqb p.at 0) [ true ↦ leaf p.bx p.axis l | false ↦ split p.bx p.axis (g (take p.at l)) (g (drop p.at l)) ]

leaf-shape : (box : ℕ → BBox) (ids : List ℕ) → tree_of 0 box ids ≡ leaf (plan_of box ids).bx (plan_of box ids).axis (arranged box ids)
unfolding tree_of
leaf-shape box ids = refl

tree_shape : (k : ℕ) (box : ℕ → BBox) (ids : List ℕ) → tree_of (suc k) box ids ≡ shaped (plan_of box ids) (arranged box ids) (tree_of k box)
unfolding tree_of shaped
tree_shape k box ids = refl

differ : true ≡ false → ⊥
differ e = let z : ◌≡◌ {A = ℕ} 1 0 = ap (λ (b : Bool). cond b 1 0) e in omega (arith, z)

apart : {h : Hit} {k : Refusal} → Ok h ≡ Err k → ⊥
apart e = let z : ◌≡◌ {A = ℕ} 0 1 = cc in omega arith

module _ (f : ℕ → ℕ) where
  take-map : (n : ℕ) (xs : List ℕ) → take n (map f xs) ≡ map f (take n xs)
  take-map zero xs = refl
  take-map (suc n) [] = refl
  take-map (suc n) (x ∷ xs) = ap (λ (l : List ℕ). f x ∷ l) (take-map n xs)

  drop-map : (n : ℕ) (xs : List ℕ) → drop n (map f xs) ≡ map f (drop n xs)
  drop-map zero xs = refl
  drop-map (suc n) [] = refl
  drop-map (suc n) (x ∷ xs) = drop-map n xs

  map-append : (xs ys : List ℕ) → map f (xs ++ ys) ≡ map f xs ++ map f ys
  map-append [] ys = refl
  map-append (x ∷ xs) ys = ap (λ (l : List ℕ). f x ∷ l) (map-append xs ys)

  -- ---- the sort
  inserted-map : (less : ℕ → ℕ → Bool) (x : ℕ) (ys : List ℕ) → inserted less (f x) (map f ys) ≡ map f (inserted (λ a b. less (f a) (f b)) x ys)
  unfolding inserted
  inserted-map less x [] = refl
  inserted-map less x (y ∷ ys) = by (less (f y) (f x)) (inserted-map less x ys)
    where
      by : (t : Bool) → inserted less (f x) (map f ys) ≡ map f (inserted (λ a b. less (f a) (f b)) x ys)
          → cond t (f y ∷ inserted less (f x) (map f ys)) (f x ∷ f y ∷ map f ys) ≡ map f (cond t (y ∷ inserted (λ a b. less (f a) (f b)) x ys) (x ∷ y ∷ ys))
      by true e = ap (λ (l : List ℕ). f y ∷ l) e
      by false e = refl

  sorted-map : (less : ℕ → ℕ → Bool) (xs : List ℕ) → sorted less (map f xs) ≡ map f (sorted (λ a b. less (f a) (f b)) xs)
  unfolding sorted
  sorted-map less [] = refl
  sorted-map less (x ∷ xs) = rw (sorted-map less xs) (inserted-map less x (sorted (λ a b. less (f a) (f b)) xs))

  -- ---- the build
  module _ (box : ℕ → BBox) where
    abbrev own : ℕ → BBox
    own i = box (f i)

    hull-map : (b : BBox) (ids : List ℕ) → hull box b (map f ids) ≡ hull own b ids
    unfolding hull
    hull-map b [] = refl
    hull-map b (i ∷ ids) = hull-map (extend_box b (own i)) ids

    hulls-map : (ids : List ℕ) → hull_of box (map f ids) ≡ hull_of own ids
    unfolding hull_of
    hulls-map [] = refl
    hulls-map (i ∷ ids) = hull-map (own i) ids

    back-map : (ids : List ℕ) → hull_back box (map f ids) ≡ hull_back own ids
    unfolding hull_back
    back-map [] = refl
    back-map (i ∷ []) = refl
    back-map (i ∷ j ∷ ids) = ap (λ (b : BBox). extend_box b (own i)) (back-map (j ∷ ids))

    cost-map : (ids : List ℕ) (i : ℕ) → cost_of box (map f ids) i ≡ cost_of own ids i
    unfolding cost_of
    cost-map ids i = rw (take-map i ids, drop-map i ids, hulls-map (take i ids), back-map (drop i ids), length-map ids f)

    best-map : (ids : List ℕ) (k : ℕ) → best_upto box (map f ids) k ≡ best_upto own ids k
    unfolding best_upto
    best-map ids zero = rw (length-map ids f)
    best-map ids (suc k) = rw (best-map ids k, cost-map ids (suc k))

  module _ (box : ℕ → BBox) where
    axis-map : (ids : List ℕ) → plan_axis box (map f ids) ≡ plan_axis (own box) ids
    unfolding plan_axis
    axis-map ids = rw (length-map ids f, hulls-map (λ (i : ℕ). middle_box (box i)) ids)

    arranged-map : (ids : List ℕ) → arranged box (map f ids) ≡ map f (arranged (own box) ids)
    unfolding arranged
    arranged-map ids = rw (length-map ids f, axis-map ids, sorted-map (by_middle box (plan_axis (own box) ids)) ids) (by (leb (length ids) 2) _)
      where
        by : (t : Bool) (l : List ℕ) → cond t (map f ids) (map f l) ≡ map f (cond t ids l)
        by true l = refl
        by false l = refl

    split-map : (bx : BBox) (ids : List ℕ) → split_by box bx (map f ids) ≡ split_by (own box) bx ids
    unfolding split_by
    split-map bx ids = rw (length-map ids f, best-map box ids (length ids - 1))

    plan-map : (ids : List ℕ) → plan_of box (map f ids) ≡ plan_of (own box) ids
    unfolding plan_of
    plan-map ids = rw (hulls-map box ids, axis-map ids, length-map ids f, arranged-map ids, split-map (hull_of (own box) ids) (arranged (own box) ids))

    shaped-map : (p : Plan) (l : List ℕ) (g h : List ℕ → Tree ℕ) → ((m : List ℕ) → g (map f m) ≡ renamed f (h m)) → shaped p (map f l) g ≡ renamed f (shaped p l h)
    unfolding shaped renamed
    shaped-map p l g h e = by (eqb p.at 0)
      where
        by : (t : Bool) → elim t [ true ↦ leaf p.bx p.axis (map f l) | false ↦ split p.bx p.axis (g (take p.at (map f l))) (g (drop p.at (map f l))) ]
            ≡ renamed f (elim t [ true ↦ leaf p.bx p.axis l | false ↦ split p.bx p.axis (h (take p.at l)) (h (drop p.at l)) ])
        by true = refl
        by false = rw (take-map p.at l, drop-map p.at l, e (take p.at l), e (drop p.at l))

    pub tree_map : (k : ℕ) (ids : List ℕ) → tree_of k box (map f ids) ≡ renamed f (tree_of k (own box) ids)
    unfolding renamed
    tree_map zero ids = leaf-shape box (map f ids) ∙ ap₂ (λ (p : Plan) (l : List ℕ). leaf p.bx p.axis l) (plan-map ids) (arranged-map ids) ∙ ap (renamed f) (sym (leaf-shape (own box) ids))
    tree_map (suc k) ids =
        tree_shape k box (map f ids)
        ∙ ap₂ (λ (p : Plan) (l : List ℕ). shaped p l (tree_of k box)) (plan-map ids) (arranged-map ids)
        ∙ shaped-map (plan_of (own box) ids) (arranged (own box) ids) (tree_of k box) (tree_of k (own box)) (λ m. tree_map k m)
        ∙ ap (renamed f) (sym (tree_shape k (own box) ids))

  -- ---- the nodes
  leaves_map : (t : Tree ℕ) → leaves (renamed f t) ≡ map f (leaves t)
  unfolding leaves renamed
  leaves_map (leaf b a is) = refl
  leaves_map (split b a u v) = rw (leaves_map u, leaves_map v) (sym (map-append (leaves u) (leaves v)))

  under-map : (t : Tree ℕ) → below_root (renamed f t) ≡ below_root t
  unfolding below_root renamed
  under-map (leaf b a is) = refl
  under-map (split b a u v) = rw (under-map u, under-map v)

  root-map : (n s : ℕ) (t : Tree ℕ) → root_of n s (renamed f t) ≡ root_of n s t
  unfolding root_of renamed
  root-map n s (leaf b a is) = rw (length-map is f)
  root-map n s (split b a u v) = refl

  count_map : (t : Tree ℕ) → length (leaves (renamed f t)) ≡ length (leaves t)
  count_map t = ap length (leaves_map t) ∙ length-map (leaves t) f

  below-map : (n s : ℕ) (t : Tree ℕ) → below_of n s (renamed f t) ≡ below_of n s t
  unfolding below_of renamed
  below-map n s (leaf b a is) = refl
  below-map n s (split b a u v) =
      rw (under-map u, count_map u, root-map (n + 2) s u, root-map (n + 2 + below_root u) (s + length (leaves u)) v, below-map (n + 2) s u, below-map (n + 2 + below_root u) (s + length (leaves u)) v)

  pub layout-map : (t : Tree ℕ) → layout (renamed f t) ≡ layout t
  unfolding layout
  layout-map t = rw (root-map 1 0 t, below-map 1 0 t)

  -- ---- the walk: the same hit, whatever the names
  abbrev SameHit : Result Nearest Refusal → Result Nearest Refusal → Type 0
  SameHit x y = struck_by x ≡ struck_by y

  nearer-same : (i j : ℕ) (h : Hit) (a b : Nearest) → a.hit ≡ b.hit → (nearer i h a).hit ≡ (nearer j h b).hit
  unfolding nearer
  nearer-same i j h a b e = by (lt h.t a.hit.t) (lt h.t b.hit.t) (ap (λ (x : Hit). lt h.t x.t) e)
    where
      by : (t u : Bool) → t ≡ u → (cond t (record { hit = h; entry = i }) a).hit ≡ (cond u (record { hit = h; entry = j }) b).hit
      by true true g = refl
      by true false g = absurd (differ g)
      by false true g = absurd (differ (sym g))
      by false false g = e

  pub best-same : (a b : Nearest) → a.hit ≡ b.hit → SameHit (Ok a) (Ok b)
  unfolding struck_by
  best-same a b e = ap Ok e

  same-best : (a b : Nearest) → SameHit (Ok a) (Ok b) → a.hit ≡ b.hit
  unfolding struck_by
  same-best a b e = cc

  tried_same : (i j : ℕ) (s : Result Hit Refusal) (a b : Nearest) → a.hit ≡ b.hit → SameHit (tried i s a) (tried j s b)
  unfolding tried
  tried_same i j (Ok h) a b e = best-same (nearer i h a) (nearer j h b) (nearer-same i j h a b e)
  tried_same i j (Err k) a b e = refl

  onward-same : (x y : Result Nearest Refusal) (g h : Nearest → Result Nearest Refusal) → SameHit x y → ((a b : Nearest) → a.hit ≡ b.hit → SameHit (g a) (h b)) → SameHit (onward x g) (onward y h)
  unfolding struck_by
  onward-same (Ok a) (Ok b) g h e k = k a b (same-best a b e)
  onward-same (Ok a) (Err n) g h e k = absurd (apart e)
  onward-same (Err n) (Ok b) g h e k = absurd (apart (sym e))
  onward-same (Err n) (Err m) g h e k = e

  scan-same : (hit : ℕ → Result Hit Refusal) (is : List ℕ) (a b : Nearest) → a.hit ≡ b.hit → SameHit (scan hit (map f is) a) (scan (λ i. hit (f i)) is b)
  unfolding scan
  scan-same hit [] a b e = best-same a b e
  scan-same hit (i ∷ is) a b e = onward-same (tried (f i) (hit (f i)) a) (tried i (hit (f i)) b) (scan hit (map f is)) (scan (λ j. hit (f j)) is) (tried_same (f i) i (hit (f i)) a b e) (λ c d g. scan-same hit is c d g)

  cond_same : (t : Bool) (x y x' y' : Result Nearest Refusal) → SameHit x x' → SameHit y y' → SameHit (cond t x y) (cond t x' y')
  cond_same true x y x' y' g h = g
  cond_same false x y x' y' g h = h

  skip-same : (t u : Bool) (x y x' y' : Result Nearest Refusal) → t ≡ u → SameHit x x' → SameHit y y' → SameHit (cond t x y) (cond u x' y')
  skip-same t u x y x' y' e g h = subst (λ (v : Bool). SameHit (cond t x y) (cond v x' y')) e (cond_same t x y x' y' g h)

  pub visit-same : (hit : ℕ → Result Hit Refusal) (r : Ray) (t : Tree ℕ) (w : ℕ) (a b : Nearest) → a.hit ≡ b.hit → SameHit (visit hit r (renamed f t) w a) (visit (λ i. hit (f i)) r t w b)
  unfolding visit renamed
  visit-same hit r (leaf x n is) w a b e = skip-same _ _ _ _ _ _ (ap (λ (h : Hit). skips (box_test x r) h.t) e) (best-same a b e) (scan-same hit is a b e)
  visit-same hit r (split x n u v) w a b e =
      skip-same _ _ _ _ _ _ (ap (λ (h : Hit). skips (box_test x r) h.t) e) (best-same a b e)
      (cond_same (ltb 64 (w + 2)) _ _ _ _ refl
      (cond_same (backward r n) _ _ _ _
      (onward-same _ _ _ _ (visit-same hit r v (w + 1) a b e) (λ c d g. visit-same hit r u w c d g))
      (onward-same _ _ _ _ (visit-same hit r u (w + 1) a b e) (λ c d g. visit-same hit r v w c d g))))
