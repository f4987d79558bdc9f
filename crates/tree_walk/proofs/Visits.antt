-- What the walk of a tree finds: the best t never grows, it is the t of the entry that is named, and a solid whose own box passes the test and is entered no later
-- than its t is not missed. Each by induction on the tree alone. Assumes nothing.
use mathlib.Core.Path.{◌≡◌, refl, sym, ap, ◌∙◌, subst}
use mathlib.Core.Logic.{◌⊎◌, inl, inr}
use mathlib.Core.List.{List, [], ◌∷◌}
use mathlib.Core.Bool.{Bool, true, false, not, cond}
use Prim.Native.Nat.{ℕ, ◌+◌}
use native.Mathlib.Omega.{arith}
use lib.Dec.{T, ltb}
use lib.Ieee.{lt, le}
use Rattle.floats.specs.Numbers.{number}
use Rattle.floats.proofs.Order.{le_refl, le_trans, le-number-l, le-number-r, lt→le, not-gt→le}
use Rattle.geometry.specs.Boxes.{box_test, passes, skips}
use Rattle.geometry.specs.Limits.{Sound, Inside, Usable}
use Rattle.geometry.specs.declared.ray.Ray.{Ray}
use Rattle.geometry.specs.declared.hit.Hit.{Hit}
use Rattle.geometry.specs.declared.bounding_box.BBox.{BBox}
use Rattle.geometry.proofs.Nested.{box-holds, holds-skips}
use Rattle.tree_nodes.specs.Trees.{Tree, leaf, split}
use Rattle.tree_nodes.specs.Members.{StandsIn, Well}
use Rattle.lists.specs.Lists.{Member}
use Rattle.refusals.specs.declared.Refusal.{Refusal}
use Rattle.refusals.specs.declared.Refusal.TheVariants.{Waiting}
use Rattle.tree_walk.specs.declared.Nearest.{Nearest}
use Rattle.tree_walk.specs.Walks.{nearer, tried, onward, scan, backward, visit}
use Rattle.std.specs.Prelude.{Err, Ok, Result}

-- ---- answers
pub refused≢best : (n : Refusal) (b : Nearest) → Err n ≡ Ok b → ⊥
refused≢best n b e = let z : ◌≡◌ {A = ℕ} 0 1 = cc in omega arith

pub best-same : {a b : Nearest} → ◌≡◌ {A = Result Nearest Refusal} (Ok a) (Ok b) → a ≡ b
best-same e = cc

-- an answer that was found went through both
pub onward-found : (a : Result Nearest Refusal) (k : Nearest → Result Nearest Refusal) (b : Nearest) → onward a k ≡ Ok b → (c : Nearest) × (a ≡ Ok c) × (k c ≡ Ok b)
onward-found (Ok c) k b q = (c, refl, q)
onward-found (Err n) k b q = absurd (refused≢best n b q)

tried-found : (i : ℕ) (a : Result Hit Refusal) (best b : Nearest) → tried i a best ≡ Ok b → (h : Hit) × (a ≡ Ok h) × (b ≡ nearer i h best)
unfolding tried
tried-found i (Ok h) best b q = (h, refl, sym (best-same q))
tried-found i (Err n) best b q = absurd (refused≢best n b q)

-- ---- one solid
nearer-le : (i : ℕ) (h : Hit) (best : Nearest) → T (number best.hit.t) → T (le (nearer i h best).hit.t best.hit.t)
unfolding nearer
nearer-le i h best n = go (lt h.t best.hit.t) (lt→le h.t best.hit.t)
  where
    go : (k : Bool) → (T k → T (le h.t best.hit.t)) → T (le (cond k (record { hit = h; entry = i }) best).hit.t best.hit.t)
    go true l = l tt
    go false l = le_refl best.hit.t n

nearer-hit : (i : ℕ) (h : Hit) (best : Nearest) → T (number best.hit.t) → T (number h.t) → T (le (nearer i h best).hit.t h.t)
unfolding nearer
nearer-hit i h best n m = go (lt h.t best.hit.t) (not-gt→le best.hit.t h.t n m)
  where
    go : (k : Bool) → (T (not k) → T (le best.hit.t h.t)) → T (le (cond k (record { hit = h; entry = i }) best).hit.t h.t)
    go true l = le_refl h.t m
    go false l = l tt

-- ---- the solids of a leaf
module _ (hit : ℕ → Result Hit Refusal) where
  -- the best is the hit of the entry that it names
  abbrev pub Named : Nearest → Type 0
  Named b = hit b.entry ≡ Ok b.hit

  pub scan-le : (is : List ℕ) (best b : Nearest) → T (number best.hit.t) → scan hit is best ≡ Ok b → T (le b.hit.t best.hit.t)
  unfolding scan
  scan-le [] best b n q = subst (λ (x : Nearest). T (le x.hit.t best.hit.t)) (best-same q) (le_refl best.hit.t n)
  scan-le (i ∷ is) best b n q =
      let p = onward-found (tried i (hit i) best) (scan hit is) b q in
      let c = p.0 in
      let o = tried-found i (hit i) best c p.1 in
      let l = subst (λ (x : Nearest). T (le x.hit.t best.hit.t)) (sym o.2) (nearer-le i o.0 best n) in
      le_trans b.hit.t c.hit.t best.hit.t (scan-le is c b (le-number-l c.hit.t best.hit.t l) p.2) l

  pub scan-hit : (s : ℕ) (d : Hit) → hit s ≡ Ok d → T (number d.t) → (is : List ℕ) (best b : Nearest) → T (number best.hit.t) → Member s is → scan hit is best ≡ Ok b
      → T (le b.hit.t d.t)
  unfolding scan
  scan-hit s d D m [] best b n h q = absurd h
  scan-hit s d D m (i ∷ is) best b n h q =
      let p = onward-found (tried i (hit i) best) (scan hit is) b q in
      let c = p.0 in
      let o = tried-found i (hit i) best c p.1 in
      let l = subst (λ (x : Nearest). T (le x.hit.t best.hit.t)) (sym o.2) (nearer-le i o.0 best n) in
      let k = le-number-l c.hit.t best.hit.t l in
      go c o.0 o.1 o.2 (scan-le is c b k p.2) (λ (j : Member s is). scan-hit s d D m is c b k j p.2) h
    where
      go : (c : Nearest) (g : Hit) → hit i ≡ Ok g → c ≡ nearer i g best → T (le b.hit.t c.hit.t) → (Member s is → T (le b.hit.t d.t)) → (i ≡ s) ⊎ Member s is → T (le b.hit.t d.t)
      go c g e f l r (inr j) = r j
      go c g e f l r (inl j) =
          let same : g ≡ d = let x : ◌≡◌ {A = Result Hit Refusal} (Ok g) (Ok d) = sym e ∙ ap hit j ∙ D in cc in
          let z : T (le (nearer i d best).hit.t d.t) = nearer-hit i d best n m in
          le_trans b.hit.t c.hit.t d.t l (subst (λ (x : Nearest). T (le x.hit.t d.t)) (ap (λ (x : Hit). nearer i x best) (sym same) ∙ sym f) z)

  -- what the best is where it is not what it was
  pub scan-from : (is : List ℕ) (best b : Nearest) → scan hit is best ≡ Ok b → (b ≡ best) ⊎ (Member b.entry is × Named b)
  unfolding scan nearer
  scan-from [] best b q = inl (sym (best-same q))
  scan-from (i ∷ is) best b q =
      let p = onward-found (tried i (hit i) best) (scan hit is) b q in
      let o = tried-found i (hit i) best p.0 p.1 in
      go p.0 o.0 o.1 (lt o.0.t best.hit.t) o.2 (scan-from is p.0 b p.2)
    where
      go : (c : Nearest) (g : Hit) → hit i ≡ Ok g → (k : Bool) → c ≡ cond k (record { hit = g; entry = i }) best → (b ≡ c) ⊎ (Member b.entry is × Named b)
          → (b ≡ best) ⊎ (Member b.entry (i ∷ is) × Named b)
      go c g e k f (inr z) = inr (inr z.0, z.1)
      go c g e false f (inl j) = inl (j ∙ f)
      go c g e true f (inl j) =
          let x : b ≡ record { hit = g; entry = i } = j ∙ f in
          inr (inl (sym (ap (λ (y : Nearest). y.entry) x)), ap hit (ap (λ (y : Nearest). y.entry) x) ∙ e ∙ ap Ok (sym (ap (λ (y : Nearest). y.hit) x)))

-- ---- the tree
module _ (hit : ℕ → Result Hit Refusal) (r : Ray) where
  -- the answer of a split, by its three tests
  abbrev pub forked : Bool → Bool → Bool → Tree ℕ → Tree ℕ → ℕ → Nearest → Result Nearest Refusal
  forked k j i x y w best =
      cond k (Ok best)
      (cond j (Err Waiting)
      (cond i
      (onward (visit hit r y (w + 1) best) (visit hit r x w))
      (onward (visit hit r x (w + 1) best) (visit hit r y w))))

  -- the best t never grows
  abbrev pub Falls : Tree ℕ → Type 0
  Falls x = (w : ℕ) (best b : Nearest) → T (number best.hit.t) → visit hit r x w best ≡ Ok b → T (le b.hit.t best.hit.t)

  two-fall : (x y : Tree ℕ) → Falls x → Falls y → (w w' : ℕ) (best b : Nearest) → T (number best.hit.t) → onward (visit hit r x w best) (visit hit r y w') ≡ Ok b
      → T (le b.hit.t best.hit.t)
  two-fall x y X Y w w' best b N q =
      let p = onward-found (visit hit r x w best) (visit hit r y w') b q in
      let h = X w best p.0 N p.1 in
      le_trans b.hit.t p.0.hit.t best.hit.t (Y w' p.0 b (le-number-l p.0.hit.t best.hit.t h) p.2) h

  same : (best b : Nearest) → T (number best.hit.t) → ◌≡◌ {A = Result Nearest Refusal} (Ok best) (Ok b) → T (le b.hit.t best.hit.t)
  same best b N q = subst (λ (x : Nearest). T (le x.hit.t best.hit.t)) (best-same q) (le_refl best.hit.t N)

  pub visit-le : (x : Tree ℕ) → Falls x
  unfolding visit
  visit-le (leaf c a is) w best b N q = go (skips (box_test c r) best.hit.t) q
    where
      go : (k : Bool) → cond k (Ok best) (scan hit is best) ≡ Ok b → T (le b.hit.t best.hit.t)
      go true q = same best b N q
      go false q = scan-le hit is best b N q
  visit-le (split c a x y) w best b N q = go (visit-le x) (visit-le y) (skips (box_test c r) best.hit.t) (ltb 64 (w + 2)) (backward r a) q
    where
      go : Falls x → Falls y → (k j i : Bool) → forked k j i x y w best ≡ Ok b → T (le b.hit.t best.hit.t)
      go X Y true j i q = same best b N q
      go X Y false true i q = absurd (refused≢best Waiting b q)
      go X Y false false true q = two-fall y x Y X (w + 1) w best b N q
      go X Y false false false q = two-fall x y X Y (w + 1) w best b N q

  -- nothing is made up: the best is what it was, or the hit of the entry that it names, which stands in the tree
  abbrev pub From : Tree ℕ → Type 0
  From x = (w : ℕ) (best b : Nearest) → visit hit r x w best ≡ Ok b → (b ≡ best) ⊎ (StandsIn b.entry x × Named hit b)

  abbrev pub Either : Tree ℕ → Tree ℕ → Nearest → Nearest → Type 0
  Either x y best b = (b ≡ best) ⊎ ((StandsIn b.entry x ⊎ StandsIn b.entry y) × Named hit b)

  two_from : (x y : Tree ℕ) → From x → From y → (w w' : ℕ) (best b : Nearest) → onward (visit hit r x w best) (visit hit r y w') ≡ Ok b → Either x y best b
  two_from x y X Y w w' best b q =
      let p = onward-found (visit hit r x w best) (visit hit r y w') b q in
      elim (Y w' p.0 b p.2) [ inl e ↦ next p.0 e (X w best p.0 p.1) | inr z ↦ inr (inr z.0, z.1) ]
    where
      next : (c : Nearest) → b ≡ c → (c ≡ best) ⊎ (StandsIn c.entry x × Named hit c) → Either x y best b
      next c e (inl f) = inl (e ∙ f)
      next c e (inr z) = subst (λ (d : Nearest). Either x y best d) (sym e) (inr (inl z.0, z.1))

  turn : (x y : Tree ℕ) (best b : Nearest) → Either y x best b → Either x y best b
  turn x y best b (inl e) = inl e
  turn x y best b (inr z) = inr (elim z.0 [ inl i ↦ inr i | inr i ↦ inl i ], z.1)

  pub visit-from : (x : Tree ℕ) → From x
  unfolding visit
  visit-from (leaf c a is) w best b q = go (skips (box_test c r) best.hit.t) q
    where
      go : (k : Bool) → cond k (Ok best) (scan hit is best) ≡ Ok b → (b ≡ best) ⊎ (Member b.entry is × Named hit b)
      go true q = inl (sym (best-same q))
      go false q = scan-from hit is best b q
  visit-from (split c a x y) w best b q = go (visit-from x) (visit-from y) (skips (box_test c r) best.hit.t) (ltb 64 (w + 2)) (backward r a) q
    where
      go : From x → From y → (k j i : Bool) → forked k j i x y w best ≡ Ok b → Either x y best b
      go X Y true j i q = inl (sym (best-same q))
      go X Y false true i q = absurd (refused≢best Waiting b q)
      go X Y false false true q = turn x y best b (two_from y x Y X (w + 1) w best b q)
      go X Y false false false q = two_from x y X Y (w + 1) w best b q

  -- a solid whose own box passes and is entered no later than its t is not missed
  module _ (u : Usable r) (box : ℕ → BBox) (s : ℕ) (fine : Sound (box s)) (d : Hit) (D : hit s ≡ Ok d) (p : T (passes (box_test (box s) r))) (e : T (le (box_test (box s) r).tmin d.t)) where
    skipped : (c : BBox) (best : Nearest) → Sound c → Inside (box s) c → T (skips (box_test c r) best.hit.t) → T (le best.hit.t d.t)
    skipped c best C i k = holds-skips (box_test c r) (box_test (box s) r) (box-holds (box s) c r fine C i u) d.t best.hit.t p e k

    abbrev pub Hits : Tree ℕ → Type 0
    Hits x = StandsIn s x → (w : ℕ) (best b : Nearest) → T (number best.hit.t) → visit hit r x w best ≡ Ok b → T (le b.hit.t d.t)

    two-hit : (x y : Tree ℕ) → Hits x → Hits y → StandsIn s x ⊎ StandsIn s y → (w w' : ℕ) (best b : Nearest) → T (number best.hit.t) → onward (visit hit r x w best) (visit hit r y w') ≡ Ok b
        → T (le b.hit.t d.t)
    two-hit x y X Y h w w' best b N q =
        let z = onward-found (visit hit r x w best) (visit hit r y w') b q in
        let l = visit-le x w best z.0 N z.1 in
        let n = le-number-l z.0.hit.t best.hit.t l in
        elim h [
          | inl i ↦ le_trans b.hit.t z.0.hit.t d.t (visit-le y w' z.0 b n z.2) (X i w best z.0 N z.1)
          | inr i ↦ Y i w' z.0 b n z.2
        ]

    stop : (best b : Nearest) → ◌≡◌ {A = Result Nearest Refusal} (Ok best) (Ok b) → T (le best.hit.t d.t) → T (le b.hit.t d.t)
    stop best b q l = subst (λ (x : Nearest). T (le x.hit.t d.t)) (best-same q) l

    pub visit-hits : (x : Tree ℕ) → Well box x → Hits x
    unfolding visit
    visit-hits (leaf c a is) W i w best b N q = go (skips (box_test c r) best.hit.t) (λ z. z) q
      where
        go : (k : Bool) → (T k → T (skips (box_test c r) best.hit.t)) → cond k (Ok best) (scan hit is best) ≡ Ok b → T (le b.hit.t d.t)
        go true K q = stop best b q (skipped c best W.sound (W.holds s i) (K tt))
        go false K q = scan-hit hit s d D (le-number-r (box_test (box s) r).tmin d.t e) is best b N i q
    visit-hits (split c a x y) W i w best b N q = go (visit-hits x W.one) (visit-hits y W.two) (skips (box_test c r) best.hit.t) (ltb 64 (w + 2)) (backward r a) (λ z. z) q
      where
        go : Hits x → Hits y → (k j l : Bool) → (T k → T (skips (box_test c r) best.hit.t)) → forked k j l x y w best ≡ Ok b → T (le b.hit.t d.t)
        go X Y true j l K q = stop best b q (skipped c best W.sound (W.holds s i) (K tt))
        go X Y false true l K q = absurd (refused≢best Waiting b q)
        go X Y false false true K q = two-hit y x Y X (elim i [ inl a ↦ inr a | inr a ↦ inl a ]) (w + 1) w best b N q
        go X Y false false false K q = two-hit x y X Y i (w + 1) w best b N q
