-- The walk that stops against the full walk: the proofs, by induction on the rounds.
use mathlib.Core.Path.{◌≡◌, refl, sym, ap, subst, ◌∙◌}
use mathlib.Core.Bool.{Bool, true, false, cond, not}
use mathlib.Core.List.{List, [], ◌∷◌}
use Prim.Native.Nat.{ℕ, zero, suc, ◌+◌}
use lib.ListN.{length}
use lib.Dec.{T, ltb}
use lib.Ieee.{Float, lt, le}
use Rattle.floats.proofs.Order.{lt-le-trans, lt_trans, lt-number-l, le-number-l, not-gt→le}
use Rattle.geometry.specs.Boxes.{box_test, skips}
use Rattle.geometry.specs.declared.ray.Ray.{Ray}
use Rattle.geometry.specs.declared.hit.Hit.{Hit}
use Rattle.tree_nodes.specs.Nodes.{node_at, places_of, is_leaf}
use Rattle.tree_nodes.specs.declared.Node.{Node}
use Rattle.refusals.specs.declared.Refusal.{Refusal}
use Rattle.refusals.specs.declared.Refusal.TheVariants.{Waiting}
use Rattle.tree_walk.specs.Walks.{nothing, nearer, tried, onward, scan, leaf_entries, walk_on, walk_rows}
use Rattle.tree_walk.specs.declared.Nearest.{Nearest}
use Rattle.tree_cover.specs.Seeking.{sought_on, scan_to, go_on, seek_on, seek_rows}
use Rattle.tree_cover.specs.Agreeing.{or_short, or_covered, EndsAtTheFirst, Agrees, SeekAgrees}
use Rattle.tree_cover.specs.declared.Sought.{Sought}
use Rattle.tree_cover.specs.declared.Sought.TheVariants.{Open, Covered}
use Rattle.std.specs.Prelude.{Err, Ok, Result}

-- ---- which solid is the first
module _ (k : Refusal) (far : Float) (hit : ℕ → Result Hit Refusal) where
  or-on : (i : ℕ) (a : Result Hit Refusal) (b : Nearest) (g : Nearest → Result Sought Refusal) (f : Nearest → Result Nearest Refusal) → ((c : Nearest) → or_covered k (g c) ≡ f c)
      → or_covered k (sought_on far i a b g) ≡ onward (tried i (or_short k far a) b) f
  unfolding sought_on tried or_short or_covered
  or-on i (Err n) b g f e = refl
  or-on i (Ok h) b g f e = go (lt h.t far)
    where
      go : (t : Bool) → or_covered k (cond t (Ok Covered) (g (nearer i h b))) ≡ onward (tried i (cond t (Err k) (Ok h)) b) f
      go true = refl
      go false = e (nearer i h b)

  or-scan : (is : List ℕ) (b : Nearest) → or_covered k (scan_to far hit is b) ≡ scan (λ (i : ℕ). or_short k far (hit i)) is b
  unfolding scan_to scan or_covered
  or-scan [] b = refl
  or-scan (i ∷ is) b = or-on i (hit i) b (scan_to far hit is) (scan (λ (i : ℕ). or_short k far (hit i)) is) (λ (c : Nearest). or-scan is c)

  or-go : (s : Result Sought Refusal) (f : Result Nearest Refusal) (g : Nearest → Result Sought Refusal) (h : Nearest → Result Nearest Refusal) → or_covered k s ≡ f → ((c : Nearest) → or_covered k (g c) ≡ h c) → or_covered k (go_on s g) ≡ onward f h
  unfolding or_covered
  or-go (Ok (Open b)) f g h e u = u b ∙ ap (λ (x : Result Nearest Refusal). onward x h) e
  or-go (Ok Covered) f g h e u = ap (λ (x : Result Nearest Refusal). onward x h) e
  or-go (Err n) f g h e u = ap (λ (x : Result Nearest Refusal). onward x h) e

  module _ (r : Ray) (node : ℕ → Node) (places : ℕ) (order : List ℕ) where
    four : (t u v w : Bool) (past into down : Result Sought Refusal) (past' into' down' : Result Nearest Refusal) → or_covered k past ≡ past' → or_covered k into ≡ into' → or_covered k down ≡ down'
        → or_covered k (cond t (cond u past (cond v into (cond w (Err Waiting) down))) past) ≡ cond t (cond u past' (cond v into' (cond w (Err Waiting) down'))) past'
    unfolding or_covered
    four false u v w past into down past' into' down' p i d = p
    four true true v w past into down past' into' down' p i d = p
    four true false true w past into down past' into' down' p i d = i
    four true false false true past into down past' into' down' p i d = refl
    four true false false false past into down past' into' down' p i d = d

    or-walk : (n : ℕ) (w : List ℕ) (b : Nearest) → or_covered k (seek_on far hit r node places order n w b) ≡ walk_on (λ (i : ℕ). or_short k far (hit i)) r node places order n w b
    unfolding seek_on walk_on or_covered
    or-walk zero w b = refl
    or-walk (suc n) [] b = refl
    or-walk (suc n) (i ∷ w) b =
        four (ltb i places) (skips (box_test (node i).bx r) b.hit.t) (is_leaf (node i)) (ltb 64 (length w + 2)) _ _ _ _ _ _ (or-walk n w b)
        (or-go (scan_to far hit (leaf_entries order (node i)) b) _ _ _ (or-scan (leaf_entries order (node i)) b) (or-walk n w)) (or-walk n _ b)

pub ends-at-the-first : EndsAtTheFirst
unfolding seek_rows walk_rows
ends-at-the-first k far hit r boxes marks order = or-walk k far hit r (node_at boxes marks) (places_of boxes marks) order (places_of boxes marks) (0 ∷ []) nothing

-- ---- a best that falls short stays so
module _ (far : Float) where
  nearer-less : (i : ℕ) (h : Hit) (b : Nearest) → T (lt b.hit.t far) → T (lt (nearer i h b).hit.t far)
  unfolding nearer
  nearer-less i h b l = go (lt h.t b.hit.t) (λ z. z)
    where
      go : (t : Bool) → (T t → T (lt h.t b.hit.t)) → T (lt (cond t (record { hit = h; entry = i }) b).hit.t far)
      go true e = lt_trans h.t b.hit.t far (e tt) l
      go false e = l

  onward-less : (f : Result Nearest Refusal) (g : Nearest → Result Nearest Refusal) → Agrees far (Ok Covered) f → ((b : Nearest) → T (lt b.hit.t far) → Agrees far (Ok Covered) (g b)) → Agrees far (Ok Covered) (onward f g)
  onward-less (Ok b) g l k = k b l
  onward-less (Err n) g l k = tt

  tried-less : (i : ℕ) (s : Result Hit Refusal) (b : Nearest) → T (lt b.hit.t far) → Agrees far (Ok Covered) (tried i s b)
  unfolding tried
  tried-less i (Ok h) b l = nearer-less i h b l
  tried-less i (Err n) b l = tt

  scan-less : (hit : ℕ → Result Hit Refusal) (is : List ℕ) (b : Nearest) → T (lt b.hit.t far) → Agrees far (Ok Covered) (scan hit is b)
  unfolding scan
  scan-less hit [] b l = l
  scan-less hit (i ∷ is) b l = onward-less (tried i (hit i) b) (scan hit is) (tried-less i (hit i) b l) (λ c m. scan-less hit is c m)

  cond-less : (t : Bool) (x y : Result Nearest Refusal) → Agrees far (Ok Covered) x → Agrees far (Ok Covered) y → Agrees far (Ok Covered) (cond t x y)
  cond-less true x y g h = g
  cond-less false x y g h = h

  -- ---- one solid
  past-agrees : (i : ℕ) (h : Hit) (b : Nearest) → T (le far b.hit.t) → T (not (lt h.t far)) → T (le far (nearer i h b).hit.t)
  unfolding nearer
  past-agrees i h b l f = go (lt h.t b.hit.t) (λ z. z)
    where
      go : (t : Bool) → (T t → T (lt h.t b.hit.t)) → T (le far (cond t (record { hit = h; entry = i }) b).hit.t)
      go true e = not-gt→le far h.t (le-number-l far b.hit.t l) (lt-number-l h.t b.hit.t (e tt)) f
      go false e = l

  -- one that falls short is the best then
  less-now : (i : ℕ) (h : Hit) (b : Nearest) → T (le far b.hit.t) → T (lt h.t far) → T (lt (nearer i h b).hit.t far)
  unfolding nearer
  less-now i h b l s = go (lt h.t b.hit.t) (lt-le-trans h.t far b.hit.t s l)
    where
      go : (t : Bool) → T t → T (lt (cond t (record { hit = h; entry = i }) b).hit.t far)
      go true e = s
      go false e = absurd e

  on_agrees : (i : ℕ) (a : Result Hit Refusal) (b : Nearest) (g : Nearest → Result Sought Refusal) (f : Nearest → Result Nearest Refusal) → T (le far b.hit.t)
      → ((c : Nearest) → T (le far c.hit.t) → Agrees far (g c) (f c)) → ((c : Nearest) → T (lt c.hit.t far) → Agrees far (Ok Covered) (f c))
      → Agrees far (sought_on far i a b g) (onward (tried i a b) f)
  unfolding sought_on tried
  on_agrees i (Err n) b g f l k m = refl
  on_agrees i (Ok h) b g f l k m = go (lt h.t far) (λ z. z) (λ z. z)
    where
      go : (t : Bool) → (T t → T (lt h.t far)) → (T (not t) → T (not (lt h.t far))) → Agrees far (cond t (Ok Covered) (g (nearer i h b))) (f (nearer i h b))
      go true e n = m (nearer i h b) (less-now i h b l (e tt))
      go false e n = k (nearer i h b) (past-agrees i h b l (n tt))

  module _ (hit : ℕ → Result Hit Refusal) where
    scan-agrees : (is : List ℕ) (b : Nearest) → T (le far b.hit.t) → Agrees far (scan_to far hit is b) (scan hit is b)
    unfolding scan_to scan
    scan-agrees [] b l = (refl, l)
    scan-agrees (i ∷ is) b l = on_agrees i (hit i) b (scan_to far hit is) (scan hit is) l (λ c m. scan-agrees is c m) (λ c m. scan-less hit is c m)

    go-agrees : (s : Result Sought Refusal) (u : Result Nearest Refusal) (g : Nearest → Result Sought Refusal) (f : Nearest → Result Nearest Refusal) → Agrees far s u → ((b : Nearest) → T (le far b.hit.t) → Agrees far (g b) (f b))
        → ((b : Nearest) → T (lt b.hit.t far) → Agrees far (Ok Covered) (f b)) → Agrees far (go_on s g) (onward u f)
    go-agrees (Ok (Open b)) u g f a k m = subst (λ (x : Result Nearest Refusal). Agrees far (g b) (onward x f)) (sym a.0) (k b a.1)
    go-agrees (Ok Covered) (Ok b) g f a k m = m b a
    go-agrees (Ok Covered) (Err n) g f a k m = tt
    go-agrees (Err n) u g f a k m = subst (λ (x : Result Nearest Refusal). onward x f ≡ Err n) (sym a) refl

    cond-agrees : (t : Bool) (x y : Result Sought Refusal) (u v : Result Nearest Refusal) → Agrees far x u → Agrees far y v → Agrees far (cond t x y) (cond t u v)
    cond-agrees true x y u v g h = g
    cond-agrees false x y u v g h = h

    -- ---- the two walks
    module _ (r : Ray) (node : ℕ → Node) (places : ℕ) (order : List ℕ) where
      walk-less : (n : ℕ) (w : List ℕ) (b : Nearest) → T (lt b.hit.t far) → Agrees far (Ok Covered) (walk_on hit r node places order n w b)
      unfolding walk_on
      walk-less zero w b l = l
      walk-less (suc n) [] b l = l
      walk-less (suc n) (i ∷ w) b l =
          let p = walk-less n w b l in
          cond-less (ltb i places) _ _
          (cond-less (skips (box_test (node i).bx r) b.hit.t) _ _ p
          (cond-less (is_leaf (node i)) _ _
          (onward-less (scan hit (leaf_entries order (node i)) b) (walk_on hit r node places order n w) (scan-less hit (leaf_entries order (node i)) b l) (λ c m. walk-less n w c m))
          (cond-less (ltb 64 (length w + 2)) _ _ tt (walk-less n _ b l))))
          p

      walk-agrees : (n : ℕ) (w : List ℕ) (b : Nearest) → T (le far b.hit.t) → Agrees far (seek_on far hit r node places order n w b) (walk_on hit r node places order n w b)
      unfolding seek_on walk_on
      walk-agrees zero w b l = (refl, l)
      walk-agrees (suc n) [] b l = (refl, l)
      walk-agrees (suc n) (i ∷ w) b l =
          let p = walk-agrees n w b l in
          cond-agrees (ltb i places) _ _ _ _
          (cond-agrees (skips (box_test (node i).bx r) b.hit.t) _ _ _ _ p
          (cond-agrees (is_leaf (node i)) _ _ _ _
          (go-agrees (scan_to far hit (leaf_entries order (node i)) b) (scan hit (leaf_entries order (node i)) b) (seek_on far hit r node places order n w) (walk_on hit r node places order n w)
          (scan-agrees (leaf_entries order (node i)) b l) (λ c m. walk-agrees n w c m) (λ c m. walk-less n w c m))
          (cond-agrees (ltb 64 (length w + 2)) _ _ _ _ refl (walk-agrees n _ b l))))
          p

pub seek-agrees : SeekAgrees
unfolding seek_rows walk_rows
seek-agrees far hit r boxes marks order l = walk-agrees far hit r (node_at boxes marks) (places_of boxes marks) order (places_of boxes marks) (0 ∷ []) nothing l
