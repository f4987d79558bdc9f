-- The eye test by the walk that stops, against `sees`: the proofs, and the ways through it.
use mathlib.Core.Path.{◌≡◌, refl, sym, ap, ◌∙◌}
use mathlib.Core.Bool.{Bool, true, false, cond}
use mathlib.Core.List.{List, [], ◌∷◌}
use Prim.Native.Nat.{ℕ, zero, suc, ◌+◌}
use native.Mathlib.Omega.{arith}
use lib.ListN.{length}
use lib.Dec.{T, ltb}
use lib.Ieee.{Float, eq, lt, le}
use Rattle.floats.specs.Arith.{zero_f}
use Rattle.floats.proofs.Order.{le-not-gt}
use Rattle.geometry.specs.Boxes.{box_test, skips}
use Rattle.geometry.specs.Rays.{ray_of}
use Rattle.geometry.specs.Vectors.{sub_v, div_scalar, length_of, distance_of}
use Rattle.geometry.specs.declared.hit.Hit.{Hit}
use Rattle.geometry.specs.declared.ray.Ray.{Ray}
use Rattle.geometry.specs.declared.vector.Vector.{Vector}
use Rattle.geometry.proofs.Lengths.{distance-le}
use Rattle.tree_nodes.specs.Nodes.{node_at, places_of, is_leaf}
use Rattle.tree_nodes.specs.declared.Node.{Node}
use Rattle.tree_walk.specs.Walks.{nothing, nearer, leaf_entries}
use Rattle.tree_walk.specs.declared.Nearest.{Nearest}
use Rattle.tree_sight.specs.Sights.{eye_ray, by_distance, sees}
use Rattle.tree_sight.specs.declared.Sight.{Sight}
use Rattle.tree_sight.specs.declared.Sight.TheVariants.{Visible, Hidden}
use Rattle.tree_cover.specs.Seeking.{sought_on, scan_to, go_on, seek_on, seek_rows, by_sought, covered_by}
use Rattle.tree_cover.specs.Agreeing.{Agrees, SameOrHidden, CoveredAgrees, NoOnlyIfShort, or_covered, or_hidden, CoveredEnds}
use Rattle.refusals.specs.declared.Refusal.{Refusal}
use Rattle.tree_cover.specs.declared.Sought.{Sought}
use Rattle.tree_cover.specs.declared.Sought.TheVariants.{Open, Covered}
use Rattle.tree_cover.proofs.Agreeing.{seek-agrees, ends-at-the-first}
use Rattle.std.specs.Prelude.{Err, Ok, Result}

-- ---- the same answer, or no
sight-agrees : (far : Float) (s : Result Sought Refusal) (f : Result Nearest Refusal) → Agrees far s f → SameOrHidden (by_sought s) (by_distance f far)
unfolding by_sought by_distance
sight-agrees far (Ok (Open b)) f a = ap (λ (x : Result Nearest Refusal). by_distance x far) a.0 ∙ go (le far b.hit.t) a.1
  where
    go : (t : Bool) → T t → ◌≡◌ {A = Result Sight Refusal} (cond t (Ok Visible) (Ok Hidden)) (Ok Visible)
    go true h = refl
    go false h = absurd h
sight-agrees far (Ok Covered) (Ok b) a = go (le far b.hit.t) (λ h. le-not-gt far b.hit.t h a)
  where
    go : (t : Bool) → (T t → ⊥) → SameOrHidden (Ok Hidden) (cond t (Ok Visible) (Ok Hidden))
    go true h = h tt
    go false h = tt
sight-agrees far (Ok Covered) (Err n) a = tt
sight-agrees far (Err n) f a = ap (λ (x : Result Nearest Refusal). by_distance x far) a

pub covered-agrees : CoveredAgrees
unfolding covered_by sees
covered-agrees hits boxes marks order eye point E P =
    go (eq (distance_of eye point) zero_f) _ _
    (sight-agrees (distance_of eye point) _ _ (seek-agrees (distance_of eye point) (hits (eye_ray eye point)) (eye_ray eye point) boxes marks order (distance-le eye point E P)))
  where
    go : (t : Bool) (a b : Result Sight Refusal) → SameOrHidden a b → SameOrHidden (cond t (Ok Visible) a) (cond t (Ok Visible) b)
    go true a b h = refl
    go false a b h = h

-- ---- where it ends
sight_ends : (k : Refusal) (far : Float) (s : Result Sought Refusal) (f g : Result Nearest Refusal) → Agrees far s f → or_covered k s ≡ g → or_hidden k (by_sought s) ≡ by_distance g far
unfolding by_sought by_distance or_covered or_hidden
sight_ends k far (Ok (Open b)) f g a e = sym (go (le far b.hit.t) a.1) ∙ ap (λ (x : Result Nearest Refusal). by_distance x far) e
  where
    go : (t : Bool) → T t → ◌≡◌ {A = Result Sight Refusal} (cond t (Ok Visible) (Ok Hidden)) (Ok Visible)
    go true h = refl
    go false h = absurd h
sight_ends k far (Ok Covered) f g a e = ap (λ (x : Result Nearest Refusal). by_distance x far) e
sight_ends k far (Err n) f g a e = ap (λ (x : Result Nearest Refusal). by_distance x far) e

pub covered-ends : CoveredEnds
unfolding covered_by sees or_hidden
covered-ends k hits boxes marks order eye point E P =
    let d = distance_of eye point in
    let r = eye_ray eye point in
    go (eq d zero_f) _ _ (sight_ends k d _ _ _ (seek-agrees d (hits r) r boxes marks order (distance-le eye point E P)) (ends-at-the-first k d (hits r) r boxes marks order))
  where
    go : (t : Bool) (a b : Result Sight Refusal) → or_hidden k a ≡ b → or_hidden k (cond t (Ok Visible) a) ≡ cond t (Ok Visible) b
    go true a b h = refl
    go false a b h = h

-- ---- no only where a solid falls short
module _ (far : Float) (hit : ℕ → Result Hit Refusal) where
  -- where it is covered, a solid falls short
  abbrev Shown : Result Sought Refusal → Type 0
  Shown (Ok (Open b)) = Unit
  Shown (Ok Covered) = (i : ℕ) × (h : Hit) × (hit i ≡ Ok h) × T (lt h.t far)
  Shown (Err n) = Unit

  on-shown : (i : ℕ) (a : Result Hit Refusal) → hit i ≡ a → (b : Nearest) (g : Nearest → Result Sought Refusal) → ((c : Nearest) → Shown (g c)) → Shown (sought_on far i a b g)
  unfolding sought_on
  on-shown i (Err n) e b g k = tt
  on-shown i (Ok h) e b g k = go (lt h.t far) (λ z. z)
    where
      go : (t : Bool) → (T t → T (lt h.t far)) → Shown (cond t (Ok Covered) (g (nearer i h b)))
      go true s = (i, h, e, s tt)
      go false s = k (nearer i h b)

  scan-shown : (is : List ℕ) (b : Nearest) → Shown (scan_to far hit is b)
  unfolding scan_to
  scan-shown [] b = tt
  scan-shown (i ∷ is) b = on-shown i (hit i) refl b (scan_to far hit is) (scan-shown is)

  go-shown : (s : Result Sought Refusal) (g : Nearest → Result Sought Refusal) → Shown s → ((b : Nearest) → Shown (g b)) → Shown (go_on s g)
  go-shown (Ok (Open b)) g h k = k b
  go-shown (Ok Covered) g h k = h
  go-shown (Err n) g h k = tt

  cond-shown : (t : Bool) (x y : Result Sought Refusal) → Shown x → Shown y → Shown (cond t x y)
  cond-shown true x y g h = g
  cond-shown false x y g h = h

  module _ (r : Ray) (node : ℕ → Node) (places : ℕ) (order : List ℕ) where
    walk-shown : (n : ℕ) (w : List ℕ) (b : Nearest) → Shown (seek_on far hit r node places order n w b)
    unfolding seek_on
    walk-shown zero w b = tt
    walk-shown (suc n) [] b = tt
    walk-shown (suc n) (i ∷ w) b =
        let p = walk-shown n w b in
        cond-shown (ltb i places) _ _
        (cond-shown (skips (box_test (node i).bx r) b.hit.t) _ _ p
        (cond-shown (is_leaf (node i)) _ _ (go-shown (scan_to far hit (leaf_entries order (node i)) b) (seek_on far hit r node places order n w) (scan-shown (leaf_entries order (node i)) b) (walk-shown n w))
        (cond-shown (ltb 64 (length w + 2)) _ _ tt (walk-shown n _ b))))
        p

  rows-shown : (r : Ray) (boxes : List Float) (marks order : List ℕ) → Shown (seek_rows far hit r boxes marks order)
  unfolding seek_rows
  rows-shown r boxes marks order = walk-shown r (node_at boxes marks) (places_of boxes marks) order (places_of boxes marks) (0 ∷ []) nothing

abbrev is_no : Result Sight Refusal → ℕ
is_no (Ok Visible) = 0
is_no (Ok Hidden) = 1
is_no (Err k) = 0

pub no-only-if-short : NoOnlyIfShort
unfolding covered_by by_sought
no-only-if-short hits boxes marks order eye point e =
    go (eq (distance_of eye point) zero_f) (seek_rows (distance_of eye point) (hits (eye_ray eye point)) (eye_ray eye point) boxes marks order)
    (rows-shown (distance_of eye point) (hits (eye_ray eye point)) (eye_ray eye point) boxes marks order) e
  where
    go : (t : Bool) (s : Result Sought Refusal) → Shown (distance_of eye point) (hits (eye_ray eye point)) s → cond t (Ok Visible) (by_sought s) ≡ Ok Hidden
        → (i : ℕ) × (h : Hit) × (hits (eye_ray eye point) i ≡ Ok h) × T (lt h.t (distance_of eye point))
    go true s h e = absurd (let z : is_no (Ok Visible) ≡ is_no (Ok Hidden) = ap is_no e in omega (arith, z))
    go false (Ok (Open b)) h e = absurd (let z : is_no (Ok Visible) ≡ is_no (Ok Hidden) = ap is_no e in omega (arith, z))
    go false (Ok Covered) h e = h
    go false (Err n) h e = absurd (let z : is_no (Err n) ≡ is_no (Ok Hidden) = ap is_no e in omega (arith, z))

-- ---- the ways through `covered`
module _ (seek : Float → Ray → Result Sought Refusal) (eye point v : Vector) (d : Float) (ev : v ≡ sub_v eye point) (ed : d ≡ length_of v) where
  away : d ≡ distance_of eye point
  unfolding distance_of
  away = ed ∙ ap length_of ev

  pub covered-near : eq d zero_f ≡ true → Ok Visible ≡ covered_by seek eye point
  unfolding covered_by
  covered-near z = rw (sym (ap (λ (x : Float). eq x zero_f) away) ∙ z)

  pub covered-far : eq d zero_f ≡ false → (q : Vector) → q ≡ div_scalar v d → (r : Ray) → r ≡ ray_of point q → (a : Result Sought Refusal) → a ≡ seek d r → (s : Result Sight Refusal) → s ≡ by_sought a
      → s ≡ covered_by seek eye point
  unfolding covered_by eye_ray
  covered-far z q eq' r er a ea s es =
      let z' : eq (distance_of eye point) zero_f ≡ false = sym (ap (λ (x : Float). eq x zero_f) away) ∙ z in
      rw (es, ea, er, eq', ev, away, z')
