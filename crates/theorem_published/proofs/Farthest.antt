-- The scan finds the first farthest vertex, where distances are numbers. Assumes nothing.
use mathlib.Core.Path.{◌≡◌, refl, sym, ap, ◌∙◌, subst}
use mathlib.Core.Logic.{◌⊎◌, inl, inr}
use mathlib.Core.Bool.{Bool, true, false, not, cond}
use mathlib.Core.List.{List, [], ◌∷◌}
use Prim.Native.Nat.{ℕ, zero, suc, ◌+◌, ◌-◌, ◌≤◌, ◌<◌}
use native.Mathlib.Nat.{not-suc-le-zero, le_of_suc-le-suc}
use native.Mathlib.Omega.{arith}
use lib.Dec.{T}
use lib.ListN.{length, take}
use lib.Seq.{slice, length-slice, get_or-take, get_or-drop}
use lib.Ieee.{Float, lt, le, of_bits}
use Rattle.floats.specs.Arith.{zero_f}
use Rattle.floats.specs.Numbers.{number}
use Rattle.floats.proofs.Order.{lt_trans, le_lt_trans, not-gt→le}
use Rattle.geometry.specs.Vectors.{segment_distance}
use Rattle.geometry.proofs.Lengths.{segment-number}
use Rattle.geometry.specs.declared.vector.Vector.{Vector}
use Rattle.paths.specs.Ends.{nowhere}
use Rattle.path_rdp.specs.declared.Far.{Far}
use Rattle.path_rdp.specs.Rdp.{vertex, first_vertex, last_vertex, farther, farthest_from, nothing_yet, farthest_of}
use Rattle.path_rdp.specs.Demand.{Accepted}
use Rattle.path_rdp.proofs.Scanning.{farthest-most}
use Rattle.path_rdp.proofs.Splitting.{not_low}
use Rattle.theorem_published.specs.Peucker.{away, FirstFarthest, ScanFindsFirst, AcceptedScanFindsFirst}

-- ---- what the scan takes over: a vertex of those scanned, farther than what was there and than each scanned before it
record New (a b : Vector) (i : ℕ) (vs : List Vector) (f g : Far) : Type 0 where
  place : ℕ
  inside : place < length vs
  index : g.index ≡ i + place
  distance : g.distance ≡ segment_distance (vertex vs place) a b
  above : T (lt f.distance g.distance)
  before : (k : ℕ) → k < place → T (lt (segment_distance (vertex vs k) a b) g.distance)

module _ (a b : Vector) where
  taken : (i : ℕ) (v : Vector) (vs : List Vector) (f g : Far) → T (lt f.distance (segment_distance v a b))
      → (g ≡ record { index = i; distance = segment_distance v a b }) ⊎ New a b (i + 1) vs (record { index = i; distance = segment_distance v a b }) g → New a b i (v ∷ vs) f g
  taken i v vs f g l (inl e) = record {
    place = 0;
    inside = omega arith;
    index = ap (λ (x : Far). x.index) e ∙ omega arith;
    distance = ap (λ (x : Far). x.distance) e;
    above = subst (λ (x : Far). T (lt f.distance x.distance)) (sym e) l;
    before = λ k h. absurd (not-suc-le-zero h);
  }
  taken i v vs f g l (inr w) = record {
    place = suc w.place;
    inside = omega (arith, w.inside);
    index = omega (arith, w.index);
    distance = w.distance;
    above = lt_trans f.distance (segment_distance v a b) g.distance l w.above;
    before = λ k h. at k h;
  }
    where
      at : (k : ℕ) → k < suc w.place → T (lt (segment_distance (vertex (v ∷ vs) k) a b) g.distance)
      at zero h = w.above
      at (suc k) h = w.before k (le_of_suc-le-suc h)

  passed : (i : ℕ) (v : Vector) (vs : List Vector) (f g : Far) → T (le (segment_distance v a b) f.distance) → (g ≡ f) ⊎ New a b (i + 1) vs f g → (g ≡ f) ⊎ New a b i (v ∷ vs) f g
  passed i v vs f g l (inl e) = inl e
  passed i v vs f g l (inr w) = inr (record {
    place = suc w.place;
    inside = omega (arith, w.inside);
    index = omega (arith, w.index);
    distance = w.distance;
    above = w.above;
    before = λ k h. at k h;
  })
    where
      at : (k : ℕ) → k < suc w.place → T (lt (segment_distance (vertex (v ∷ vs) k) a b) g.distance)
      at zero h = le_lt_trans (segment_distance v a b) f.distance g.distance l w.above
      at (suc k) h = w.before k (le_of_suc-le-suc h)

  scan-first : (i : ℕ) (vs : List Vector) (f : Far) → T (number f.distance) → ((j : ℕ) → j < length vs → T (number (segment_distance (vertex vs j) a b)))
      → (farthest_from a b i vs f ≡ f) ⊎ New a b i vs f (farthest_from a b i vs f)
  unfolding farthest_from farther
  scan-first i [] f nf nv = inl refl
  scan-first i (v ∷ vs) f nf nv = by (lt f.distance (segment_distance v a b)) refl (λ (g : Far) n. scan-first (i + 1) vs g n (λ j h. nv (suc j) (omega arith)))
    where
      by : (s : Bool) → lt f.distance (segment_distance v a b) ≡ s
          → ((g : Far) → T (number g.distance) → (farthest_from a b (i + 1) vs g ≡ g) ⊎ New a b (i + 1) vs g (farthest_from a b (i + 1) vs g))
          → (farthest_from a b (i + 1) vs (cond s (record { index = i; distance = segment_distance v a b }) f) ≡ f) ⊎ New a b i (v ∷ vs) f (farthest_from a b (i + 1) vs (cond s (record { index = i; distance = segment_distance v a b }) f))
      by true e ih =
          let h : Far = record { index = i; distance = segment_distance v a b } in
          inr (taken i v vs f (farthest_from a b (i + 1) vs h) (subst T (sym e) tt) (ih h (nv 0 (omega arith))))
      by false e ih =
          passed i v vs f (farthest_from a b (i + 1) vs f) (not-gt→le (segment_distance v a b) f.distance (nv 0 (omega arith)) nf (subst (λ (s : Bool). T (not s)) (sym e) tt)) (ih f nf)

zero_number : T (number zero_f)
unfolding of_bits
zero_number = tt

-- ---- the vertices between the ends
module _ (p : List Vector) (long : 3 ≤ length p) (numbers : (i : ℕ) → 1 ≤ i → i + 2 ≤ length p → T (number (away p i))) where
  abbrev mid : List Vector
  mid = slice 1 (length p - 1) p

  mid-length : length mid ≡ length p - 1 - 1
  mid-length = length-slice 1 (length p - 1) p (omega arith)

  mid_at : (j : ℕ) → j < length mid → vertex mid j ≡ vertex p (1 + j)
  mid_at j h = get_or-drop 1 (take (length p - 1) p) j nowhere ∙ get_or-take (length p - 1) p (1 + j) nowhere (omega (arith, mid-length))

  mid-away : (i : ℕ) → 1 ≤ i → i + 2 ≤ length p → segment_distance (vertex mid (i - 1)) (first_vertex p) (last_vertex p) ≡ away p i
  mid-away i h l =
      let e : 1 + (i - 1) ≡ i = omega arith in
      ap (λ (v : Vector). segment_distance v (first_vertex p) (last_vertex p)) (mid_at (i - 1) (omega (arith, mid-length)) ∙ ap (vertex p) e)

  mid-numbers : (j : ℕ) → j < length mid → T (number (segment_distance (vertex mid j) (first_vertex p) (last_vertex p)))
  mid-numbers j h = subst (λ (v : Vector). T (number (segment_distance v (first_vertex p) (last_vertex p)))) (sym (mid_at j h)) (numbers (1 + j) (omega arith) (omega (arith, mid-length)))

  pub most-far : T (le zero_f (farthest_of p).distance) × ((i : ℕ) → 1 ≤ i → i + 2 ≤ length p → T (le (away p i) (farthest_of p).distance))
  unfolding farthest_of
  most-far =
      let w = farthest-most (first_vertex p) (last_vertex p) 1 mid nothing_yet zero_number mid-numbers in
      let d = (farthest_from (first_vertex p) (last_vertex p) 1 mid nothing_yet).distance in
      (w.0, λ i h l. subst (λ (x : Float). T (le x d)) (mid-away i h l) (w.1 (i - 1) (omega (arith, mid-length))))

  first-far : (t : Float) → lt t zero_f ≡ false → lt t (farthest_of p).distance ≡ true → FirstFarthest p (farthest_of p).index × ((farthest_of p).distance ≡ away p (farthest_of p).index)
  unfolding farthest_of
  first-far t low far = by (farthest_from (first_vertex p) (last_vertex p) 1 mid nothing_yet) far (scan-first (first_vertex p) (last_vertex p) 1 mid nothing_yet zero_number mid-numbers) (farthest-most (first_vertex p) (last_vertex p) 1 mid nothing_yet zero_number mid-numbers).1
    where
      by : (g : Far) → lt t g.distance ≡ true → (g ≡ nothing_yet) ⊎ New (first_vertex p) (last_vertex p) 1 mid nothing_yet g
          → ((j : ℕ) → j < length mid → T (le (segment_distance (vertex mid j) (first_vertex p) (last_vertex p)) g.distance)) → FirstFarthest p g.index × (g.distance ≡ away p g.index)
      by g q (inl e) all = let z : false ≡ true = sym low ∙ sym (ap (λ (x : Far). lt t x.distance) e) ∙ q in absurd (subst T (sym z) tt)
      by g q (inr w) all =
          let k = w.index in
          let d : g.distance ≡ away p g.index = w.distance ∙ ap (λ (v : Vector). segment_distance v (first_vertex p) (last_vertex p)) (mid_at w.place w.inside) ∙ ap (away p) (sym k) in (
            record {
              inside = (omega arith, omega (arith, w.inside, mid-length));
              before = λ i h l. subst (λ (x : Float). T (lt (away p i) x)) d (subst (λ (x : Float). T (lt x g.distance)) (mid-away i h (omega (arith, w.inside, mid-length))) (w.before (i - 1) (omega arith)));
              most = λ i h l. subst (λ (x : Float). T (le (away p i) x)) d (subst (λ (x : Float). T (le x g.distance)) (mid-away i h l) (all (i - 1) (omega (arith, mid-length))));
            },
            d,
          )

pub scan-finds-first : ScanFindsFirst
scan-finds-first p long numbers t low far = first-far p long numbers t low far

-- ---- of a path that meets neither number 8 nor number 9
pub accepted-distances : (t : Float) (p : List Vector) → Accepted t p → (i : ℕ) → 1 ≤ i → i + 2 ≤ length p → T (number (away p i))
accepted-distances t p ok i h l =
    segment-number (vertex p i) (first_vertex p) (last_vertex p) (ok.within i (omega arith)) (ok.within 0 (omega arith)) (ok.within (length p - 1) (omega arith))

pub accepted-low : (t : Float) (p : List Vector) → Accepted t p → lt t zero_f ≡ false
accepted-low t p ok = not_low t ok.threshold

pub accepted-scan-finds-first : AcceptedScanFindsFirst
accepted-scan-finds-first t p ok long far = first-far p long (accepted-distances t p ok) t (accepted-low t p ok) far
