-- The scan for the farthest vertex: the loop, where it finds one, and that none is farther. Assumes nothing.
use mathlib.Core.Path.{◌≡◌, refl, sym, ap, ◌∙◌, subst}
use mathlib.Core.Logic.{◌⊎◌, inl, inr}
use mathlib.Core.Bool.{Bool, true, false, cond, not}
use mathlib.Core.List.{List, [], ◌∷◌}
use Prim.Native.Nat.{ℕ, zero, suc, ◌+◌, ◌-◌, ◌≤◌, ◌<◌}
use native.Mathlib.Nat.{not-suc-le-zero, le_of_suc-le-suc}
use native.Mathlib.Numerals.{add-one}
use native.Mathlib.Omega.{arith}
use lib.Dec.{T}
use lib.ListN.{length}
use lib.Seq.{slice, slice-cons, slice_empty, length-slice}
use lib.Ieee.{Float, lt, le, of_bits}
use Rattle.floats.specs.Arith.{zero_f}
use Rattle.floats.specs.Numbers.{number}
use Rattle.floats.proofs.Order.{le_refl, le_trans, le_lt_trans, lt-le-trans, not-gt→le, lt→le, le-number-r}
use Rattle.sqrt.specs.Root.{sqrt_of}
use Rattle.sqrt.proofs.Monotone.{sqrt-number, sqrt-mono, sqrt-above}
use Rattle.geometry.specs.Vectors.{segment_distance, segment_square}
use Rattle.geometry.proofs.Segments.{segment-root}
use Rattle.geometry.specs.declared.vector.Vector.{Vector}
use Rattle.paths.specs.Ends.{nowhere}
use Rattle.path_rdp.specs.declared.Far.{Far}
use Rattle.path_rdp.specs.declared.Peak.{Peak}
use Rattle.path_rdp.specs.Rdp.{vertex, first_vertex, last_vertex, farther, farthest_from, nothing_yet, farthest_of, higher, peak_from, no_peak, peak_of}

-- ---- the loop: what is left of it finds what the whole does
pub record Scanning (p : List Vector) (f : Far) (i : ℕ) : Type 0 where
  pub upto : i + 1 ≤ length p
  pub left : farthest_from (first_vertex p) (last_vertex p) i (slice i (length p - 1) p) f ≡ farthest_of p

module _ (p : List Vector) where
  pub scanning-start : 2 ≤ length p → Scanning p nothing_yet 1
  unfolding farthest_of
  scanning-start h = record { upto = h; left = refl }

  module _ (f : Far) (i : ℕ) (h : Scanning p f i) where
    pub scanning-turn : (v a b : Vector) (q : Float) (g : Far) → i + 1 < length p → a ≡ first_vertex p → b ≡ last_vertex p → v ≡ vertex p i → q ≡ segment_square v a b → g ≡ farther f i (sqrt_of q) → Scanning p g (i + 1)
    unfolding farthest_from
    scanning-turn v a b q g l ea eb ev eq eg =
        let s : slice i (length p - 1) p ≡ vertex p i ∷ slice (i + 1) (length p - 1) p = rw add-one (slice-cons i (length p - 1) p nowhere (omega arith) (omega arith)) in
        let e : farthest_from (first_vertex p) (last_vertex p) i (slice i (length p - 1) p) f
        ≡ farthest_from (first_vertex p) (last_vertex p) (i + 1) (slice (i + 1) (length p - 1) p) (farther f i (segment_distance (vertex p i) (first_vertex p) (last_vertex p)))
        = ap (λ (t : List Vector). farthest_from (first_vertex p) (last_vertex p) i t f) s in
        let t : g ≡ farther f i (segment_distance (vertex p i) (first_vertex p) (last_vertex p)) = rw (eg, eq, ea, eb, ev, segment-root (vertex p i) (first_vertex p) (last_vertex p)) in
        record { upto = omega arith; left = rw t (sym e ∙ h.left) }

    pub scanning-end : length p ≤ i + 1 → f ≡ farthest_of p
    unfolding farthest_from
    scanning-end l =
        let e : length p - 1 ≡ i = omega (arith, h.upto) in
        sym (rw (e, slice_empty i p)) ∙ h.left

-- ---- the farthest so far and the square whose root its distance is
pub root-start : zero_f ≡ sqrt_of zero_f
unfolding sqrt_of of_bits
root-start = refl

-- a square that is not greater changes nothing
pub stays : (f : Far) (i : ℕ) (s q : Float) → f.distance ≡ sqrt_of s → lt s q ≡ false → f ≡ farther f i (sqrt_of q)
unfolding farther
stays f i s q r e = by (lt f.distance (sqrt_of q)) (λ (t : T (lt f.distance (sqrt_of q))). sqrt-above s q (rw (← r) t))
  where
    by : (t : Bool) → (T t → T (lt s q)) → f ≡ cond t (record { index = i; distance = sqrt_of q }) f
    by true k = absurd (subst T e (k tt))
    by false k = refl

-- ---- the greatest square and the next lower one
-- what the peak tells of the farthest f: its distance is the root of the greatest square, and its place that square's, unless the next lower
-- square has the same root
record Tops (f : Far) (k : Peak) : Type 0 where
  pub fair : T (le zero_f k.square)
  pub most : T (le f.distance (sqrt_of k.square))
  pub least : T (le (sqrt_of k.square) f.distance)
  pub first : (f ≡ record { index = k.index; distance = sqrt_of k.square }) ⊎ ((0 < k.index) × (lt (sqrt_of k.lower) (sqrt_of k.square) ≡ false))

not_so : (b : Bool) → (T b → T false) → b ≡ false
not_so true n = absurd (n tt)
not_so false n = refl

abbrev far_at : ℕ → Float → Far
far_at i d = record { index = i; distance = d }

abbrev topped : ℕ → Float → Float → Peak
topped i s l = record { index = i; square = s; lower = l }

pub zero_number : T (number zero_f)
unfolding of_bits
zero_number = tt

tops_start : Tops nothing_yet (topped 0 zero_f zero_f)
tops_start =
    let z : T (le zero_f zero_f) = le_refl zero_f zero_number in
    record {
      fair = z;
      most = subst (λ (x : Float). T (le zero_f x)) root-start z;
      least = subst (λ (x : Float). T (le x zero_f)) root-start z;
      first = inl (ap (λ (x : Float). far_at 0 x) root-start);
    }

module _ (f : Far) (k : Peak) (h : Tops f k) (i : ℕ) (q : Float) where
  -- a square that is not greater changes nothing
  tops-stays : lt k.square q ≡ false → f ≡ farther f i (sqrt_of q)
  unfolding farther
  tops-stays e = by (lt f.distance (sqrt_of q)) (λ (t : T (lt f.distance (sqrt_of q))). sqrt-above k.square q (le_lt_trans (sqrt_of k.square) f.distance (sqrt_of q) h.least t))
    where
      by : (t : Bool) → (T t → T (lt k.square q)) → f ≡ cond t (record { index = i; distance = sqrt_of q }) f
      by true n = absurd (subst T e (n tt))
      by false n = refl

  -- a greater one takes over, if its root is greater too; else the lower one has the same root
  tops-turn : 0 < i → lt k.square q ≡ true → Tops (farther f i (sqrt_of q)) (topped i q k.square)
  unfolding farther
  tops-turn l e = by (lt f.distance (sqrt_of q)) refl
    where
      under : T (le k.square q)
      under = lt→le k.square q (subst T (sym e) tt)

      fair : T (le zero_f q)
      fair = le_trans zero_f k.square q h.fair under

      root : T (number (sqrt_of q))
      root = sqrt-number q fair

      by : (t : Bool) → lt f.distance (sqrt_of q) ≡ t → Tops (cond t (record { index = i; distance = sqrt_of q }) f) (topped i q k.square)
      by true t = record { fair = fair; most = le_refl (sqrt_of q) root; least = le_refl (sqrt_of q) root; first = inl refl }
      by false t = record {
        fair = fair;
        most = le_trans f.distance (sqrt_of k.square) (sqrt_of q) h.most (sqrt-mono k.square q h.fair under);
        least = not-gt→le (sqrt_of q) f.distance root (le-number-r (sqrt_of k.square) f.distance h.least) (subst (λ (s : Bool). T (not s)) (sym t) tt);
        first = inr (l, not_so (lt (sqrt_of k.square) (sqrt_of q)) (λ (s : T (lt (sqrt_of k.square) (sqrt_of q))). subst T t (le_lt_trans f.distance (sqrt_of k.square) (sqrt_of q) h.most s)));
      }

tops_next : (f : Far) (k : Peak) → Tops f k → (i : ℕ) → 0 < i → (q : Float) → Tops (farther f i (sqrt_of q)) (higher k i q)
unfolding higher
tops_next f k h i l q = by (lt k.square q) refl
  where
    by : (t : Bool) → lt k.square q ≡ t → Tops (farther f i (sqrt_of q)) (cond t (topped i q k.square) k)
    by true e = tops-turn f k h i q l e
    by false e = subst (λ (g : Far). Tops g k) (tops-stays f k h i q e) h

module _ (a b : Vector) where
  tops-from : (i : ℕ) (vs : List Vector) (f : Far) (k : Peak) → 0 < i → Tops f k → Tops (farthest_from a b i vs f) (peak_from a b i vs k)
  unfolding farthest_from peak_from
  tops-from i [] f k l h = h
  tops-from i (v ∷ vs) f k l h =
      tops-from (i + 1) vs (farther f i (segment_distance v a b)) (higher k i (segment_square v a b)) (omega arith)
      (rw (segment-root v a b) (tops_next f k h i l (segment_square v a b)))

peak-tops : (p : List Vector) → Tops (farthest_of p) (peak_of p)
unfolding farthest_of peak_of
peak-tops p = tops-from (first_vertex p) (last_vertex p) 1 (slice 1 (length p - 1) p) nothing_yet no_peak (omega arith) tops_start

-- ---- the loop over squares: what is left of it finds what the whole does
pub record Peaking (p : List Vector) (k : Peak) (i : ℕ) : Type 0 where
  pub upto : i + 1 ≤ length p
  pub left : peak_from (first_vertex p) (last_vertex p) i (slice i (length p - 1) p) k ≡ peak_of p

module _ (p : List Vector) where
  pub peaking-start : 2 ≤ length p → Peaking p no_peak 1
  unfolding peak_of
  peaking-start h = record { upto = h; left = refl }

  module _ (k : Peak) (i : ℕ) (h : Peaking p k i) where
    module _ (v a b : Vector) (q : Float) (l : i + 1 < length p) (ea : a ≡ first_vertex p) (eb : b ≡ last_vertex p) (ev : v ≡ vertex p i) (eq : q ≡ segment_square v a b) where
      turn : (g : Peak) → g ≡ higher k i q → Peaking p g (i + 1)
      unfolding peak_from
      turn g eg =
          let s : slice i (length p - 1) p ≡ vertex p i ∷ slice (i + 1) (length p - 1) p = rw add-one (slice-cons i (length p - 1) p nowhere (omega arith) (omega arith)) in
          let e : peak_from (first_vertex p) (last_vertex p) i (slice i (length p - 1) p) k
          ≡ peak_from (first_vertex p) (last_vertex p) (i + 1) (slice (i + 1) (length p - 1) p) (higher k i (segment_square (vertex p i) (first_vertex p) (last_vertex p)))
          = ap (λ (t : List Vector). peak_from (first_vertex p) (last_vertex p) i t k) s in
          let t : g ≡ higher k i (segment_square (vertex p i) (first_vertex p) (last_vertex p)) = rw (eg, eq, ea, eb, ev) in
          record { upto = omega arith; left = rw t (sym e ∙ h.left) }

      pub peaking-stays : lt k.square q ≡ false → Peaking p k (i + 1)
      unfolding higher
      peaking-stays e = turn k (rw e)

      pub peaking-turn : lt k.square q ≡ true → Peaking p (topped i q k.square) (i + 1)
      unfolding higher
      peaking-turn e = turn (topped i q k.square) (rw e)

    pub peaking-end : length p ≤ i + 1 → k ≡ peak_of p
    unfolding peak_from
    peaking-end l =
        let e : length p - 1 ≡ i = omega (arith, h.upto) in
        sym (rw (e, slice_empty i p)) ∙ h.left

-- ---- the peak is the farthest, where nothing is above 0 or the next lower root is below its own
module _ (p : List Vector) (k : Peak) (ek : k ≡ peak_of p) where
  tops : Tops (farthest_of p) k
  tops = rw ek (peak-tops p)

  module _ (d : Float) (e : d ≡ sqrt_of k.square) where
    at-peak : (n : ℕ) → k.index ≡ n → farthest_of p ≡ far_at k.index (sqrt_of k.square) → far_at n d ≡ farthest_of p
    at-peak n i f = rw (← i, e) (sym f)

    pub peak-none : (n : ℕ) → k.index ≡ n → n ≡ 0 → far_at n d ≡ farthest_of p
    peak-none n i z = by tops.first
      where
        by : (farthest_of p ≡ far_at k.index (sqrt_of k.square)) ⊎ ((0 < k.index) × (lt (sqrt_of k.lower) (sqrt_of k.square) ≡ false)) → far_at n d ≡ farthest_of p
        by (inl f) = at-peak n i f
        by (inr f) = absurd (omega (arith, f.0, i, z))

    pub peak-first : (n : ℕ) → k.index ≡ n → (l : Float) → l ≡ sqrt_of k.lower → lt l d ≡ true → far_at n d ≡ farthest_of p
    peak-first n i l el z = by tops.first
      where
        by : (farthest_of p ≡ far_at k.index (sqrt_of k.square)) ⊎ ((0 < k.index) × (lt (sqrt_of k.lower) (sqrt_of k.square) ≡ false)) → far_at n d ≡ farthest_of p
        by (inl f) = at-peak n i f
        by (inr f) = absurd (subst T (sym z ∙ ap (λ (x : Float). lt x d) el ∙ ap (λ (x : Float). lt (sqrt_of k.lower) x) e ∙ f.1) tt)

  -- a square is at most one whose root is not beyond the threshold
  pub peak-low : (t low : Float) → lt t (sqrt_of low) ≡ false → le k.square low ≡ true → lt t (farthest_of p).distance ≡ false
  peak-low t low e l =
      let d = (farthest_of p).distance in
      not_so (lt t d) (λ (s : T (lt t d)). subst T e (lt-le-trans t d (sqrt_of low) s (le_trans d (sqrt_of k.square) (sqrt_of low) tops.most (sqrt-mono k.square low tops.fair (subst T (sym l) tt)))))

-- ---- where the farthest stands: nowhere new, or among the vertices scanned
abbrev Found : ℕ → ℕ → Far → Far → Type 0
Found i n f g = (g ≡ f) ⊎ ((i ≤ g.index) × (g.index < i + n))

found-later : (i n : ℕ) (f g : Far) → Found (i + 1) n f g → Found i (suc n) f g
found-later i n f g (inl e) = inl e
found-later i n f g (inr w) = inr (omega arith, omega arith)

found_here : (i n : ℕ) (d : Float) (f g : Far) → Found (i + 1) n (record { index = i; distance = d }) g → Found i (suc n) f g
found_here i n d f g (inl e) = let k : g.index ≡ i = ap (λ (x : Far). x.index) e in inr (omega arith, omega arith)
found_here i n d f g (inr w) = inr (omega arith, omega arith)

far-found : (a b : Vector) (i : ℕ) (vs : List Vector) (f : Far) → Found i (length vs) f (farthest_from a b i vs f)
unfolding farthest_from farther
far-found a b i [] f = inl refl
far-found a b i (v ∷ vs) f = by (lt f.distance (segment_distance v a b)) (λ (g : Far). far-found a b (i + 1) vs g)
  where
    taken : Far
    taken = record { index = i; distance = segment_distance v a b }

    by : (t : Bool) → ((g : Far) → Found (i + 1) (length vs) g (farthest_from a b (i + 1) vs g)) → Found i (suc (length vs)) f (farthest_from a b (i + 1) vs (cond t taken f))
    by true ih = found_here i (length vs) (segment_distance v a b) f (farthest_from a b (i + 1) vs taken) (ih taken)
    by false ih = found-later i (length vs) f (farthest_from a b (i + 1) vs f) (ih f)

module _ (p : List Vector) where
  -- a vertex before the last, whatever the distances
  pub far-before : 3 ≤ length p → (farthest_of p).index + 2 ≤ length p
  unfolding farthest_of
  far-before long = by (far-found (first_vertex p) (last_vertex p) 1 (slice 1 (length p - 1) p) nothing_yet)
    where
      by : {g : Far} → Found 1 (length (slice 1 (length p - 1) p)) nothing_yet g → g.index + 2 ≤ length p
      by {g} (inl e) = let k : g.index ≡ 0 = ap (λ (x : Far). x.index) e in omega arith
      by (inr w) = omega (arith, w.1, length-slice 1 (length p - 1) p (omega arith))

  -- one beyond a threshold that is not negative stands between the ends
  pub far-inside : (t : Float) → lt t zero_f ≡ false → lt t (farthest_of p).distance ≡ true → (1 ≤ (farthest_of p).index) × ((farthest_of p).index + 2 ≤ length p)
  unfolding farthest_of
  far-inside t low far = by (far-found (first_vertex p) (last_vertex p) 1 (slice 1 (length p - 1) p) nothing_yet) far
    where
      by : {g : Far} → Found 1 (length (slice 1 (length p - 1) p)) nothing_yet g → lt t g.distance ≡ true → (1 ≤ g.index) × (g.index + 2 ≤ length p)
      by {g} (inl e) q =
          let z : false ≡ true = sym low ∙ sym (ap (λ (x : Far). lt t x.distance) e) ∙ q in
          absurd (subst T (sym z) tt)
      by (inr w) q = (w.0, omega (arith, w.1, length-slice 1 (length p - 1) p (omega arith)))

-- ---- the farthest is no nearer than any other, where distances are numbers
module _ (a b : Vector) where
  takes-over : (f : Far) (i : ℕ) (d : Float) → T (number f.distance) → T (number d) → T (le f.distance (farther f i d).distance) × T (le d (farther f i d).distance)
  unfolding farther
  takes-over f i d nf nd = by (lt f.distance d) refl
    where
      by : (s : Bool) → lt f.distance d ≡ s → T (le f.distance (cond s (record { index = i; distance = d }) f).distance) × T (le d (cond s (record { index = i; distance = d }) f).distance)
      by true e = (lt→le f.distance d (subst T (sym e) tt), le_refl d nd)
      by false e = (le_refl f.distance nf, not-gt→le d f.distance nd nf (subst (λ (s : Bool). T (not s)) (sym e) tt))

  pub farthest-most : (i : ℕ) (vs : List Vector) (f : Far) → T (number f.distance) → ((j : ℕ) → j < length vs → T (number (segment_distance (vertex vs j) a b)))
      → T (le f.distance (farthest_from a b i vs f).distance) × ((j : ℕ) → j < length vs → T (le (segment_distance (vertex vs j) a b) (farthest_from a b i vs f).distance))
  unfolding farthest_from
  farthest-most i [] f nf nv = (le_refl f.distance nf, λ j h. absurd (not-suc-le-zero h))
  farthest-most i (v ∷ vs) f nf nv =
      let d = segment_distance v a b in
      let g = farther f i d in
      let w = takes-over f i d nf (nv 0 (omega arith)) in
      let ih = farthest-most (i + 1) vs g (le-number-r f.distance g.distance w.0) (λ j h. nv (suc j) (omega arith)) in
      (le_trans f.distance g.distance (farthest_from a b (i + 1) vs g).distance w.0 ih.0, λ j h. most j h (farthest_from a b (i + 1) vs g).distance (le_trans d g.distance (farthest_from a b (i + 1) vs g).distance w.1 ih.0) ih.1)
    where
      most : (j : ℕ) → j < suc (length vs) → (x : Float) → T (le (segment_distance v a b) x) → ((k : ℕ) → k < length vs → T (le (segment_distance (vertex vs k) a b) x)) → T (le (segment_distance (vertex (v ∷ vs) j) a b) x)
      most zero h x y z = y
      most (suc j) h x y z = z j (le_of_suc-le-suc h)
