-- A box fails the test where products show that it is left at or before the origin, or before it is entered. Assumes nothing.
use mathlib.Core.Path.{◌≡◌, refl, sym, subst, ◌∙◌}
use mathlib.Core.Logic.{◌⊎◌, inl, inr}
use mathlib.Core.Bool.{Bool, true, false, cond, not, ◌&&◌, ◌||◌, and-eq-true_iff}
use lib.Dec.{T}
use lib.Ieee.{Float, of_bits, lt, le}
use lib.Ieee.Fits.{sub-fits}
use Rattle.floats.specs.Arith.{◌⊖◌, ◌⊗◌, zero_f}
use Rattle.floats.specs.Numbers.{number, within, min_of, max_of}
use Rattle.floats.proofs.Order.{le_refl, le_trans, le_lt_trans, lt-le-trans, lt_trans, lt→le, le-number-l, le-number-r, not-gt→le}
use Rattle.floats.proofs.Extremes.{or_top, or_bot, or_top-id, or_bot-id, min_of-left, min_of-right, max_of-left, max_of-right}
use Rattle.floats.proofs.Bounds.{within-sub}
use Rattle.floats.proofs.Tests.{clash}
use Rattle.geometry.specs.declared.bounding_box.BBox.{BBox}
use Rattle.geometry.specs.declared.bounding_box.Span.{Span}
use Rattle.geometry.specs.Vectors.{sub_v, mul_v}
use Rattle.geometry.specs.Boxes.{span_of, ordered, slab, overlap, box_test, passes}
use Rattle.geometry.specs.Limits.{Sound}
use Rattle.geometry.proofs.Nested.{or_top-lt, lt-or_bot, or_top-le-finite}
use Rattle.tree_beams.specs.Beams.{is_shown, is_sure, Aimed, greater_f, lesser_f, reached, latest_of, soonest_of, longer, next_to_zero, misses_box}
use Rattle.tree_beams.specs.declared.Beam.{Beam}
use Rattle.tree_beams.proofs.Planes.{Left, Entered, Met, Shown, shown, met, longer-mono}

-- ---- one of two numbers
picked : (Q : Float → Type 0) (t : Bool) (a b : Float) → Q a → Q b → Q (cond t a b)
picked Q true a b x y = x
picked Q false a b x y = y

pub greater-of : (Q : Float → Type 0) (a b : Float) → Q a → Q b → Q (greater_f a b)
unfolding greater_f
greater-of Q a b = picked Q (lt b a) a b

pub lesser-of : (Q : Float → Type 0) (a b : Float) → Q a → Q b → Q (lesser_f a b)
unfolding lesser_f
lesser-of Q a b = picked Q (lt a b) a b

module _ (a b : Float) (A : T (number a)) (B : T (number b)) where
  greater-least : T (le a (greater_f a b)) × T (le b (greater_f a b))
  unfolding greater_f
  greater-least = go (lt b a) (lt→le b a) (not-gt→le a b A B)
    where
      go : (t : Bool) → (T t → T (le b a)) → (T (not t) → T (le a b)) → T (le a (cond t a b)) × T (le b (cond t a b))
      go true h k = (le_refl a A, h tt)
      go false h k = (k tt, le_refl b B)

  lesser-most : T (le (lesser_f a b) a) × T (le (lesser_f a b) b)
  unfolding lesser_f
  lesser-most = go (lt a b) (lt→le a b) (not-gt→le b a B A)
    where
      go : (t : Bool) → (T t → T (le a b)) → (T (not t) → T (le b a)) → T (le (cond t a b) a) × T (le (cond t a b) b)
      go true h k = (le_refl a A, h tt)
      go false h k = (k tt, le_refl b B)

-- ---- a slab: its two planes' products n and f
entered-less : (e p t : Float) → T (le e p) → Entered p t → Entered e t
entered-less e p t h k i = le_trans e p t h (k (lt-le-trans zero_f e p i h))

left-more : (p l t : Float) → T (le p l) → Left p t → Left l t
left-more p l t h k = record {
  by = elim k.by [ inl i ↦ inl (le_trans t (p ⊗ longer) (l ⊗ longer) i (longer-mono p l h)) | inr i ↦ inr i ];
  behind = λ i. k.behind (le_trans p l zero_f h i);
}

pub record Told (s : Span) (e l : Float) : Type 0 where
  pub enters : Entered e s.tmin
  pub leaves : Left l s.tmax

told : (a b n f : Float) → Met n a → Met f b → Told (ordered a b) (lesser_f n f) (greater_f n f)
unfolding ordered
told a b n f A B = go (lt b a)
  where
    e : T (le (lesser_f n f) n) × T (le (lesser_f n f) f)
    e = lesser-most n f A.is B.is

    l : T (le n (greater_f n f)) × T (le f (greater_f n f))
    l = greater-least n f A.is B.is

    go : (t : Bool) → Told (cond t (span_of b a) (span_of a b)) (lesser_f n f) (greater_f n f)
    go true = record { enters = entered-less (lesser_f n f) f b e.1 B.enters; leaves = left-more n (greater_f n f) a l.0 A.leaves }
    go false = record { enters = entered-less (lesser_f n f) n a e.0 A.enters; leaves = left-more f (greater_f n f) b l.1 B.leaves }

told-slab : (lo hi o d low : Float) → T (within lo) → T (within hi) → T (within o) → Shown d low
    → Told (slab lo hi o d) (lesser_f ((lo ⊖ o) ⊗ low) ((hi ⊖ o) ⊗ low)) (greater_f ((lo ⊖ o) ⊗ low) ((hi ⊖ o) ⊗ low))
unfolding slab
told-slab lo hi o d low L H O s =
    told _ _ _ _ (met (lo ⊖ o) d low (within-sub lo o L O) (sub-fits _ lo o) s) (met (hi ⊖ o) d low (within-sub hi o H O) (sub-fits _ hi o) s)

-- ---- three slabs: one that is entered late enough, and one that is left soon enough. The placed ends: a NaN counts for nothing
entered-over : (e t u : Float) → T (le (or_bot t) (or_bot u)) → Entered e t → Entered e (or_bot u)
entered-over e t u h k i = le_trans e t (or_bot u) (k i) (rw (or_bot-id t (le-number-r e t (k i))) at h)

left-under : (l t u : Float) → T (le (or_top u) (or_top t)) → Left l t → Left l (or_top u)
left-under l t u h k = record {
  by = elim k.by [
    | inl i ↦ inl (le_trans (or_top u) t (l ⊗ longer) (rw (or_top-id t (le-number-l t (l ⊗ longer) i)) at h) i)
    | inr i ↦ inr (le_trans (or_top u) t next_to_zero (rw (or_top-id t (le-number-l t next_to_zero i)) at h) i)
  ];
  behind = λ i. let j = k.behind i in le_trans (or_top u) t zero_f (rw (or_top-id t (le-number-l t zero_f j)) at h) j;
}

fails-behind : (s : Span) → T (le s.tmax zero_f) → T (not (passes s))
fails-behind s h = go (not (lt s.tmax s.tmin)) (le s.tmax zero_f) h
  where
    go : (a b : Bool) → T b → T (not (a && not b))
    go true true h = tt
    go false true h = tt
    go a false h = absurd h

fails-apart : (s : Span) → T (lt s.tmax s.tmin) → T (not (passes s))
fails-apart s h = go (lt s.tmax s.tmin) (le s.tmax zero_f) h
  where
    go : (a b : Bool) → T a → T (not (not a && not b))
    go true b h = tt
    go false b h = absurd h

-- beyond both m and what is next to 0
beyond : (t m e : Float) → T (le t m) ⊎ T (le t next_to_zero) → T (lt (greater_f m next_to_zero) e) → T (lt next_to_zero e) × T (lt t e)
unfolding greater_f of_bits
beyond t m e k h = go (lt next_to_zero m) (λ i. i) (λ i j. not-gt→le m next_to_zero j tt i) h
  where
    go : (r : Bool) → (T r → T (lt next_to_zero m)) → (T (not r) → T (number m) → T (le m next_to_zero)) → T (lt (cond r m next_to_zero) e)
        → T (lt next_to_zero e) × T (lt t e)
    go true i j h = let g = lt_trans next_to_zero m e (i tt) h in (g, elim k [ inl l ↦ le_lt_trans t m e l h | inr l ↦ le_lt_trans t next_to_zero e l g ])
    go false i j h =
        (h, elim k [ inl l ↦ le_lt_trans t m e l (le_lt_trans m next_to_zero e (j tt (le-number-r t m l)) h) | inr l ↦ le_lt_trans t next_to_zero e l h ])

module _ (a b c : Span) (ea eb ec la lb lc : Float) (A : Told a ea la) (B : Told b eb lb) (C : Told c ec lc) where
  abbrev In : Float → Type 0
  In e = Entered e (or_bot (overlap a b c).tmin)

  abbrev Out : Float → Type 0
  Out l = Left l (or_top (overlap a b c).tmax)

  entered : In (greater_f (greater_f ea eb) ec)
  unfolding overlap
  entered =
      let last = max_of a.tmin b.tmin in
      let u = max_of last c.tmin in
      let f = max_of-left last c.tmin in
      greater-of In (greater_f ea eb) ec
      (greater-of In ea eb
      (entered-over ea a.tmin u (le_trans (or_bot a.tmin) (or_bot last) (or_bot u) (max_of-left a.tmin b.tmin) f) A.enters)
      (entered-over eb b.tmin u (le_trans (or_bot b.tmin) (or_bot last) (or_bot u) (max_of-right a.tmin b.tmin) f) B.enters))
      (entered-over ec c.tmin u (max_of-right last c.tmin) C.enters)

  left : Out (lesser_f (lesser_f la lb) lc)
  unfolding overlap
  left =
      let first = min_of a.tmax b.tmax in
      let u = min_of first c.tmax in
      let f = min_of-left first c.tmax in
      lesser-of Out (lesser_f la lb) lc
      (lesser-of Out la lb
      (left-under la a.tmax u (le_trans (or_top u) (or_top first) (or_top a.tmax) f (min_of-left a.tmax b.tmax)) A.leaves)
      (left-under lb b.tmax u (le_trans (or_top u) (or_top first) (or_top b.tmax) f (min_of-right a.tmax b.tmax)) B.leaves))
      (left-under lc c.tmax u (min_of-right first c.tmax) C.leaves)

fails : (s : Span) (e l : Float) → Entered e (or_bot s.tmin) → Left l (or_top s.tmax) → (p q : Bool) → le l zero_f ≡ p
    → lt (greater_f (l ⊗ longer) next_to_zero) e ≡ q → (p || q) ≡ true → T (not (passes s))
unfolding of_bits lt
fails s e l i o true q h k r = fails-behind s (or_top-le-finite s.tmax zero_f tt (o.behind (subst T (sym h) tt)))
fails s e l i o false true h k r =
    let t = or_top s.tmax in
    let u = or_bot s.tmin in
    let g = beyond t (l ⊗ longer) e o.by (subst T (sym k) tt) in
    fails-apart s (or_top-lt s.tmax s.tmin (lt-or_bot t s.tmin (lt-le-trans t e u g.1 (i (lt_trans zero_f next_to_zero e tt g.0)))))
fails s e l i o false false h k r = clash r

-- ---- the box
pub box-missed : (bx : BBox) (b : Beam) → Sound bx → Aimed b → (m : Bool) → m ≡ misses_box bx b → m ≡ true → T (not (passes (box_test bx b.ray)))
unfolding misses_box reached latest_of soonest_of sub_v mul_v box_test is_sure
box-missed bx b S A m e h =
    let d = b.ray.direction in
    let low = b.low in
    let p = (and-eq-true_iff (is_shown d.x low.x) (is_shown d.y low.y && is_shown d.z low.z)).0 A.sure in
    let q = (and-eq-true_iff (is_shown d.y low.y) (is_shown d.z low.z)).0 p.1 in
    let x = told-slab _ _ _ _ _ S.min.x S.max.x A.from.x (shown d.x low.x p.0) in
    let y = told-slab _ _ _ _ _ S.min.y S.max.y A.from.y (shown d.y low.y q.0) in
    let z = told-slab _ _ _ _ _ S.min.z S.max.z A.from.z (shown d.z low.z q.1) in
    fails _ _ _ (entered _ _ _ _ _ _ _ _ _ x y z) (left _ _ _ _ _ _ _ _ _ x y z) _ _ refl refl (sym e ∙ h)
