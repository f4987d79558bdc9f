-- A box inside a box: on every ray whose direction has no -0 (infinities and NaNs may stand in it), boxes and origin within a million, the outer box is
-- entered no later and left no earlier, so it passes the test where the inner one does. And `extend_box` holds both. Assumes nothing.
use mathlib.Core.Path.{◌≡◌, refl, sym, subst₂}
use mathlib.Core.Logic.{inl, inr}
use mathlib.Core.Bool.{Bool, true, false, not, ◌&&◌, ◌||◌, cond}
use lib.Dec.{T, T_not, not_T}
use lib.Ieee.{Float, nan, inf, fin, lt, le, is_nan, of_bits}
use lib.Ieee.Fits.{and_l, and_r, and_i}
use lib.Ieee.Scale.{finite}
use mir.Facts.{or_yes}
use Rattle.floats.specs.Arith.{◌⊖◌, ◌⊘◌, zero_f}
use Rattle.floats.specs.Numbers.{min_of, max_of, number, within}
use Rattle.floats.proofs.Order.{finite_number, le-number-l, le-number-r, lt-number-l, lt-number-r, le_refl, le_trans, le_lt_trans, lt-le-trans, le-not-gt, not-gt→le, finite-between}
use Rattle.floats.proofs.Rounding.{sub-mono, div-anti}
use Rattle.floats.proofs.Extremes.{or_bot, or_top, or_bot-id, or_top-id, or_bot-le, or_top-le, max_of-mono, min_of-mono, le-max_of-l, le-max_of-r, min_of-le-l, min_of-le-r}
use Rattle.floats.proofs.Quotients.{div-bot-mono, div-top-mono, div-not-gt, div-nan, div-inf-le}
use Rattle.floats.proofs.Bounds.{within-finite, within-sub}
use Rattle.geometry.specs.declared.vector.Vector.{Vector}
use Rattle.geometry.specs.declared.ray.Ray.{Ray}
use Rattle.geometry.specs.declared.bounding_box.BBox.{BBox}
use Rattle.geometry.specs.declared.bounding_box.Span.{Span}
use Rattle.geometry.specs.Vectors.{min_v, max_v}
use Rattle.geometry.specs.Boxes.{span_of, ordered, slab, overlap, box_test, passes, skips, extend_box}
use Rattle.geometry.specs.Limits.{Under, Sound, Inside, straight, Usable}

-- ---- `ordered`
pub ordered-straight : (a b : Float) → T (not (lt b a)) → ordered a b ≡ span_of a b
unfolding ordered
ordered-straight a b h = go (lt b a) h
  where
    go : (t : Bool) → T (not t) → ◌≡◌ {A = Span} (cond t (span_of b a) (span_of a b)) (span_of a b)
    go true h = absurd h
    go false h = refl

-- at b ≤ a both ends are known up to the sign of a zero
pub record Flipped (a b : Float) (s : Span) : Type 0 where
  pub enter-le : T (le s.tmin b)
  pub le-enter : T (le b s.tmin)
  pub leave-le : T (le s.tmax a)
  pub le-leave : T (le a s.tmax)

pub ordered-flipped : (a b : Float) → T (le b a) → Flipped a b (ordered a b)
unfolding ordered
ordered-flipped a b h = go (lt b a) (not-gt→le a b (le-number-r b a h) (le-number-l b a h))
  where
    go : (t : Bool) → (T (not t) → T (le a b)) → Flipped a b (cond t (span_of b a) (span_of a b))
    go true k = let p = le_refl a (le-number-r b a h) in let q = le_refl b (le-number-l b a h) in record { enter-le = q; le-enter = q; leave-le = p; le-leave = p }
    go false k = record { enter-le = k tt; le-enter = h; leave-le = h; le-leave = k tt }

-- ---- one slab: the outer span holds the inner one
pub record Holds (outer inner : Span) : Type 0 where
  pub tmin : T (le (or_bot outer.tmin) (or_bot inner.tmin))
  pub tmax : T (le (or_top inner.tmax) (or_top outer.tmax))

-- the quotients aP / d and so on, where d turns the order round
flipped-holds : (aP aC bC bP : Float) → T (le aC aP) → T (le bC aC) → T (le bP bC) → Holds (ordered aP bP) (ordered aC bC)
flipped-holds aP aC bC bP h i j =
    let P = ordered-flipped aP bP (le_trans bP bC aP j (le_trans bC aC aP i h)) in
    let C = ordered-flipped aC bC i in
    let sP = ordered aP bP in
    let sC = ordered aC bC in
    record {
      tmin = or_bot-le sP.tmin sC.tmin (le_trans sP.tmin bP sC.tmin P.enter-le (le_trans bP bC sC.tmin j C.le-enter));
      tmax = or_top-le sC.tmax sP.tmax (le_trans sC.tmax aC sP.tmax C.leave-le (le_trans aC aP sP.tmax h P.le-leave));
    }

nans-hold : Holds (ordered nan nan) (ordered nan nan)
unfolding ordered le
nans-hold = record { tmin = tt; tmax = tt }

-- aP ≤ aC ≤ bC ≤ bP, divided by d; only an infinite d asks that they are finite
quotients : (aP aC bC bP d : Float) → T (straight d) → T (finite aP) → T (finite bP) → T (le aP aC) → T (le aC bC) → T (le bC bP)
    → Holds (ordered (aP ⊘ d) (bP ⊘ d)) (ordered (aC ⊘ d) (bC ⊘ d))
quotients aP aC bC bP nan p A B h i j = rw (div-nan aP, div-nan aC, div-nan bC, div-nan bP) nans-hold
quotients aP aC bC bP (inf t) p A B h i j =
    let a = finite-between aP aC bP A B h (le_trans aC bC bP i j) in
    let b = finite-between aP bC bP A B (le_trans aP aC bC h i) j in
    flipped-holds (aP ⊘ (inf t)) (aC ⊘ (inf t)) (bC ⊘ (inf t)) (bP ⊘ (inf t)) (div-inf-le aC aP t a A) (div-inf-le bC aC t b a) (div-inf-le bP bC t B b)
quotients aP aC bC bP (fin false n e) p A B h i j =
    let d = fin false n e in
    let w = le_trans aP aC bP h (le_trans aC bC bP i j) in
    subst₂ Holds (sym (ordered-straight (aP ⊘ d) (bP ⊘ d) (div-not-gt aP bP d tt w))) (sym (ordered-straight (aC ⊘ d) (bC ⊘ d) (div-not-gt aC bC d tt i)))
    (record { tmin = div-bot-mono aP aC d tt h; tmax = div-top-mono bC bP d tt j })
quotients aP aC bC bP (fin true n e) p A B h i j =
    let d = fin true n e in
    flipped-holds (aP ⊘ d) (aC ⊘ d) (bC ⊘ d) (bP ⊘ d) (div-anti aP aC d p h) (div-anti aC bC d p i) (div-anti bC bP d p j)

slab-holds : (lP lC hC hP o d : Float) → T (within lP) → T (within lC) → T (within hC) → T (within hP) → T (within o) → T (straight d)
    → T (le lP lC) → T (le lC hC) → T (le hC hP) → Holds (slab lP hP o d) (slab lC hC o d)
unfolding slab
slab-holds lP lC hC hP o d p q r s O D h i j =
    let o' = within-finite o O in
    let p' = within-finite lP p in
    let q' = within-finite lC q in
    let r' = within-finite hC r in
    let s' = within-finite hP s in
    let z = le_refl o (finite_number o o') in
    quotients (lP ⊖ o) (lC ⊖ o) (hC ⊖ o) (hP ⊖ o) d D (within-sub lP o p O) (within-sub hP o s O)
    (sub-mono lP lC o o p' q' o' o' h z) (sub-mono lC hC o o q' r' o' o' i z) (sub-mono hC hP o o r' s' o' o' j z)

overlap-holds : (a b c a' b' c' : Span) → Holds a a' → Holds b b' → Holds c c' → Holds (overlap a b c) (overlap a' b' c')
unfolding overlap
overlap-holds a b c a' b' c' h i j = record {
  tmin = max_of-mono (max_of a.tmin b.tmin) c.tmin (max_of a'.tmin b'.tmin) c'.tmin (max_of-mono a.tmin b.tmin a'.tmin b'.tmin h.tmin i.tmin) j.tmin;
  tmax = min_of-mono (min_of a'.tmax b'.tmax) c'.tmax (min_of a.tmax b.tmax) c.tmax (min_of-mono a'.tmax b'.tmax a.tmax b.tmax h.tmax i.tmax) j.tmax;
}

-- The geometry: the outer box's span holds the inner one's, whatever the ray.
pub box-holds : (c p : BBox) (r : Ray) → Sound c → Sound p → Inside c p → Usable r → Holds (box_test p r) (box_test c r)
unfolding box_test
box-holds c p r C P i u =
    overlap-holds _ _ _ _ _ _
    (slab-holds p.min.x c.min.x c.max.x p.max.x r.origin.x r.direction.x P.min.x C.min.x C.max.x P.max.x u.origin.x u.x i.min.x C.fair.x i.max.x)
    (slab-holds p.min.y c.min.y c.max.y p.max.y r.origin.y r.direction.y P.min.y C.min.y C.max.y P.max.y u.origin.y u.y i.min.y C.fair.y i.max.y)
    (slab-holds p.min.z c.min.z c.max.z p.max.z r.origin.z r.direction.z P.min.z C.min.z C.max.z P.max.z u.origin.z u.z i.min.z C.fair.z i.max.z)

-- ---- what the tests make of it
-- the order of values with NaNs placed, back to that of the values
pub or_top-lt : (x v : Float) → T (lt (or_top x) v) → T (lt x v)
unfolding lt
or_top-lt nan nan h = h
or_top-lt nan (inf t) h = h
or_top-lt nan (fin t n d) h = h
or_top-lt (inf s) v h = h
or_top-lt (fin s m e) v h = h

pub lt-or_bot : (v x : Float) → T (lt v (or_bot x)) → T (lt v x)
unfolding lt
lt-or_bot nan x h = absurd h
lt-or_bot (inf true) nan h = h
lt-or_bot (inf false) nan h = h
lt-or_bot (fin s m e) nan h = h
lt-or_bot (inf s) (inf t) h = h
lt-or_bot (inf s) (fin t n d) h = h
lt-or_bot (fin s m e) (inf t) h = h
lt-or_bot (fin s m e) (fin t n d) h = h

pub or_top-le-finite : (x v : Float) → T (finite v) → T (le (or_top x) v) → T (le x v)
unfolding le
or_top-le-finite x nan p h = absurd p
or_top-le-finite x (inf t) p h = absurd p
or_top-le-finite nan (fin t n d) p h = h
or_top-le-finite (inf s) (fin t n d) p h = h
or_top-le-finite (fin s m e) (fin t n d) p h = h

module _ (o i : Span) (h : Holds o i) where
  -- where the outer leave is a number, the inner one, with a NaN placed, is at most that; and so for the enters
  leave-le : T (number o.tmax) → T (le (or_top i.tmax) o.tmax)
  leave-le n = rw (or_top-id o.tmax n) at h.tmax

  enter-le : T (number o.tmin) → T (le o.tmin (or_bot i.tmin))
  enter-le n = rw (or_bot-id o.tmin n) at h.tmin

  not-empty : T (lt o.tmax o.tmin) → T (lt i.tmax i.tmin)
  not-empty k =
      let a = leave-le (lt-number-l o.tmax o.tmin k) in
      let b = enter-le (lt-number-r o.tmax o.tmin k) in
      lt-or_bot i.tmax i.tmin (or_top-lt i.tmax (or_bot i.tmin) (le_lt_trans (or_top i.tmax) o.tmax (or_bot i.tmin) a (lt-le-trans o.tmax o.tmin (or_bot i.tmin) k b)))

  not_behind : T (le o.tmax zero_f) → T (le i.tmax zero_f)
  unfolding of_bits
  not_behind k = or_top-le-finite i.tmax zero_f tt (le_trans (or_top i.tmax) o.tmax zero_f (leave-le (le-number-l o.tmax zero_f k)) k)

  -- a span that holds one that passes, passes
  pub holds-passes : T (passes i) → T (passes o)
  holds-passes p =
      and_i (not (lt o.tmax o.tmin)) (not (le o.tmax zero_f))
      (not_T (lt o.tmax o.tmin) (λ (k : T (lt o.tmax o.tmin)). T_not (lt i.tmax i.tmin) (and_l (not (lt i.tmax i.tmin)) (not (le i.tmax zero_f)) p) (not-empty k)))
      (not_T (le o.tmax zero_f) (λ (k : T (le o.tmax zero_f)). T_not (le i.tmax zero_f) (and_r (not (lt i.tmax i.tmin)) (not (le i.tmax zero_f)) p) (not_behind k)))

  -- and is entered no later
  pub holds-enters : T (not (lt i.tmin o.tmin))
  holds-enters = not_T (lt i.tmin o.tmin) (λ (k : T (lt i.tmin o.tmin)).
      le-not-gt o.tmin i.tmin (rw (or_bot-id i.tmin (lt-number-l i.tmin o.tmin k)) at (enter-le (lt-number-r i.tmin o.tmin k))) k)

  -- so the walk skips it only where the best t is no larger than any t at which the inner span is already entered
  pub holds-skips : (t best : Float) → T (passes i) → T (le i.tmin t) → T (skips o best) → T (le best t)
  holds-skips t best p e s =
      elim (or_yes (lt o.tmax o.tmin || le o.tmax zero_f) (le best o.tmin) s) [
        | inl k ↦ absurd (T_not (lt o.tmax o.tmin || le o.tmax zero_f) (neither (lt o.tmax o.tmin) (le o.tmax zero_f) (holds-passes p)) k)
        | inr k ↦ le_trans best o.tmin t k (le_trans o.tmin i.tmin t (rw (or_bot-id i.tmin (le-number-l i.tmin t e)) at (enter-le (le-number-r best o.tmin k))) e)
      ]
    where
      neither : (a b : Bool) → T (not a && not b) → T (not (a || b))
      neither true b h = h
      neither false b h = h

-- ---- the claim
-- c's box passes the test and is entered no later than t. Then p's box, around c's, passes too, is entered no later than c's, and is skipped only if the best t is already no larger than t.
pub record Nested (c p : Span) (t : Float) : Type 0 where
  pub passes-too : T (passes p)
  pub no_later : T (not (lt c.tmin p.tmin))
  pub skipped-only : (best : Float) → T (skips p best) → T (le best t)

pub nested : (c p : BBox) (r : Ray) (t : Float) → Sound c → Sound p → Inside c p → Usable r → T (passes (box_test c r)) → T (le (box_test c r).tmin t) → Nested (box_test c r) (box_test p r) t
nested c p r t C P i u a e =
    let h = box-holds c p r C P i u in
    record {
      passes-too = holds-passes (box_test p r) (box_test c r) h a;
      no_later = holds-enters (box_test p r) (box_test c r) h;
      skipped-only = λ best s. holds-skips (box_test p r) (box_test c r) h t best a e s;
    }

-- ---- `extend_box` holds both
fin-refl : (x : Float) → T (within x) → T (le x x)
fin-refl x h = le_refl x (finite_number x (within-finite x h))

pub inside-refl : (b : BBox) → Sound b → Inside b b
inside-refl b s = record {
  min = record { x = fin-refl b.min.x s.min.x; y = fin-refl b.min.y s.min.y; z = fin-refl b.min.z s.min.z };
  max = record { x = fin-refl b.max.x s.max.x; y = fin-refl b.max.y s.max.y; z = fin-refl b.max.z s.max.z };
}

pub under-trans : (u v w : Vector) → Under u v → Under v w → Under u w
under-trans u v w h k = record { x = le_trans u.x v.x w.x h.x k.x; y = le_trans u.y v.y w.y h.y k.y; z = le_trans u.z v.z w.z h.z k.z }

pub inside-trans : (a b c : BBox) → Inside a b → Inside b c → Inside a c
inside-trans a b c h k = record { min = under-trans c.min b.min a.min k.min h.min; max = under-trans a.max b.max c.max h.max k.max }

-- one component of `min`, and of `max`
pub record Least (a b m : Float) : Type 0 where
  pub l : T (le m a)
  pub r : T (le m b)
  pub within : T (within m)

pub record Greatest (a b m : Float) : Type 0 where
  pub l : T (le a m)
  pub r : T (le b m)
  pub within : T (within m)

least-one : (a b : Float) → T (within a) → T (within b) → Least a b (min_of a b)
unfolding min_of
least-one a b h k = record { l = min_of-le-l a b A B; r = min_of-le-r a b A B; within = pick (is_nan a || lt b a) }
  where
    A : T (finite a)
    A = within-finite a h

    B : T (finite b)
    B = within-finite b k

    pick : (t : Bool) → T (within (cond t b a))
    pick true = k
    pick false = h

greatest-one : (a b : Float) → T (within a) → T (within b) → Greatest a b (max_of a b)
unfolding max_of
greatest-one a b h k = record { l = le-max_of-l a b A B; r = le-max_of-r a b A B; within = pick (is_nan a || lt a b) }
  where
    A : T (finite a)
    A = within-finite a h

    B : T (finite b)
    B = within-finite b k

    pick : (t : Bool) → T (within (cond t b a))
    pick true = k
    pick false = h

pub record Extended (a b e : BBox) : Type 0 where
  pub one : Inside a e
  pub two : Inside b e
  pub sound : Sound e

pub extend-holds : (a b : BBox) → Sound a → Sound b → Extended a b (extend_box a b)
unfolding extend_box min_v max_v
extend-holds a b A B =
    let x = least-one a.min.x b.min.x A.min.x B.min.x in
    let y = least-one a.min.y b.min.y A.min.y B.min.y in
    let z = least-one a.min.z b.min.z A.min.z B.min.z in
    let x' = greatest-one a.max.x b.max.x A.max.x B.max.x in
    let y' = greatest-one a.max.y b.max.y A.max.y B.max.y in
    let z' = greatest-one a.max.z b.max.z A.max.z B.max.z in
    let l : Under (extend_box a b).min a.min = record { x = x.l; y = y.l; z = z.l } in
    let g : Under a.max (extend_box a b).max = record { x = x'.l; y = y'.l; z = z'.l } in
    record {
      one = record { min = l; max = g };
      two = record { min = record { x = x.r; y = y.r; z = z.r }; max = record { x = x'.r; y = y'.r; z = z'.r } };
      sound = record {
        min = record { x = x.within; y = y.within; z = z.within };
        max = record { x = x'.within; y = y'.within; z = z'.within };
        fair = under-trans (extend_box a b).min a.min (extend_box a b).max l (under-trans a.min a.max (extend_box a b).max A.fair g);
      };
    }
