-- The box test against slabs: the proofs. Assumes nothing.
use mathlib.Core.Path.{◌≡◌, refl, sym, subst}
use mathlib.Core.Logic.{◌⊎◌, inl, inr}
use mathlib.Core.Bool.{not}
use lib.Dec.{T, not_T}
use lib.Ieee.{Float, nan, inf, fin, eq, lt, le, is_nan, of_bits}
use lib.Ieee.Scale.{finite}
use lib.Ieee.Fits.{and_i, and_l, and_r}
use Rattle.floats.specs.Arith.{◌⊖◌, zero_f}
use Rattle.floats.specs.Numbers.{number, within, min_of, max_of}
use Rattle.floats.proofs.Bounds.{within-sub}
use Rattle.floats.proofs.Quotients.{quotient-number}
use Rattle.floats.proofs.Order.{finite_number, le_refl, le_trans, le-not-gt, not-gt→le, le→not-gt, not-ge→lt, lt-le-trans, le-number-l, le-number-r}
use Rattle.geometry.specs.Boxes.{span_of, ordered, slab, overlap, box_test, passes}
use Rattle.geometry.specs.declared.ray.Ray.{Ray}
use Rattle.geometry.specs.declared.bounding_box.BBox.{BBox}
use Rattle.geometry.specs.declared.bounding_box.Span.{Span}
use Rattle.theorem_published.specs.Slabs.{meets_at, InSlabs, MeetsAll, InSpan, AheadInSlabs, slab_x, slab_y, slab_z, WithinEnds}
use Rattle.theorem_published.specs.Slabs.{SlantedMeetsAll, TestIsOverlap, PassesExactlyAhead, SwappedByComparison, EnteredLast, LeftFirst, WithinAllSlabs}
use Rattle.theorem_published.proofs.Overlaps.{Numbers, ordered-numbers, ordered-in, ordered-out, overlap-numbers, overlap-in, overlap-out, last_of, first_of}

-- ---- planes are met at numbers
met-number : (p o d : Float) → T (within p) → T (within o) → T (finite d) × T (not (eq d zero_f)) → T (number (meets_at p o d))
met-number p o d P O h = quotient-number (p ⊖ o) d (finite_number (p ⊖ o) (within-sub p o P O)) h.0 h.1

pub slanted-meets-all : SlantedMeetsAll
slanted-meets-all b r low high from slanted =
    let o = r.origin in
    let d = r.direction in (
      (met-number b.min.x o.x d.x low.x from.x slanted.x, met-number b.max.x o.x d.x high.x from.x slanted.x),
      (met-number b.min.y o.y d.y low.y from.y slanted.y, met-number b.max.y o.y d.y high.y from.y slanted.y),
      (met-number b.min.z o.z d.z low.z from.z slanted.z, met-number b.max.z o.z d.z high.z from.z slanted.z),
    )

module _ (b : BBox) (r : Ray) (n : MeetsAll b r) where
  X : Numbers (slab_x b r)
  unfolding slab
  X = ordered-numbers (meets_at b.min.x r.origin.x r.direction.x) (meets_at b.max.x r.origin.x r.direction.x) n.0.0 n.0.1

  Y : Numbers (slab_y b r)
  unfolding slab
  Y = ordered-numbers (meets_at b.min.y r.origin.y r.direction.y) (meets_at b.max.y r.origin.y r.direction.y) n.1.0 n.1.1

  Z : Numbers (slab_z b r)
  unfolding slab
  Z = ordered-numbers (meets_at b.min.z r.origin.z r.direction.z) (meets_at b.max.z r.origin.z r.direction.z) n.2.0 n.2.1

  test-numbers : Numbers (box_test b r)
  unfolding box_test
  test-numbers = overlap-numbers (slab_x b r) (slab_y b r) (slab_z b r) X Y Z

  -- ---- what lies from tmin to tmax is what lies in all three slabs
  slabs-in : (u : Float) → InSlabs b r u → InSpan (box_test b r) u
  unfolding box_test slab
  slabs-in u h =
      overlap-in (slab_x b r) (slab_y b r) (slab_z b r) X Y Z u
      (ordered-in (meets_at b.min.x r.origin.x r.direction.x) (meets_at b.max.x r.origin.x r.direction.x) n.0.0 n.0.1 u h.0)
      (ordered-in (meets_at b.min.y r.origin.y r.direction.y) (meets_at b.max.y r.origin.y r.direction.y) n.1.0 n.1.1 u h.1)
      (ordered-in (meets_at b.min.z r.origin.z r.direction.z) (meets_at b.max.z r.origin.z r.direction.z) n.2.0 n.2.1 u h.2)

  slabs-out : (u : Float) → InSpan (box_test b r) u → InSlabs b r u
  unfolding box_test slab
  slabs-out u h =
      let w = overlap-out (slab_x b r) (slab_y b r) (slab_z b r) X Y Z u h in (
        ordered-out (meets_at b.min.x r.origin.x r.direction.x) (meets_at b.max.x r.origin.x r.direction.x) n.0.0 n.0.1 u w.0,
        ordered-out (meets_at b.min.y r.origin.y r.direction.y) (meets_at b.max.y r.origin.y r.direction.y) n.1.0 n.1.1 u w.1,
        ordered-out (meets_at b.min.z r.origin.z r.direction.z) (meets_at b.max.z r.origin.z r.direction.z) n.2.0 n.2.1 u w.2,
      )

pub test-is-overlap : TestIsOverlap
test-is-overlap b r n u = (slabs-out b r n u, slabs-in b r n u)

zero_number : T (number zero_f)
unfolding of_bits
zero_number = tt

-- ---- a box passes exactly where there is a parameter above 0 in all of them
module _ (b : BBox) (r : Ray) (n : MeetsAll b r) where
  abbrev lo : Float
  lo = (box_test b r).tmin

  abbrev hi : Float
  hi = (box_test b r).tmax

  passes-ahead : T (passes (box_test b r)) → AheadInSlabs b r
  passes-ahead h =
      let m = test-numbers b r n in
      record {
        at = hi;
        ahead = not-ge→lt zero_f hi zero_number m.1 (and_r (not (lt hi lo)) (not (le hi zero_f)) h);
        inside = slabs-out b r n hi (not-gt→le lo hi m.0 m.1 (and_l (not (lt hi lo)) (not (le hi zero_f)) h), le_refl hi m.1);
      }

  ahead-passes : AheadInSlabs b r → T (passes (box_test b r))
  ahead-passes w =
      let u = w.at in
      let h = slabs-in b r n u w.inside in
      and_i (not (lt hi lo)) (not (le hi zero_f)) (le→not-gt lo hi (le_trans lo u hi h.0 h.1))
      (not_T (le hi zero_f) (λ q. le-not-gt hi zero_f q (lt-le-trans zero_f u hi w.ahead h.1)))

pub passes-exactly-ahead : PassesExactlyAhead
passes-exactly-ahead b r n = (passes-ahead b r n, ahead-passes b r n)

-- ---- whatever is a NaN
pub entered-last : EnteredLast
unfolding box_test overlap
entered-last b r = last_of (slab_x b r).tmin (slab_y b r).tmin (slab_z b r).tmin

pub left-first : LeftFirst
unfolding box_test overlap
left-first b r = first_of (slab_x b r).tmax (slab_y b r).tmax (slab_z b r).tmax

module _ (b : BBox) (r : Ray) (u : Float) where
  within_in : WithinEnds (slab_x b r) u → WithinEnds (slab_y b r) u → WithinEnds (slab_z b r) u → WithinEnds (box_test b r) u
  within_in hx hy hz = (λ n. low (entered-last b r).one n, λ n. high (left-first b r).one n)
    where
      under : {x m : Float} → m ≡ x → (T (number x) → T (le x u)) → T (number m) → T (le m u)
      under {x} {m} e h n = subst (λ (y : Float). T (le y u)) (sym e) (h (subst (λ (y : Float). T (number y)) e n))

      over : {x m : Float} → m ≡ x → (T (number x) → T (le u x)) → T (number m) → T (le u m)
      over {x} {m} e h n = subst (λ (y : Float). T (le u y)) (sym e) (h (subst (λ (y : Float). T (number y)) e n))

      low : {m : Float} → (m ≡ (slab_x b r).tmin) ⊎ ((m ≡ (slab_y b r).tmin) ⊎ (m ≡ (slab_z b r).tmin)) → T (number m) → T (le m u)
      low (inl e) n = under e hx.0 n
      low (inr (inl e)) n = under e hy.0 n
      low (inr (inr e)) n = under e hz.0 n

      high : {m : Float} → (m ≡ (slab_x b r).tmax) ⊎ ((m ≡ (slab_y b r).tmax) ⊎ (m ≡ (slab_z b r).tmax)) → T (number m) → T (le u m)
      high (inl e) n = over e hx.1 n
      high (inr (inl e)) n = over e hy.1 n
      high (inr (inr e)) n = over e hz.1 n

  within-out : WithinEnds (box_test b r) u → WithinEnds (slab_x b r) u × WithinEnds (slab_y b r) u × WithinEnds (slab_z b r) u
  within-out h =
      let a = entered-last b r in
      let z = left-first b r in
      ((λ n. below (slab_x b r).tmin (a.first n), λ n. above (slab_x b r).tmax (z.first n)), (λ n. below (slab_y b r).tmin (a.second n), λ n. above (slab_y b r).tmax (z.second n)), (λ n. below (slab_z b r).tmin (a.third n), λ n. above (slab_z b r).tmax (z.third n)))
    where
      below : (x : Float) → T (le x (box_test b r).tmin) → T (le x u)
      below x l = le_trans x (box_test b r).tmin u l (h.0 (le-number-r x (box_test b r).tmin l))

      above : (x : Float) → T (le (box_test b r).tmax x) → T (le u x)
      above x l = le_trans u (box_test b r).tmax x (h.1 (le-number-l (box_test b r).tmax x l)) l

pub within-all-slabs : WithinAllSlabs
within-all-slabs b r u = (within-out b r u, λ h. within_in b r u h.0 h.1 h.2)

-- ---- the ends of a slab at a NaN
nan-first : (b : Float) → ordered nan b ≡ span_of nan b
unfolding ordered lt
nan-first nan = refl
nan-first (inf s) = refl
nan-first (fin s m e) = refl

nan-second : (a : Float) → ordered a nan ≡ span_of a nan
unfolding ordered lt
nan-second nan = refl
nan-second (inf s) = refl
nan-second (fin s m e) = refl

pub swapped-by-comparison : SwappedByComparison
unfolding ordered min_of max_of lt is_nan of_bits
swapped-by-comparison = record { first_nan = nan-first; second_nan = nan-second; not_by_min_and_max = λ h. subst (λ (s : Span). T (number s.tmin)) (sym h) tt }
