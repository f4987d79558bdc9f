-- Two ends put in order, the greater and the lesser of two floats, and where three spans overlap: laws for the box test. Assumes nothing.
use mathlib.Core.Path.{◌≡◌, refl, sym, ◌∙◌, subst}
use mathlib.Core.Logic.{◌⊎◌, inl, inr}
use mathlib.Core.Bool.{Bool, true, false, not, cond, ◌||◌}
use lib.Dec.{T}
use lib.Ieee.{Float, is_nan, lt, le}
use Rattle.floats.specs.Numbers.{number, min_of, max_of}
use Rattle.floats.proofs.Order.{le_trans, le-not-gt, not-gt→le, lt-number-l, lt-number-r}
use Rattle.floats.proofs.Extremes.{not-nan, is-nan, or_bot-id, or_top-id, max_of-left, max_of-right, min_of-left, min_of-right}
use Rattle.geometry.specs.Boxes.{span_of, ordered, overlap}
use Rattle.geometry.specs.declared.bounding_box.Span.{Span}
use Rattle.theorem_published.specs.Slabs.{Between, InSpan, LastOfThree, FirstOfThree}

-- ---- where both ends are numbers
abbrev pub Numbers : Span → Type 0
Numbers s = T (number s.tmin) × T (number s.tmax)

module _ (a b : Float) (na : T (number a)) (nb : T (number b)) where
  pub ordered-numbers : Numbers (ordered a b)
  unfolding ordered
  ordered-numbers = go (lt b a)
    where
      go : (t : Bool) → Numbers (cond t (span_of b a) (span_of a b))
      go true = (nb, na)
      go false = (na, nb)

  pub ordered-in : (u : Float) → Between a b u → InSpan (ordered a b) u
  unfolding ordered
  ordered-in u h = go (lt b a) refl h
    where
      go : (t : Bool) → lt b a ≡ t → Between a b u → InSpan (cond t (span_of b a) (span_of a b)) u
      go true e (inl w) = absurd (le-not-gt a b (le_trans a u b w.0 w.1) (subst T (sym e) tt))
      go true e (inr w) = w
      go false e (inl w) = w
      go false e (inr w) =
          let l = not-gt→le a b na nb (subst (λ (s : Bool). T (not s)) (sym e) tt) in
          (le_trans a b u l w.0, le_trans u a b w.1 l)

  pub ordered-out : (u : Float) → InSpan (ordered a b) u → Between a b u
  unfolding ordered
  ordered-out u h = go (lt b a) h
    where
      go : (t : Bool) → InSpan (cond t (span_of b a) (span_of a b)) u → Between a b u
      go true w = inr w
      go false w = inl w

  max-number : T (number (max_of a b))
  unfolding max_of
  max-number = go (is_nan a || lt a b)
    where
      go : (t : Bool) → T (number (cond t b a))
      go true = nb
      go false = na

  min-number : T (number (min_of a b))
  unfolding min_of
  min-number = go (is_nan a || lt b a)
    where
      go : (t : Bool) → T (number (cond t b a))
      go true = nb
      go false = na

  max-under : (u : Float) → T (le a u) → T (le b u) → T (le (max_of a b) u)
  unfolding max_of
  max-under u h k = go (is_nan a || lt a b)
    where
      go : (t : Bool) → T (le (cond t b a) u)
      go true = k
      go false = h

  min-over : (u : Float) → T (le u a) → T (le u b) → T (le u (min_of a b))
  unfolding min_of
  min-over u h k = go (is_nan a || lt b a)
    where
      go : (t : Bool) → T (le u (cond t b a))
      go true = k
      go false = h

  under-max : (u : Float) → T (le (max_of a b) u) → T (le a u) × T (le b u)
  under-max u h =
      let l : T (le a (max_of a b)) = rw (or_bot-id a na, or_bot-id (max_of a b) max-number) at (max_of-left a b) in
      let k : T (le b (max_of a b)) = rw (or_bot-id b nb, or_bot-id (max_of a b) max-number) at (max_of-right a b) in
      (le_trans a (max_of a b) u l h, le_trans b (max_of a b) u k h)

  over-min : (u : Float) → T (le u (min_of a b)) → T (le u a) × T (le u b)
  over-min u h =
      let l : T (le (min_of a b) a) = rw (or_top-id a na, or_top-id (min_of a b) min-number) at (min_of-left a b) in
      let k : T (le (min_of a b) b) = rw (or_top-id b nb, or_top-id (min_of a b) min-number) at (min_of-right a b) in
      (le_trans u (min_of a b) a h l, le_trans u (min_of a b) b h k)

module _ (a b c : Span) (na : Numbers a) (nb : Numbers b) (nc : Numbers c) where
  pub overlap-numbers : Numbers (overlap a b c)
  unfolding overlap
  overlap-numbers = (
    max-number (max_of a.tmin b.tmin) c.tmin (max-number a.tmin b.tmin na.0 nb.0) nc.0,
    min-number (min_of a.tmax b.tmax) c.tmax (min-number a.tmax b.tmax na.1 nb.1) nc.1,
  )

  pub overlap-in : (u : Float) → InSpan a u → InSpan b u → InSpan c u → InSpan (overlap a b c) u
  unfolding overlap
  overlap-in u ha hb hc = (
    max-under (max_of a.tmin b.tmin) c.tmin (max-number a.tmin b.tmin na.0 nb.0) nc.0 u (max-under a.tmin b.tmin na.0 nb.0 u ha.0 hb.0) hc.0,
    min-over (min_of a.tmax b.tmax) c.tmax (min-number a.tmax b.tmax na.1 nb.1) nc.1 u (min-over a.tmax b.tmax na.1 nb.1 u ha.1 hb.1) hc.1,
  )

  pub overlap-out : (u : Float) → InSpan (overlap a b c) u → InSpan a u × InSpan b u × InSpan c u
  unfolding overlap
  overlap-out u h =
      let lo = under-max (max_of a.tmin b.tmin) c.tmin (max-number a.tmin b.tmin na.0 nb.0) nc.0 u h.0 in
      let hi = over-min (min_of a.tmax b.tmax) c.tmax (min-number a.tmax b.tmax na.1 nb.1) nc.1 u h.1 in
      let low = under-max a.tmin b.tmin na.0 nb.0 u lo.0 in
      let high = over-min a.tmax b.tmax na.1 nb.1 u hi.0 in
      ((low.0, high.0), (low.1, high.1), (lo.1, hi.1))

-- ---- whatever is a NaN
no_nan : (x : Float) → T (number x) → is_nan x ≡ true → ⊥
no_nan x n e = subst (λ (y : Float). T (number y)) (is-nan x (subst T (sym e) tt)) n

module _ (a b : Float) where
  max-one : (max_of a b ≡ a) ⊎ (max_of a b ≡ b)
  unfolding max_of
  max-one = go (is_nan a || lt a b)
    where
      go : (t : Bool) → (cond t b a ≡ a) ⊎ (cond t b a ≡ b)
      go true = inr refl
      go false = inl refl

  min-one : (min_of a b ≡ a) ⊎ (min_of a b ≡ b)
  unfolding min_of
  min-one = go (is_nan a || lt b a)
    where
      go : (t : Bool) → (cond t b a ≡ a) ⊎ (cond t b a ≡ b)
      go true = inr refl
      go false = inl refl

  max-some : T (number a) ⊎ T (number b) → T (number (max_of a b))
  unfolding max_of
  max-some h = go (is_nan a) (lt a b) refl refl h
    where
      go : (s t : Bool) → is_nan a ≡ s → lt a b ≡ t → T (number a) ⊎ T (number b) → T (number (cond (s || t) b a))
      go true t e f (inl n) = absurd (no_nan a n e)
      go true t e f (inr n) = n
      go false true e f n = lt-number-r a b (subst T (sym f) tt)
      go false false e f n = not-nan a (subst (λ (s : Bool). T (not s)) (sym e) tt)

  min-some : T (number a) ⊎ T (number b) → T (number (min_of a b))
  unfolding min_of
  min-some h = go (is_nan a) (lt b a) refl refl h
    where
      go : (s t : Bool) → is_nan a ≡ s → lt b a ≡ t → T (number a) ⊎ T (number b) → T (number (cond (s || t) b a))
      go true t e f (inl n) = absurd (no_nan a n e)
      go true t e f (inr n) = n
      go false true e f n = lt-number-l b a (subst T (sym f) tt)
      go false false e f n = not-nan a (subst (λ (s : Bool). T (not s)) (sym e) tt)

  max-above-l : T (number a) → T (le a (max_of a b))
  max-above-l n = rw (or_bot-id a n, or_bot-id (max_of a b) (max-some (inl n))) at (max_of-left a b)

  max-above-r : T (number b) → T (le b (max_of a b))
  max-above-r n = rw (or_bot-id b n, or_bot-id (max_of a b) (max-some (inr n))) at (max_of-right a b)

  min-below-l : T (number a) → T (le (min_of a b) a)
  min-below-l n = rw (or_top-id a n, or_top-id (min_of a b) (min-some (inl n))) at (min_of-left a b)

  min-below-r : T (number b) → T (le (min_of a b) b)
  min-below-r n = rw (or_top-id b n, or_top-id (min_of a b) (min-some (inr n))) at (min_of-right a b)

one_of : (a b c k m : Float) → (k ≡ a) ⊎ (k ≡ b) → (m ≡ k) ⊎ (m ≡ c) → (m ≡ a) ⊎ ((m ≡ b) ⊎ (m ≡ c))
one_of a b c k m h (inr e) = inr (inr e)
one_of a b c k m (inl f) (inl e) = inl (e ∙ f)
one_of a b c k m (inr f) (inl e) = inr (inl (e ∙ f))

pub last_of : (a b c : Float) → LastOfThree a b c (max_of (max_of a b) c)
last_of a b c =
    let k = max_of a b in
    record {
      one = one_of a b c k (max_of k c) (max-one a b) (max-one k c);
      first = λ n. le_trans a k (max_of k c) (max-above-l a b n) (max-above-l k c (max-some a b (inl n)));
      second = λ n. le_trans b k (max_of k c) (max-above-r a b n) (max-above-l k c (max-some a b (inr n)));
      third = λ n. max-above-r k c n;
    }

pub first_of : (a b c : Float) → FirstOfThree a b c (min_of (min_of a b) c)
first_of a b c =
    let k = min_of a b in
    record {
      one = one_of a b c k (min_of k c) (min-one a b) (min-one k c);
      first = λ n. le_trans (min_of k c) k a (min-below-l k c (min-some a b (inl n))) (min-below-l a b n);
      second = λ n. le_trans (min_of k c) k b (min-below-l k c (min-some a b (inr n))) (min-below-r a b n);
      third = λ n. min-below-r k c n;
    }
