-- A root compared with a number l by the square of l. Rounding keeps the order, so an x below the rounded square of l is below the exact one, and its exact root
-- below l. Assumes nothing.
use Rattle.std.proofs.Common.{◌≡◌, ℕ, zero, suc, ◌+◌, ◌-◌, ◌*◌, ◌^◌, ◌<◌, ◌≤◌, Bool, true, false, cond, not, T, sym, ap, subst, inl, inr, le_refl, le_of_lt, mul-le-mul_right, mul-le-mul, lt_of_mul-lt-mul_right, mul-lt-mul_of_pos_right, mul-pos, lt_of_not-le, arith, pow_pos, pow-add}
use lib.Dec.{not_T}
use lib.Ieee.{Float, nan, inf, fin, binary64, fits, round, lt, le, eq, mul, of_bits}
use lib.Ieee.Bits.{is_true, is_false}
use lib.Ieee.Exact.{HasValue, round_exact}
use lib.Ieee.Order.{round_mono, le_of_values}
use lib.Ieee.Scale.{finite}
use lib.Ieee.Positive.{num, den, den_pos, positive, positive-finite, own_value}
use Rattle.floats.specs.Arith.{◌⊗◌, zero_f}
use Rattle.floats.proofs.Order.{finite_number, le-number-l, lt-number-l, lt-number-r, le_refl as le-refl-float, le_antisymm, eq→le, lt→cross, lt→le, lt-le-trans, lt_trans, le_trans, le-top, le-or-gt, le-not-gt, le→not-gt}
use Rattle.floats.proofs.Nonneg.{unsigned, le→sizes, positive-num, positive-nonneg}
use Rattle.floats.proofs.Rounding.{square-is}
use Rattle.sqrt.specs.Root.{sqrt_of}
use Rattle.sqrt.specs.Nearest.{square, sum_num, sum_den, NearestOfAll}
use Rattle.sqrt.proofs.Monotone.{fitting, sqrt-number, sqrt-nonneg}
use Rattle.sqrt.proofs.Nearest.{counted, nearest-of-all}

-- ---- on whole numbers: x is nx / dx, l is nl / dl and the root nr / dr
module _ (nx dx nl dl nr dr : ℕ) where
  no-greater : nx * (dl * dl) < nl * nl * dx → nl * dr ≤ nr * dl → square (nr * dl + nl * dr) * dx < 4 * nx * square (dl * dr) → ⊥
  no-greater h k n =
      let w : nl * dr + nl * dr ≤ nr * dl + nl * dr = omega (arith, k) in
      omega (arith, n, mul-le-mul_right dx (mul-le-mul w w), mul-le-mul_right (dr * dr) (le_of_lt h))

  no_less : nl * nl * dx < nx * (dl * dl) → nr * dl ≤ nl * dr → 4 * nx * square (dl * dr) < square (nr * dl + nl * dr) * dx → ⊥
  no_less h k n =
      let w : nr * dl + nl * dr ≤ nl * dr + nl * dr = omega (arith, k) in
      omega (arith, n, mul-le-mul_right dx (mul-le-mul w w), mul-le-mul_right (dr * dr) (le_of_lt h))

-- ---- rounding keeps an f64
top : (x : Float) → T (fits binary64 x) → T (positive x) → num x < 2 ^ 1024 * den x
top nan f p = absurd p
top (inf s) f p = absurd p
top (fin true m e) f p = absurd p
top (fin false zero e) f p = absurd p
top (fin false (suc m) e) f p = (fitting false m e f).top

within : (q d n A B C : ℕ) → n * B ≡ q * d → n < A * d → 0 < B → C ≡ A * B → q < C
within q d n A B C is h b c = lt_of_mul-lt-mul_right d (omega (arith, is, mul-lt-mul_of_pos_right h b, ap (λ (z : ℕ). z * d) c))

stays : (x : Float) → T (fits binary64 x) → T (positive x) → HasValue (round binary64 false (num x) (den x)) false (num x) (den x)
stays x f p =
    let c = counted x f (positive-finite x p) in
    round_exact binary64 false (num x) (den x) c.q c.k (den_pos x) c.few
    (within (c.q * 2 ^ c.k) (den x) (num x) (2 ^ 1024) (2 ^ 1074) (2 ^ 2098) c.same (top x f p) (pow_pos 1074) (pow-add 2 1024 1074)) c.same

-- ---- the exact square
module _ (x l : Float) (f : T (fits binary64 x)) (p : T (positive x)) (q : T (positive l)) where
  abbrev itself : Float
  itself = round binary64 false (num x) (den x)

  D> : 0 < den l * den l
  D> = mul-pos (den_pos l) (den_pos l)

  exact_below : T (lt x (l ⊗ l)) → num x * (den l * den l) < num l * num l * den x
  exact_below h =
      lt_of_not-le (λ (g : num l * num l * den x ≤ num x * (den l * den l)).
      le-not-gt (l ⊗ l) x
      (le_trans (l ⊗ l) itself x
      (subst (λ (z : Float). T (le z itself)) (sym (square-is l (positive-finite l q))) (round_mono binary64 (num l * num l) (den l * den l) (num x) (den x) D> (den_pos x) g))
      (le_of_values itself x (num x) (den x) (num x) (den x) (den_pos x) (den_pos x) (stays x f p) (own_value x p) (le_refl (num x * den x))))
      h)

  exact_above : T (lt (l ⊗ l) x) → num l * num l * den x < num x * (den l * den l)
  exact_above h =
      lt_of_not-le (λ (g : num x * (den l * den l) ≤ num l * num l * den x).
      le-not-gt x (l ⊗ l)
      (le_trans x itself (l ⊗ l)
      (le_of_values x itself (num x) (den x) (num x) (den x) (den_pos x) (den_pos x) (own_value x p) (stays x f p) (le_refl (num x * den x)))
      (subst (λ (z : Float). T (le itself z)) (sym (square-is l (positive-finite l q))) (round_mono binary64 (num x) (den x) (num l * num l) (den l * den l) (den_pos x) D> g)))
      h)

  abbrev r : Float
  r = sqrt_of x

  N : NearestOfAll x r
  N = nearest-of-all x f p

  shape : sum_num l r ≡ num r * den l + num l * den r
  shape = ap (λ (v : Bool). cond v (num r * den l - num l * den r) (num r * den l + num l * den r)) (is_false (lt l zero_f) (le→not-gt zero_f l (positive-nonneg l q)))

  module _ (g : T (fits binary64 l)) where
    at_most : T (lt x (l ⊗ l)) → T (le r l)
    at_most h = elim (le-or-gt r l (finite_number r N.bounded) (finite_number l (positive-finite l q))) [
      | inl k ↦ k
      | inr k ↦ absurd
          (no-greater (num x) (den x) (num l) (den l) (num r) (den r) (exact_below h)
          (le→sizes l r (positive-finite l q) N.bounded (positive-nonneg l q) N.nonneg (lt→le l r k))
          (subst (λ (s : ℕ). square s * den x < 4 * num x * square (sum_den l r)) shape ((N.nearer l g (positive-finite l q)).below k)))
    ]

    at_least : T (lt (l ⊗ l) x) → T (le l r)
    at_least h = elim (le-or-gt l r (finite_number l (positive-finite l q)) (finite_number r N.bounded)) [
      | inl k ↦ k
      | inr k ↦ absurd
          (no_less (num x) (den x) (num l) (den l) (num r) (den r) (exact_above h)
          (le→sizes r l N.bounded (positive-finite l q) N.nonneg (positive-nonneg l q) (lt→le r l k))
          (subst (λ (s : ℕ). 4 * num x * square (sum_den l r) < square s * den x) shape ((N.nearer l g (positive-finite l q)).above k)))
    ]

-- ---- what the tests show
above_zero : (x : Float) → T (finite x) → T (lt zero_f x) → T (positive x)
unfolding of_bits
above_zero x p h =
    let n = lt→le zero_f x h in let u = unsigned x p n in
    positive-num x p n (omega (arith, lt→cross zero_f x tt p h, u.0, u.1))

none_above : (y : Float) → T (lt (inf false) y) → ⊥
unfolding lt
none_above nan h = h
none_above (inf true) h = h
none_above (inf false) h = h
none_above (fin s m e) h = h

finite-below : (x y : Float) → T (lt zero_f x) → T (lt x y) → T (finite x)
unfolding of_bits lt
finite-below nan y h k = h
finite-below (inf true) y h k = h
finite-below (inf false) y h k = absurd (none_above y k)
finite-below (fin s m e) y h k = tt

finite-square : (m x : Float) → T (lt zero_f m) → T (lt (m ⊗ m) x) → T (finite m)
unfolding of_bits mul lt
finite-square nan x h k = h
finite-square (inf true) x h k = h
finite-square (inf false) x h k = absurd (none_above x k)
finite-square (fin s m e) x h k = tt

at_top : (x m : Float) → T (fits binary64 x) → T (fits binary64 m) → T (lt zero_f x) → T (positive m) → T (lt (m ⊗ m) x) → T (le m (sqrt_of x))
unfolding of_bits lt sqrt_of
at_top nan m f g h p s = absurd h
at_top (inf true) m f g h p s = absurd h
at_top (inf false) m f g h p s = le-top m (finite_number m (positive-finite m p))
at_top (fin t n e) m f g h p s = at_least (fin t n e) m f (above_zero (fin t n e) tt h) p g s

yes : {b : Bool} → b ≡ true → T b
yes e = subst T (sym e) tt

-- of an x and an l above zero, and an m above l
module _ (x l : Float) (f : T (fits binary64 x)) (g : T (fits binary64 l)) (h : lt zero_f x ≡ true) (k : lt zero_f l ≡ true) (m : Float) (b : lt l m ≡ true) where
  below : lt x (l ⊗ l) ≡ true → T (le (sqrt_of x) l)
  below s = at_most x l f (above_zero x (finite-below x (l ⊗ l) (yes h) (yes s)) (yes h)) (above_zero l (finite-below l m (yes k) (yes b)) (yes k)) g (yes s)

  above : T (fits binary64 m) → lt (m ⊗ m) x ≡ true → T (lt l (sqrt_of x))
  above i s =
      let z = lt_trans zero_f l m (yes k) (yes b) in
      lt-le-trans l m (sqrt_of x) (yes b) (at_top x m f i (yes h) (above_zero m (finite-square m x z (yes s)) z) (yes s))

  pub at-most-below : lt x (l ⊗ l) ≡ true → true ≡ le (sqrt_of x) l
  at-most-below s = sym (is_true (le (sqrt_of x) l) (below s))

  pub at-most-above : T (fits binary64 m) → lt (m ⊗ m) x ≡ true → false ≡ le (sqrt_of x) l
  at-most-above i s = sym (is_false (le (sqrt_of x) l) (not_T (le (sqrt_of x) l) (λ e. le-not-gt (sqrt_of x) l e (above i s))))

-- ---- above l, where both are numbers and where one is none
module _ (x l : Float) where
  pub not-at-most : le zero_f x ≡ true → eq l l ≡ true → {r : Bool} → r ≡ le (sqrt_of x) l → not r ≡ lt l (sqrt_of x)
  not-at-most h k e = rw e (elim (le-or-gt (sqrt_of x) l (sqrt-number x (yes h)) (le-number-l l l (eq→le l l (yes k)))) [ inl i ↦ rw (is_true (le (sqrt_of x) l) i, is_false (lt l (sqrt_of x)) (le→not-gt (sqrt_of x) l i)) | inr i ↦ rw (is_false (le (sqrt_of x) l) (not_T (le (sqrt_of x) l) (λ j. le-not-gt (sqrt_of x) l j i)), is_true (lt l (sqrt_of x)) i) ])

  pub no-root : le zero_f x ≡ false → false ≡ lt l (sqrt_of x)
  no-root h = sym (is_false (lt l (sqrt_of x)) (not_T (lt l (sqrt_of x)) (λ i. subst T h (sqrt-nonneg x (lt-number-r l (sqrt_of x) i)))))

  pub no_bound : eq l l ≡ false → false ≡ lt l (sqrt_of x)
  no_bound h = sym (is_false (lt l (sqrt_of x)) (not_T (lt l (sqrt_of x)) (λ i. let n = le-refl-float l (lt-number-l l (sqrt_of x) i) in subst T h (le_antisymm l l n n))))
