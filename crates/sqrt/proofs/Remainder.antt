-- The defined remainder is the request's: the root and x as multiples of powers of 2 and 4, and what the remainder's sign tells. Assumes nothing.
use Rattle.std.proofs.Common.{◌≡◌, ℕ, zero, suc, ◌+◌, ◌-◌, ◌*◌, ◌^◌, ◌<◌, ◌≤◌, true, false, T, ◌↔◌, ℤ, pos, negsuc, ◌-ℤ◌, neg_ℤ, ◌<ℤ◌, sym, refl, ap, ◌∙◌, subst, inl, inr, le_trans, lt_of_lt_of_le, le_of_suc-le-suc, lt_irrefl, mul-le-mul_right, zero-lt-suc, le_antisymm, lt_of_mul-lt-mul_right, mul-lt-mul_of_pos_right, mul-pos, one-mul, lt_of_not-le, mul-one, arith, ltb→lt, lt→ltb, pow_pos, pow_mono, pow-add, shl_lt}
use native.Mathlib.Nat.{eq_of_mul-eq-mul_right}
use lib.Signed.{lt_z_yes, <ℤ_irrefl}
use lib.Ieee.{Float, nan, inf, fin, up, down}
use lib.Ieee.Fits.{up_pos, down_pos}
use lib.Ieee.Exact.{HasValue}
use lib.Ieee.Positive.{num, den, den_pos, positive, value→cross}
use Rattle.floats.proofs.Order.{le-or-lt}
use Rattle.sqrt.specs.Root.{nearest_root, dropped, scaled, sqrt_of, rest_of}
use Rattle.sqrt.specs.Nearest.{square}
use Rattle.sqrt.specs.Remainder.{RootHasRemainder, OneRemainder, ElseNoRemainder, RemainderTells}
use Rattle.sqrt.proofs.Rests.{less, more}
use Rattle.sqrt.proofs.Monotone.{units_of, root-full, sqrt-positive, fits-least}
use Rattle.sqrt.proofs.Nearest.{scaled-of, drops, root-lt, squared, root-value, square-at}

-- ---- 2 ^ d / 2 ^ c as a power of 2
record Power (c d : ℕ) : Type 0 where
  k : ℤ
  same : up k * 2 ^ c ≡ 2 ^ d * down k

power : (c d : ℕ) → Power c d
power c d = elim (le-or-lt c d) [ inl l ↦ up_from l | inr l ↦ down-from l ]
  where
    up_from : c ≤ d → Power c d
    up_from l =
        let e : d - c + c ≡ d = omega (arith, l) in
        record { k = pos (d - c); same = sym (pow-add 2 (d - c) c) ∙ ap (λ (z : ℕ). 2 ^ z) e ∙ sym (mul-one (2 ^ d)) }

    down-from : d < c → Power c d
    down-from l =
        let e : c ≡ d + suc (c - d - 1) = omega (arith, l) in
        record { k = negsuc (c - d - 1); same = one-mul (2 ^ c) ∙ ap (λ (z : ℕ). 2 ^ z) e ∙ pow-add 2 d (suc (c - d - 1)) }

cross→value : (x : Float) (a c : ℕ) → T (positive x) → num x * c ≡ a * den x → HasValue x false a c
cross→value nan a c p h = absurd p
cross→value (inf s) a c p h = absurd p
cross→value (fin true m e) a c p h = absurd p
cross→value (fin false m e) a c p h = (refl, h)

rest-value : (x : Float) → T (positive x) → rest_of x ≡ pos (scaled (units_of x)) -ℤ pos (square (nearest_root (scaled (units_of x))))
unfolding rest_of
rest-value nan p = absurd p
rest-value (inf s) p = absurd p
rest-value (fin true m e) p = absurd p
rest-value (fin false zero e) p = absurd p
rest-value (fin false (suc m) e) p = refl

-- from units of 1 / U and of 1 / (U * U), D of them at a time, to the fraction p / q that D / U is
module _ (U D p q : ℕ) (positive : 0 < U) (is : p * U ≡ D * q) where
  to-power : (a b r : ℕ) → a * U ≡ r * D * b → a * q ≡ r * p * b
  to-power a b r h = eq_of_mul-eq-mul_right U positive (a * q) (r * p * b) (omega (arith, ap (λ (z : ℕ). z * q) h, ap (λ (z : ℕ). r * z * b) is))

  to-squares : (a b s : ℕ) → a * (U * U) ≡ s * (D * D) * b → a * square q ≡ s * square p * b
  to-squares a b s h =
      let e : p * U * (p * U) ≡ D * q * (D * q) = ap square is in
      eq_of_mul-eq-mul_right (U * U) (mul-pos positive positive) (a * square q) (s * square p * b) (omega (arith, ap (λ (z : ℕ). z * (q * q)) h, ap (λ (z : ℕ). s * z * b) e))

pub root-has-remainder : RootHasRemainder
root-has-remainder x f p =
    let n = units_of x in
    let w = power 1074 (dropped n) in
    let whole : n ≡ scaled n * (2 ^ dropped n * 2 ^ dropped n) = (scaled-of x f p).exact ∙ ap (λ (z : ℕ). scaled n * z) (squared (dropped n)) in
    record {
      k = w.k;
      R = nearest_root (scaled n);
      S = scaled n;
      least = root-full n (drops x f p);
      most = omega (arith, root-lt x f p);
      root_is = cross→value (sqrt_of x) (nearest_root (scaled n) * up w.k) (down w.k) (sqrt-positive x p (fits-least x f p))
          (to-power (2 ^ 1074) (2 ^ dropped n) (up w.k) (down w.k) (pow_pos 1074) w.same (num (sqrt_of x)) (den (sqrt_of x)) (nearest_root (scaled n)) (root-value x f p).value);
      input_is = cross→value x (scaled n * square (up w.k)) (square (down w.k)) p
          (to-squares (2 ^ 1074) (2 ^ dropped n) (up w.k) (down w.k) (pow_pos 1074) w.same (num x) (den x) (scaled n) (square-at x f p ∙ ap (λ (z : ℕ). z * den x) whole));
      rest_is = rest-value x p;
    }

pub else-no-remainder : ElseNoRemainder
unfolding rest_of
else-no-remainder nan not-positive = refl
else-no-remainder (inf s) not-positive = refl
else-no-remainder (fin s zero e) not-positive = refl
else-no-remainder (fin true (suc m) e) not-positive = refl
else-no-remainder (fin false (suc m) e) not-positive = absurd (not-positive (lt→ltb 0 (suc m) (zero-lt-suc m)))

-- ---- what the sign tells: s - t is 0, positive or negative as t and s stand
data Sign (s t : ℕ) (rest : ℤ) : Type 0 where
  level : t ≡ s → rest ≡ pos 0 → Sign s t rest
  short : t < s → pos 0 <ℤ rest → Sign s t rest
  beyond : s < t → rest <ℤ pos 0 → Sign s t rest

sign : (s t : ℕ) → Sign s t (pos s -ℤ pos t)
sign s t = elim (le-or-lt t s) [ inl l ↦ from (s - t) refl l | inr l ↦ beyond l (subst (λ (z : ℤ). z <ℤ pos 0) (sym (less s t l)) (under (t - s) (omega (arith, l)))) ]
  where
    from : (d : ℕ) → s - t ≡ d → t ≤ s → Sign s t (pos s -ℤ pos t)
    from zero e l = level (omega (arith, e, l)) (more s t l ∙ ap pos e)
    from (suc d) e l = short (omega (arith, e, l)) (subst (λ (z : ℤ). pos 0 <ℤ z) (sym (more s t l ∙ ap pos e)) (lt_z_yes (lt→ltb 0 (suc d) (zero-lt-suc d))))

    under : (d : ℕ) → 0 < d → neg_ℤ (pos d) <ℤ pos 0
    under zero h = absurd (lt_irrefl 0 h)
    under (suc d) h = lt_z_yes tt

not-both : (z : ℤ) → pos 0 <ℤ z → z <ℤ pos 0 → ⊥
not-both (pos n) a b = let l = ltb→lt n 0 b.lt in omega (arith, l)
not-both (negsuc n) a b = a.lt

-- a / g is t / c, and b / g is s / c
module _ (a b s t g c : ℕ) (G : 0 < g) (C : 0 < c) (left : a * g ≡ t * c) (right : b * g ≡ s * c) where
  level-is : t ≡ s → a ≡ b
  level-is e = eq_of_mul-eq-mul_right g G a b (left ∙ ap (λ (z : ℕ). z * c) e ∙ sym right)

  less-is : t < s → a < b
  less-is l = lt_of_mul-lt-mul_right g (omega (arith, left, right, mul-lt-mul_of_pos_right l C))

  more-is : s < t → b < a
  more-is l = lt_of_mul-lt-mul_right g (omega (arith, left, right, mul-lt-mul_of_pos_right l C))

  tells : (rest : ℤ) → Sign s t rest → ((a ≡ b) ↔ (rest ≡ pos 0)) × ((a < b) ↔ (pos 0 <ℤ rest)) × ((b < a) ↔ (rest <ℤ pos 0))
  tells rest (level e z) =
      let h = level-is e in (
        (λ _. z, λ _. h),
        (λ l. absurd (omega (arith, h, l)), λ l. absurd (<ℤ_irrefl (subst (λ (d : ℤ). pos 0 <ℤ d) z l))),
        (λ l. absurd (omega (arith, h, l)), λ l. absurd (<ℤ_irrefl (subst (λ (d : ℤ). d <ℤ pos 0) z l))),
      )
  tells rest (short l z) =
      let h = less-is l in (
        (λ e. absurd (omega (arith, h, e)), λ e. absurd (<ℤ_irrefl (subst (λ (d : ℤ). pos 0 <ℤ d) e z))),
        (λ _. z, λ _. h),
        (λ k. absurd (omega (arith, h, k)), λ k. absurd (not-both rest z k)),
      )
  tells rest (beyond l z) =
      let h = more-is l in (
        (λ e. absurd (omega (arith, h, e)), λ e. absurd (<ℤ_irrefl (subst (λ (d : ℤ). d <ℤ pos 0) e z))),
        (λ k. absurd (omega (arith, h, k)), λ k. absurd (not-both rest k z)),
        (λ _. z, λ _. h),
      )

pub remainder-tells : RemainderTells
remainder-tells x root rest r =
    let p = up r.k in
    let q = down r.k in
    let at = value→cross root (r.R * p) q r.root_is in
    let of = value→cross x (r.S * square p) (square q) r.input_is in
    let t = tells (square (num root) * den x) (num x * square (den root)) r.S (square r.R) (square q) (square p * (den x * square (den root)))
    (mul-pos (down_pos r.k) (down_pos r.k))
    (mul-pos (mul-pos (up_pos r.k) (up_pos r.k)) (mul-pos (den_pos x) (mul-pos (den_pos root) (den_pos root))))
    (root-squared (num root) (den root) (den x) r.R p q at) (input-scaled (num x) (den x) (square (den root)) r.S (square p) (square q) of)
    rest (subst (Sign r.S (square r.R)) (sym r.rest_is) (sign r.S (square r.R))) in
    record { exact = t.0; below = t.1; above = t.2 }
  where
    root-squared : (a d e r p q : ℕ) → a * q ≡ r * p * d → square a * e * square q ≡ square r * (square p * (e * square d))
    root-squared a d e r p q h = let s : a * q * (a * q) ≡ r * p * d * (r * p * d) = ap square h in omega (arith, ap (λ (z : ℕ). z * e) s)

    input-scaled : (a d e s p q : ℕ) → a * q ≡ s * p * d → a * e * q ≡ s * (p * (d * e))
    input-scaled a d e s p q h = omega (arith, ap (λ (z : ℕ). z * e) h)

-- ---- one remainder
-- a power of 2 that is a fraction, as 2 ^ i / 2 ^ j
record Split (k : ℤ) : Type 0 where
  i : ℕ
  j : ℕ
  over : up k ≡ 2 ^ i
  under : down k ≡ 2 ^ j

split : (k : ℤ) → Split k
split (pos n) = record { i = n; j = 0; over = refl; under = refl }
split (negsuc n) = record { i = 0; j = suc n; over = refl; under = refl }

-- of 53 digits each
same-shift : (r r' i j : ℕ) → 2 ^ 52 ≤ r → r' ≤ 2 ^ 53 - 1 → r * 2 ^ i ≡ r' * 2 ^ j → i ≤ j
same-shift r r' i j lo hi e = le_of_suc-le-suc (lt_of_not-le (λ (g : suc j ≤ i).
    let few : r' < 2 ^ 53 = omega (arith, hi) in
    let k : 53 + j ≤ 52 + i = omega (arith, g) in
    let a : 2 ^ 52 * 2 ^ i ≤ r * 2 ^ i = mul-le-mul_right (2 ^ i) lo in
    let b : r' * 2 ^ j < 2 ^ (53 + j) = shl_lt 53 j few in
    let c : 2 ^ (53 + j) ≤ 2 ^ 52 * 2 ^ i = subst (λ (z : ℕ). 2 ^ (53 + j) ≤ z) (pow-add 2 52 i) (pow_mono k) in
    lt_irrefl (r' * 2 ^ j) (lt_of_lt_of_le b (le_trans c (subst (λ (z : ℕ). 2 ^ 52 * 2 ^ i ≤ z) e a)))))

-- n / d is r * p / q, and r' * p' / q'
ratio : (n d r p q r' p' q' : ℕ) → 0 < d → n * q ≡ r * p * d → n * q' ≡ r' * p' * d → r * (p * q') ≡ r' * (p' * q)
ratio n d r p q r' p' q' D h h' = eq_of_mul-eq-mul_right d D (r * (p * q')) (r' * (p' * q)) (omega (arith, ap (λ (z : ℕ). z * q') h, ap (λ (z : ℕ). z * q) h'))

pub one-remainder : OneRemainder
one-remainder x root a b u v = u.rest_is ∙ ap (λ (z : ℕ). pos z -ℤ pos (square u.R)) input ∙ ap (λ (z : ℕ). pos v.S -ℤ pos (square z)) whole ∙ sym v.rest_is
  where
    i : Split u.k
    i = split u.k

    j : Split v.k
    j = split v.k

    m : ℕ
    m = i.i + j.j

    n : ℕ
    n = j.i + i.j

    left : up u.k * down v.k ≡ 2 ^ m
    left = ap (λ (z : ℕ). z * down v.k) i.over ∙ ap (λ (z : ℕ). 2 ^ i.i * z) j.under ∙ sym (pow-add 2 i.i j.j)

    right : up v.k * down u.k ≡ 2 ^ n
    right = ap (λ (z : ℕ). z * down u.k) j.over ∙ ap (λ (z : ℕ). 2 ^ j.i * z) i.under ∙ sym (pow-add 2 j.i i.j)

    roots : u.R * 2 ^ m ≡ v.R * 2 ^ n
    roots =
        sym (ap (λ (z : ℕ). u.R * z) left)
        ∙ ratio (num root) (den root) u.R (up u.k) (down u.k) v.R (up v.k) (down v.k) (den_pos root) (value→cross root (u.R * up u.k) (down u.k) u.root_is) (value→cross root (v.R * up v.k) (down v.k) v.root_is)
        ∙ ap (λ (z : ℕ). v.R * z) right

    shift : n ≡ m
    shift = le_antisymm (same-shift v.R u.R n m v.least u.most (sym roots)) (same-shift u.R v.R m n u.least v.most roots)

    whole : u.R ≡ v.R
    whole = eq_of_mul-eq-mul_right (2 ^ m) (pow_pos m) u.R v.R (roots ∙ ap (λ (z : ℕ). v.R * 2 ^ z) shift)

    both : up u.k * down v.k ≡ up v.k * down u.k
    both = left ∙ ap (λ (z : ℕ). 2 ^ z) (sym shift) ∙ sym right

    squares : (p q p' q' : ℕ) → p * q' ≡ p' * q → square p' * square q ≡ square p * square q'
    squares p q p' q' h = let e : p * q' * (p * q') ≡ p' * q * (p' * q) = ap square h in omega (arith, e)

    room : 0 < square (up u.k) * square (down v.k)
    room = mul-pos (mul-pos (up_pos u.k) (up_pos u.k)) (mul-pos (down_pos v.k) (down_pos v.k))

    input : u.S ≡ v.S
    input =
        eq_of_mul-eq-mul_right (square (up u.k) * square (down v.k)) room u.S v.S
        (ratio (num x) (den x) u.S (square (up u.k)) (square (down u.k)) v.S (square (up v.k)) (square (down v.k)) (den_pos x) (value→cross x (u.S * square (up u.k)) (square (down u.k)) u.input_is) (value→cross x (v.S * square (up v.k)) (square (down v.k)) v.input_is)
        ∙ ap (λ (z : ℕ). v.S * z) (squares (up u.k) (down u.k) (up v.k) (down v.k) both))
