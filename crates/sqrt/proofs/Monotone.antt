-- The computed square root keeps the order, is a number from zero on and nowhere else, and halves the exponent of a bound. Assumes nothing.
use Rattle.std.proofs.Common.{◌≡◌, ℕ, zero, suc, ◌+◌, ◌-◌, ◌*◌, ◌/◌, ◌%◌, ◌^◌, ◌<◌, ◌≤◌, Bool, true, false, ◌&&◌, T, eqb, ltb, leb, ℤ, sym, refl, ap, ◌∙◌, subst, inl, inr, zero-le, le_trans, le_of_eq, le_refl, lt_of_lt_of_le, le_of_suc-le-suc, lt_of_le_of_lt, mul-le-mul_right, zero-lt-suc, suc-mul, div-lt_iff_lt-mul, mul-le-mul, eq-or-lt_of_le, mul-pos, lt_of_not-le, le-div_iff_mul-le, zero-mul, not-le_of_lt, le_of_mul-le-mul_right, arith, ltb→lt, leb→le, pow_pos, pow_mono, pow-add}
use lib.Ieee.{Float, nan, inf, fin, binary64, up, down, size, odd, lt, le, fits, of_bits}
use lib.Ieee.Digits.{size-lt, size-le, size_reaches}
use lib.Ieee.Nearest.{div_mono}
use lib.Ieee.Fits.{up_pos, down_pos}
use lib.Ieee.Exact.{odd_sign}
use lib.Ieee.Order.{transfer}
use lib.Ieee.Scale.{finite}
use lib.Ieee.Positive.{num, den, den_pos, value→cross, positive, positive-finite, first_pos}
use Rattle.floats.specs.Arith.{zero_f}
use Rattle.floats.specs.Numbers.{number}
use Rattle.floats.proofs.Order.{finite_number, le-top, le-or-lt, le-or-gt, le-not-gt, lt-number-l, lt-number-r, le-number-r, cross→le}
use Rattle.floats.proofs.Order as Order
use Rattle.floats.proofs.Nonneg.{unsigned, le→sizes, sizes→le, value-nonneg, positive-num, positive-nonneg}
use Rattle.floats.proofs.Bounds.{Small, of_num, small-num, small-finite, value-finite}
use Rattle.sqrt.specs.Root.{nearest_root, in_units, dropped, scaled, sqrt_of}
use Rattle.sqrt.proofs.Roots.{root-mono, root-le, root_ge}
use Rattle.sqrt.proofs.Values.{four, four-pos}

-- ---- the root of n units of 4 ^ -1074, in units of 2 ^ -1074
abbrev pub root_units : ℕ → ℕ
root_units n = nearest_root (scaled n) * 2 ^ dropped n

pub scaled-lt : (n : ℕ) → scaled n < 4 ^ 53
scaled-lt n =
    let d = dropped n in
    let l : size n ≤ 2 * 53 + 2 * d = omega arith in
    (div-lt_iff_lt-mul (four-pos d)).1
    (subst (λ (z : ℕ). n < 4 ^ 53 * z) (sym (four d)) (subst (λ (z : ℕ). n < z) (pow-add 2 (2 * 53) (2 * d)) (lt_of_lt_of_le (size-lt n) (pow_mono l))))

-- where digits are dropped, 105 or 106 are left, and the root has 53
scaled-ge : (n : ℕ) → 0 < dropped n → 2 ^ 104 * 4 ^ dropped n ≤ n
scaled-ge n h =
    let d = dropped n in
    let l : 104 + 2 * d < size n = omega arith in
    subst (λ (z : ℕ). 2 ^ 104 * z ≤ n) (sym (four d)) (subst (λ (z : ℕ). z ≤ n) (pow-add 2 104 (2 * d)) (size_reaches n (104 + 2 * d) l))

pub scaled-full : (n : ℕ) → 0 < dropped n → 2 ^ 104 ≤ scaled n
scaled-full n h = (le-div_iff_mul-le (four-pos (dropped n))).1 (scaled-ge n h)

pub root-full : (n : ℕ) → 0 < dropped n → 2 ^ 52 ≤ nearest_root (scaled n)
root-full n h = root_ge (scaled n) (2 ^ 52) (scaled-lt n) (scaled-full n h)

pub units_mono : (n n' : ℕ) → n ≤ n' → root_units n ≤ root_units n'
units_mono n n' h = elim (eq-or-lt_of_le drops) [ inl e ↦ same e | inr l ↦ fewer l ]
  where
    sizes : size n ≤ size n'
    sizes = size-le n (size n') (lt_of_le_of_lt h (size-lt n'))

    drops : dropped n ≤ dropped n'
    drops = omega (arith, sizes)

    same : dropped n ≡ dropped n' → root_units n ≤ root_units n'
    same e =
        subst (λ (d : ℕ). nearest_root (n / 4 ^ d) * 2 ^ d ≤ root_units n') (sym e)
        (mul-le-mul_right (2 ^ dropped n') (root-mono (n / 4 ^ dropped n') (scaled n')
        (div_mono n (4 ^ dropped n') n' (4 ^ dropped n') (four-pos (dropped n')) (four-pos (dropped n')) (mul-le-mul_right (4 ^ dropped n') h)) (scaled-lt n')))

    -- R ≤ 2 ^ 53 and 2 ^ 52 ≤ R', with at least one digit more to follow
    fewer : dropped n < dropped n' → root_units n ≤ root_units n'
    fewer l =
        let hi : nearest_root (scaled n) ≤ 2 ^ 53 = root-le (scaled n) (2 ^ 53) (scaled-lt n) (omega (arith, scaled-lt n)) in
        let e : 53 + dropped n ≤ 52 + dropped n' = omega (arith, l) in
        le_trans (mul-le-mul_right (2 ^ dropped n) hi)
        (le_trans (le_of_eq (sym (pow-add 2 53 (dropped n))))
        (le_trans (pow_mono e)
        (le_trans (le_of_eq (pow-add 2 52 (dropped n'))) (mul-le-mul_right (2 ^ dropped n') (root-full n' (omega (arith, l)))))))

over : (a b c : ℕ) → 0 < b → a ≤ c * b → a / b ≤ c
over a b c B h = le_of_suc-le-suc ((div-lt_iff_lt-mul B).1 (omega (arith, h, suc-mul c b)))

-- at most 4 ^ j: the root is at most 2 ^ j
pub units-le : (n j : ℕ) → n ≤ 4 ^ j → root_units n ≤ 2 ^ j
units-le n j h = elim (le-or-lt (dropped n) j) [ inl l ↦ fair l | inr l ↦ absurd (far l) ]
  where
    far : j < dropped n → ⊥
    far l =
        let e : 2 * j ≤ 2 * dropped n = omega (arith, l) in
        let a : 4 ^ j ≤ 4 ^ dropped n = subst (λ (z : ℕ). z ≤ 4 ^ dropped n) (sym (four j)) (subst (λ (z : ℕ). 2 ^ (2 * j) ≤ z) (sym (four (dropped n))) (pow_mono e)) in
        too_far (2 ^ 104) (4 ^ j) (4 ^ dropped n) n (leb→le 2 (2 ^ 104) tt) a h (scaled-ge n (omega (arith, l))) (four-pos (dropped n))
      where
        too_far : (q a b n : ℕ) → 2 ≤ q → a ≤ b → n ≤ a → q * b ≤ n → 0 < b → ⊥
        too_far q a b n Q h i k B = let c : 2 * b ≤ q * b = mul-le-mul_right b Q in omega arith

    fair : dropped n ≤ j → root_units n ≤ 2 ^ j
    fair l =
        let d = dropped n in
        let i = j - d in
        let e : i + d ≡ j = omega (arith, l) in
        let e2 : 2 * j ≡ i + i + 2 * d = omega (arith, e) in
        let whole : 4 ^ j ≡ 2 ^ i * 2 ^ i * 4 ^ d = four j ∙ ap (λ (z : ℕ). 2 ^ z) e2 ∙ pow-add 2 (i + i) (2 * d) ∙ ap (λ (z : ℕ). z * 2 ^ (2 * d)) (pow-add 2 i i) ∙ ap (λ (z : ℕ). 2 ^ i * 2 ^ i * z) (sym (four d)) in
        let s : scaled n ≤ 2 ^ i * 2 ^ i = over n (4 ^ d) (2 ^ i * 2 ^ i) (four-pos d) (subst (λ (z : ℕ). n ≤ z) whole h) in
        subst (λ (z : ℕ). root_units n ≤ z) (sym (pow-add 2 i d) ∙ ap (λ (z : ℕ). 2 ^ z) e) (mul-le-mul_right (2 ^ d) (root-le (scaled n) (2 ^ i) (scaled-lt n) (omega (arith, s))))

-- ---- the root of a float from zero on
-- x in units of 4 ^ -1074
abbrev pub units_of : Float → ℕ
units_of x = num x * 2 ^ 1074 / den x * 2 ^ 1074

pub record RootValue (x : Float) : Type 0 where
  pub bounded : T (finite (sqrt_of x))
  pub nonneg : T (le zero_f (sqrt_of x))
  pub value : num (sqrt_of x) * 2 ^ 1074 ≡ root_units (units_of x) * den (sqrt_of x)

units-zero : root_units 0 ≡ 0
unfolding nearest_root size
units-zero = refl

pub rooted : (x : Float) → T (finite x) → T (le zero_f x) → RootValue x
unfolding sqrt_of
rooted nan p h = absurd p
rooted (inf s) p h = absurd p
rooted (fin s zero e) p h = record { bounded = tt; nonneg = h; value = none }
  where
    zero-over : 0 / down e ≡ 0
    zero-over = omega (arith, over 0 (down e) 0 (down_pos e) zero-le)

    units-none : 0 * up e * 2 ^ 1074 / down e * 2 ^ 1074 ≡ 0
    units-none = ap (λ (z : ℕ). z * 2 ^ 1074 / down e * 2 ^ 1074) (zero-mul (up e)) ∙ ap (λ (z : ℕ). z * 2 ^ 1074) zero-over

    none : 0 * up e * 2 ^ 1074 ≡ root_units (0 * up e * 2 ^ 1074 / down e * 2 ^ 1074) * down e
    none = ap (λ (z : ℕ). z * 2 ^ 1074) (zero-mul (up e)) ∙ sym (ap (λ (z : ℕ). z * down e) (ap root_units units-none ∙ units-zero) ∙ zero-mul (down e))
rooted (fin true (suc m) e) p h = absurd (go (unsigned (fin true (suc m) e) tt h).0)
  where
    go : suc m * up e ≡ 0 → ⊥
    go z = omega (arith, z, mul-pos (zero-lt-suc m) (up_pos e))
rooted (fin false (suc m) e) p h =
    let n = in_units (suc m) e in
    let r = nearest_root (scaled n) in
    let v = odd_sign 53 false r (dropped n) 1074 in
    record {
      bounded = value-finite (odd 53 false r (dropped n) 1074) false (r * 2 ^ dropped n) (2 ^ 1074) v;
      nonneg = value-nonneg (odd 53 false r (dropped n) 1074) (r * 2 ^ dropped n) (2 ^ 1074) v;
      value = value→cross (odd 53 false r (dropped n) 1074) (r * 2 ^ dropped n) (2 ^ 1074) v;
    }

sqrt-mono-fin : (x y : Float) → T (finite x) → T (finite y) → T (le zero_f x) → T (le x y) → T (le (sqrt_of x) (sqrt_of y))
sqrt-mono-fin x y p q a h =
    let b = Order.le_trans zero_f x y a h in
    let u = rooted x p a in
    let v = rooted y q b in
    let c = le→sizes x y p q a b h in
    let i : units_of x ≤ units_of y = mul-le-mul_right (2 ^ 1074) (div_mono (num x * 2 ^ 1074) (den x) (num y * 2 ^ 1074) (den y) (den_pos x) (den_pos y) (wide (2 ^ 1074) (num x) (den y) (num y) (den x) c)) in
    sizes→le (sqrt_of x) (sqrt_of y) u.bounded v.bounded u.nonneg v.nonneg
    (transfer (num (sqrt_of x)) (num (sqrt_of y)) (den (sqrt_of x)) (den (sqrt_of y)) (root_units (units_of x)) (root_units (units_of y)) (2 ^ 1074) (2 ^ 1074) (pow_pos 1074) (pow_pos 1074)
    u.value v.value (mul-le-mul_right (2 ^ 1074) (units_mono (units_of x) (units_of y) i)))
  where
    wide : (k a b c d : ℕ) → a * b ≤ c * d → a * k * b ≤ c * k * d
    wide k a b c d h = omega (arith, mul-le-mul_right k h)

-- no NaN from zero on, an infinity included
pub sqrt-number : (x : Float) → T (le zero_f x) → T (number (sqrt_of x))
unfolding sqrt_of le of_bits
sqrt-number nan h = h
sqrt-number (inf true) h = absurd h
sqrt-number (inf false) h = tt
sqrt-number (fin s m e) h = finite_number (sqrt_of (fin s m e)) (rooted (fin s m e) tt h).bounded

-- for all floats, -0 and the infinity included
pub sqrt-mono : (x y : Float) → T (le zero_f x) → T (le x y) → T (le (sqrt_of x) (sqrt_of y))
unfolding sqrt_of le of_bits
sqrt-mono nan y a h = absurd h
sqrt-mono (inf true) y a h = absurd a
sqrt-mono (inf false) nan a h = absurd h
sqrt-mono (inf false) (inf true) a h = absurd h
sqrt-mono (inf false) (inf false) a h = tt
sqrt-mono (inf false) (fin t n d) a h = absurd h
sqrt-mono (fin s m e) nan a h = absurd h
sqrt-mono (fin s m e) (inf true) a h = absurd h
sqrt-mono (fin s m e) (inf false) a h = le-top (sqrt_of (fin s m e)) (sqrt-number (fin s m e) a)
sqrt-mono (fin s m e) (fin t n d) a h = sqrt-mono-fin (fin s m e) (fin t n d) tt tt a h

-- a root that is a number is that of a float from zero on
pub sqrt-nonneg : (x : Float) → T (number (sqrt_of x)) → T (le zero_f x)
unfolding sqrt_of le of_bits
sqrt-nonneg nan h = absurd h
sqrt-nonneg (inf true) h = absurd h
sqrt-nonneg (inf false) h = tt
sqrt-nonneg (fin true zero e) h = cross→le zero_f (fin true zero e) tt tt (omega arith)
sqrt-nonneg (fin true (suc m) e) h = absurd h
sqrt-nonneg (fin false m e) h = cross→le zero_f (fin false m e) tt tt (omega arith)

-- a greater root is the root of a greater float
pub sqrt-above : (x y : Float) → T (lt (sqrt_of x) (sqrt_of y)) → T (lt x y)
sqrt-above x y h =
    let a = sqrt-nonneg x (lt-number-l (sqrt_of x) (sqrt_of y) h) in
    let b = sqrt-nonneg y (lt-number-r (sqrt_of x) (sqrt_of y) h) in
    elim (le-or-gt y x (le-number-r zero_f y b) (le-number-r zero_f x a)) [ inl i ↦ absurd (le-not-gt (sqrt_of y) (sqrt_of x) (sqrt-mono y x b i) h) | inr i ↦ i ]

pub sqrt-zero : (s : Bool) (e : ℤ) → sqrt_of (fin s 0 e) ≡ fin s 0 e
unfolding sqrt_of
sqrt-zero s e = refl

-- x ≤ 4 ^ h: the root is at most 2 ^ h. For an odd exponent, widen first.
pub root-bound : (h : ℕ) (x : Float) → num x ≤ 2 ^ (2 * h) * den x → root_units (units_of x) ≤ 2 ^ (h + 1074)
root-bound h x l =
    units-le (units_of x) (h + 1074) (subst (λ (z : ℕ). units_of x ≤ z) (sym whole) (mul-le-mul_right (2 ^ 1074) (over (num x * 2 ^ 1074) (den x) (2 ^ (2 * h) * 2 ^ 1074) (den_pos x) (wide (2 ^ 1074) (num x) (2 ^ (2 * h)) (den x) l))))
  where
    wide : (k a b c : ℕ) → a ≤ b * c → a * k ≤ b * k * c
    wide k a b c h = omega (arith, mul-le-mul_right k h)

    whole : 4 ^ (h + 1074) ≡ 2 ^ (2 * h) * 2 ^ 1074 * 2 ^ 1074
    whole =
        let e : 2 * (h + 1074) ≡ 2 * h + 1074 + 1074 = omega arith in
        four (h + 1074) ∙ ap (λ (z : ℕ). 2 ^ z) e ∙ pow-add 2 (2 * h + 1074) 1074 ∙ ap (λ (z : ℕ). z * 2 ^ 1074) (pow-add 2 (2 * h) 1074)

pub small-sqrt : (h : ℕ) (x : Float) → T (le zero_f x) → Small (2 * h) x → Small h (sqrt_of x)
small-sqrt h x a s =
    let u = rooted x (small-finite (2 * h) x s) a in
    of_num h (sqrt_of x) u.bounded
    (cut (2 ^ 1074) (num (sqrt_of x)) (root_units (units_of x)) (den (sqrt_of x)) (2 ^ h) (pow_pos 1074) u.value (subst (λ (z : ℕ). root_units (units_of x) ≤ z) (pow-add 2 h 1074) (root-bound h x (small-num (2 * h) x s))))
  where
    cut : (k a r d p : ℕ) → 0 < k → a * k ≡ r * d → r ≤ p * k → a ≤ p * d
    cut k a r d p K e h = le_of_mul-le-mul_right {k = k} (omega (arith, e, mul-le-mul_right d h)) K

-- ---- the root of a positive f64 is positive: a divisor that is safe
-- x is at least the smallest f64, so digits are dropped
pub least-dropped : (x : Float) → den x ≤ 2 ^ 1074 * num x → 0 < dropped (units_of x)
least-dropped x h =
    let n = units_of x in
    let q : 1 ≤ num x * 2 ^ 1074 / den x = (le-div_iff_mul-le (den_pos x)).1 (one (den x) (num x) (2 ^ 1074) h) in
    let b : 1 * 2 ^ 1074 ≤ n = mul-le-mul_right (2 ^ 1074) q in
    let s : 1074 < size n = lt_of_not-le (λ (g : size n ≤ 1074). not-le_of_lt (lt_of_lt_of_le (size-lt n) (pow_mono g)) b) in
    omega (arith, s)
  where
    one : (d n k : ℕ) → d ≤ k * n → 1 * d ≤ n * k
    one d n k h = omega arith

pub sqrt-positive : (x : Float) → T (positive x) → den x ≤ 2 ^ 1074 * num x → T (positive (sqrt_of x))
sqrt-positive x p h =
    let u = rooted x (positive-finite x p) (positive-nonneg x p) in
    let n = units_of x in
    let some : 0 < root_units n * den (sqrt_of x) = mul-pos (mul-pos (lt_of_lt_of_le (pow_pos 52) (root-full n (least-dropped x h))) (pow_pos (dropped n))) (den_pos (sqrt_of x)) in
    positive-num (sqrt_of x) u.bounded u.nonneg (first_pos (num (sqrt_of x)) (2 ^ 1074) (subst (λ (z : ℕ). 0 < z) (sym u.value) some))

-- what `fits` asks of a value that is not zero
pub record Fitting (m : ℕ) (e : ℤ) : Type 0 where
  pub few : m < 2 ^ 53
  pub fine : down e ≤ 2 ^ 1074
  pub top : m * up e < 2 ^ 1024 * down e

pub fitting : (s : Bool) (m : ℕ) (e : ℤ) → T (fits binary64 (fin s (suc m) e)) → Fitting (suc m) e
unfolding fits
fitting s m e h =
    let f = split (eqb (suc m % 2) 1) (ltb (suc m) (2 ^ 53)) (leb (down e) (2 ^ 1074)) (ltb (suc m * up e) (2 ^ 1024 * down e)) h in
    record { few = ltb→lt (suc m) (2 ^ 53) f.0; fine = leb→le (down e) (2 ^ 1074) f.1; top = ltb→lt (suc m * up e) (2 ^ 1024 * down e) f.2 }
  where
    split : (a b c d : Bool) → T (a && b && c && d) → T b × T c × T d
    split true true true d h = (tt, tt, h)
    split true true false d h = absurd h
    split true false c d h = absurd h
    split false b c d h = absurd h

pub fits-least : (x : Float) → T (fits binary64 x) → T (positive x) → den x ≤ 2 ^ 1074 * num x
fits-least nan h p = absurd p
fits-least (inf s) h p = absurd p
fits-least (fin true m e) h p = absurd p
fits-least (fin false zero e) h p = absurd p
fits-least (fin false (suc m) e) h p = go (2 ^ 1074) (down e) (suc m * up e) (mul-pos (zero-lt-suc m) (up_pos e)) (fitting false m e h).fine
  where
    go : (k d n : ℕ) → 0 < n → d ≤ k → d ≤ k * n
    go k d n N h = let c : k * 1 ≤ k * n = mul-le-mul (le_refl k) N in omega arith
