-- Quotients by +0, by a NaN, by an infinity and by either sign: by a divisor that is not -0 they keep the order or turn it round, and a number over a
-- finite divisor that is not a zero is a number. The quotient by +0 is an infinity or a NaN; `or_bot` and `or_top` place that NaN. Assumes nothing.
use mathlib.Core.Path.{◌≡◌, refl, subst₂}
use Prim.Native.Nat.{ℕ, zero, suc, ◌+◌, ◌*◌, ◌≤◌, ◌<◌}
use native.Mathlib.Nat.{mul-pos, zero-lt-suc}
use native.Mathlib.Omega.{arith}
use mathlib.Core.Bool.{Bool, true, false, not, cond}
use lib.IntN.{ℤ, pos}
use lib.Dec.{T, ltb, ltb→lt, lt→ltb, eqb-suc-zero, leb-suc-suc, leb-zero, not_T, T_not}
use lib.Ieee.{Float, nan, inf, fin, unlike, up, down, div, lt, le, eq, of_bits}
use lib.Ieee.Fits.{up_pos, down_pos}
use lib.Ieee.Scale.{finite}
use lib.Ieee.Positive.{above, first_pos}
use Rattle.floats.specs.Arith.{◌⊘◌, zero_f}
use Rattle.floats.specs.Numbers.{number}
use Rattle.floats.proofs.Order.{pp, nn, le→cross, cross→le, le-number-l, le-number-r, lt-number-l, lt-number-r, le-not-gt, le_antisymm}
use Rattle.floats.proofs.Rounding.{div-number, div_mono, div-number-neg}
use Rattle.floats.proofs.Extremes.{or_bot, or_top, or_bot-id, or_bot-le, or_top-le}

-- ---- the quotient by +0
-- below zero, an infinity included
abbrev pub beneath : Float → Bool
beneath nan = false
beneath (inf s) = s
beneath (fin true m e) = ltb 0 m
beneath (fin false m e) = false

by-zero-bot : (x : Float) (e : ℤ) → T (number x) → or_bot (x ⊘ fin false 0 e) ≡ cond (above x) (inf false) (inf true)
unfolding div
by-zero-bot nan e h = absurd h
by-zero-bot (inf true) e h = refl
by-zero-bot (inf false) e h = refl
by-zero-bot (fin true zero d) e h = refl
by-zero-bot (fin true (suc m) d) e h = rw (eqb-suc-zero m)
by-zero-bot (fin false zero d) e h = refl
by-zero-bot (fin false (suc m) d) e h = rw (eqb-suc-zero m, leb-suc-suc 0 m, leb-zero m)

by-zero-top : (x : Float) (e : ℤ) → T (number x) → or_top (x ⊘ fin false 0 e) ≡ cond (beneath x) (inf true) (inf false)
unfolding div
by-zero-top nan e h = absurd h
by-zero-top (inf true) e h = refl
by-zero-top (inf false) e h = refl
by-zero-top (fin false zero d) e h = refl
by-zero-top (fin false (suc m) d) e h = rw (eqb-suc-zero m)
by-zero-top (fin true zero d) e h = refl
by-zero-top (fin true (suc m) d) e h = rw (eqb-suc-zero m, leb-suc-suc 0 m, leb-zero m)

pos-3 : (m u c : ℕ) → 0 < m → 0 < u → 0 < c → 0 < m * u * c
pos-3 m u c h i j = mul-pos (mul-pos h i) j

pub above-mono : (x y : Float) → T (le x y) → T (above x) → T (above y)
unfolding le
above-mono nan y h k = absurd h
above-mono (inf true) y h k = absurd k
above-mono (inf false) nan h k = absurd h
above-mono (inf false) (inf true) h k = absurd h
above-mono (inf false) (inf false) h k = tt
above-mono (inf false) (fin t n d) h k = absurd h
above-mono (fin true m e) y h k = absurd k
above-mono (fin false m e) nan h k = absurd h
above-mono (fin false m e) (inf true) h k = absurd h
above-mono (fin false m e) (inf false) h k = tt
above-mono (fin false m e) (fin true n d) h k =
    let i : 0 < m * up e * down d = pos-3 m (up e) (down d) (ltb→lt 0 m k) (up_pos e) (down_pos d) in
    omega (arith, le→cross (fin false m e) (fin true n d) tt tt h)
above-mono (fin false m e) (fin false n d) h k =
    let i : 0 < m * up e * down d = pos-3 m (up e) (down d) (ltb→lt 0 m k) (up_pos e) (down_pos d) in
    lt→ltb 0 n (first_pos n (up d) (first_pos (n * up d) (down e) (omega (arith, le→cross (fin false m e) (fin false n d) tt tt h))))

pub beneath-mono : (x y : Float) → T (le x y) → T (beneath y) → T (beneath x)
unfolding le
beneath-mono nan y h k = absurd h
beneath-mono (inf true) y h k = tt
beneath-mono (inf false) nan h k = absurd h
beneath-mono (inf false) (inf true) h k = absurd h
beneath-mono (inf false) (inf false) h k = absurd k
beneath-mono (inf false) (fin t n d) h k = absurd h
beneath-mono (fin s m e) nan h k = absurd h
beneath-mono (fin s m e) (inf true) h k = absurd h
beneath-mono (fin s m e) (inf false) h k = absurd k
beneath-mono (fin s m e) (fin false n d) h k = absurd k
beneath-mono (fin false m e) (fin true n d) h k =
    let i : 0 < n * up d * down e = pos-3 n (up d) (down e) (ltb→lt 0 n k) (up_pos d) (down_pos e) in
    omega (arith, le→cross (fin false m e) (fin true n d) tt tt h)
beneath-mono (fin true m e) (fin true n d) h k =
    let i : 0 < n * up d * down e = pos-3 n (up d) (down e) (ltb→lt 0 n k) (up_pos d) (down_pos e) in
    lt→ltb 0 m (first_pos m (up e) (first_pos (m * up e) (down d) (omega (arith, le→cross (fin true m e) (fin true n d) tt tt h))))

ends-bot : (a b : Bool) → (T a → T b) → T (le (cond a (inf false) (inf true)) (cond b (inf false) (inf true)))
unfolding le
ends-bot true true h = tt
ends-bot true false h = h tt
ends-bot false true h = tt
ends-bot false false h = tt

ends-top : (a b : Bool) → (T b → T a) → T (le (cond a (inf true) (inf false)) (cond b (inf true) (inf false)))
unfolding le
ends-top true true h = tt
ends-top true false h = tt
ends-top false true h = h tt
ends-top false false h = tt

-- ---- the quotient by +0 or more keeps the order, with NaNs placed
abbrev pub forward : Float → Bool
forward nan = false
forward (inf s) = false
forward (fin true m e) = false
forward (fin false m e) = true

pub div-bot-mono : (x y d : Float) → T (forward d) → T (le x y) → T (le (or_bot (x ⊘ d)) (or_bot (y ⊘ d)))
div-bot-mono x y nan p h = absurd p
div-bot-mono x y (inf s) p h = absurd p
div-bot-mono x y (fin true n e) p h = absurd p
div-bot-mono x y (fin false zero e) p h = rw (by-zero-bot x e (le-number-l x y h), by-zero-bot y e (le-number-r x y h)) (ends-bot (above x) (above y) (above-mono x y h))
div-bot-mono x y (fin false (suc n) e) p h = or_bot-le (x ⊘ fin false (suc n) e) (y ⊘ fin false (suc n) e) (div_mono x y (fin false (suc n) e) (lt→ltb 0 (suc n) (omega arith)) h)

pub div-top-mono : (x y d : Float) → T (forward d) → T (le x y) → T (le (or_top (x ⊘ d)) (or_top (y ⊘ d)))
div-top-mono x y nan p h = absurd p
div-top-mono x y (inf s) p h = absurd p
div-top-mono x y (fin true n e) p h = absurd p
div-top-mono x y (fin false zero e) p h = rw (by-zero-top x e (le-number-l x y h), by-zero-top y e (le-number-r x y h)) (ends-top (beneath x) (beneath y) (beneath-mono x y h))
div-top-mono x y (fin false (suc n) e) p h = or_top-le (x ⊘ fin false (suc n) e) (y ⊘ fin false (suc n) e) (div_mono x y (fin false (suc n) e) (lt→ltb 0 (suc n) (omega arith)) h)

-- so the quotients of two ordered values are never the other way round
pub div-not-gt : (x y d : Float) → T (forward d) → T (le x y) → T (not (lt (y ⊘ d) (x ⊘ d)))
div-not-gt x y d p h = not_T (lt (y ⊘ d) (x ⊘ d)) (λ (k : T (lt (y ⊘ d) (x ⊘ d))).
    le-not-gt (x ⊘ d) (y ⊘ d)
    (subst₂ (λ (a b : Float). T (le a b)) (or_bot-id (x ⊘ d) (lt-number-r (y ⊘ d) (x ⊘ d) k)) (or_bot-id (y ⊘ d) (lt-number-l (y ⊘ d) (x ⊘ d) k)) (div-bot-mono x y d p h)) k)

-- by a NaN: a NaN; by an infinity: a zero
pub div-nan : (x : Float) → x ⊘ nan ≡ nan
unfolding div
div-nan nan = refl
div-nan (inf s) = refl
div-nan (fin s m e) = refl

zeros-le : (a b : Bool) → T (le (fin a 0 (pos 0)) (fin b 0 (pos 0)))
unfolding le
zeros-le true true = tt
zeros-le true false = tt
zeros-le false true = tt
zeros-le false false = tt

pub div-inf-le : (x y : Float) (t : Bool) → T (finite x) → T (finite y) → T (le (x ⊘ inf t) (y ⊘ inf t))
unfolding div
div-inf-le nan y t p q = absurd p
div-inf-le (inf s) y t p q = absurd p
div-inf-le (fin s m e) nan t p q = absurd q
div-inf-le (fin s m e) (inf r) t p q = absurd q
div-inf-le (fin s m e) (fin r n d) t p q = zeros-le (unlike s t) (unlike r t)

-- ---- the quotient by a finite divisor that is not a zero
-- no NaN: a number over a finite divisor that is not a zero (it may overflow to an infinity)
pub quotient-number : (x y : Float) → T (number x) → T (finite y) → T (not (eq y zero_f)) → T (number (x ⊘ y))
unfolding of_bits
quotient-number x nan n p h = absurd p
quotient-number x (inf s) n p h = absurd p
quotient-number x (fin s zero e) n p h = absurd (T_not (eq (fin s zero e) zero_f) h (le_antisymm (fin s zero e) zero_f (cross→le (fin s zero e) zero_f tt tt (nought s)) (cross→le zero_f (fin s zero e) tt tt (nought' s))))
  where
    nought : (s : Bool) → pp s 0 * up e * 1 + 0 * 1 * down e ≤ 0 * 1 * down e + nn s 0 * up e * 1
    nought true = omega arith
    nought false = omega arith

    nought' : (s : Bool) → 0 * 1 * down e + nn s 0 * up e * 1 ≤ pp s 0 * up e * 1 + 0 * 1 * down e
    nought' true = omega arith
    nought' false = omega arith
quotient-number x (fin false (suc m) e) n p h = div-number x (fin false (suc m) e) n (lt→ltb 0 (suc m) (zero-lt-suc m))
quotient-number x (fin true (suc m) e) n p h = div-number-neg x (fin true (suc m) e) n (lt→ltb 0 (suc m) (zero-lt-suc m))
