-- Rounding, sums, differences and quotients keep the order, for every sign, zero and overflow to an infinity.
-- `Rounded z P N D` says that z is (P - N) / D rounded, as an operation's result is; a zero may have either sign. Assumes nothing.
use mathlib.Core.Path.{◌≡◌, refl, sym, ap, ◌∙◌, subst, subst₂}
use Prim.Native.Nat.{ℕ, zero, suc, ◌+◌, ◌-◌, ◌*◌, ◌^◌, ◌≤◌, ◌<◌}
use native.Mathlib.Nat.{mul-le-mul_right, le_of_mul-le-mul_right, mul-pos, mul_comm, zero-mul}
use native.Mathlib.Omega.{arith}
use mathlib.Core.Bool.{Bool, true, false, not, cond}
use lib.Dec.{T, ltb, eqb, ltb→lt, nltb→le, eqb-suc-zero}
use lib.Pow.{pow_pos}
use lib.Ieee.{Float, nan, inf, fin, binary64, prec, emax, low, up, down, odd, units, round, neg, sum, sub, mul, div, lt, le}
use lib.Ieee.Fits.{round_is, up_pos, down_pos}
use lib.Ieee.Exact.{HasValue, round_exact}
use lib.Ieee.Order.{round_mono, kept, drop}
use lib.Ieee.Scale.{finite}
use lib.Ieee.Positive.{num, den, den_pos, positive}
use Rattle.floats.specs.Arith.{◌⊕◌, ◌⊖◌, ◌⊗◌, ◌⊘◌}
use Rattle.floats.specs.Numbers.{number}
use Rattle.floats.proofs.Order.{pp, nn, pp-mul, nn-mul, plus, less, le→cross, cross→le, le-number-l, le-number-r, le_refl, le_trans, le-not-gt, le-bot, le-top, neg-le}

-- ---- a result with the other sign
pub neg-neg : (x : Float) → neg (neg x) ≡ x
unfolding neg
neg-neg nan = refl
neg-neg (inf true) = refl
neg-neg (inf false) = refl
neg-neg (fin true m e) = refl
neg-neg (fin false m e) = refl

odd-neg : (d q k l : ℕ) → odd d true q k l ≡ neg (odd d false q k l)
unfolding odd neg
odd-neg d zero k l = refl
odd-neg d (suc q) k l = refl

units-neg : (q k : ℕ) → units binary64 true q k ≡ neg (units binary64 false q k)
unfolding units neg
units-neg q k = go (ltb (q * 2 ^ k) (2 ^ (low binary64 + suc (emax binary64))))
  where
    go : (b : Bool) → cond b (odd (suc (prec binary64)) true q k (low binary64)) (inf true) ≡ neg (cond b (odd (suc (prec binary64)) false q k (low binary64)) (inf false))
    go true = odd-neg (suc (prec binary64)) q k (low binary64)
    go false = refl

pub round-neg : (a b : ℕ) → round binary64 true a b ≡ neg (round binary64 false a b)
round-neg a b = round_is binary64 true a b ∙ units-neg (kept (prec binary64) (a * 2 ^ low binary64) b) (drop (prec binary64) (a * 2 ^ low binary64) b) ∙ ap neg (sym (round_is binary64 false a b))

-- ---- zero rounds to a zero, and zeros are alike
no_size : (m u D c : ℕ) → 0 < D → m * u * D ≡ 0 * c → m * u ≡ 0
no_size m u D c h e = omega (arith, le_of_mul-le-mul_right {m = m * u} {n = 0} {k = D} (omega arith) h)

pub zero-pp : (s : Bool) (m u : ℕ) → m * u ≡ 0 → pp s m * u ≡ 0
zero-pp true m u h = zero-mul u
zero-pp false m u h = h

pub zero-nn : (s : Bool) (m u : ℕ) → m * u ≡ 0 → nn s m * u ≡ 0
zero-nn true m u h = h
zero-nn false m u h = zero-mul u

zeros : (x y : Float) (s t : Bool) (D E : ℕ) → 0 < D → 0 < E → HasValue x s 0 D → HasValue y t 0 E → T (le x y)
zeros nan y s t D E D> E> h k = absurd h
zeros (inf r) y s t D E D> E> h k = absurd h
zeros (fin r m e) nan s t D E D> E> h k = absurd k
zeros (fin r m e) (inf r') s t D E D> E> h k = absurd k
zeros (fin r m e) (fin r' n d) s t D E D> E> h k =
    let a : m * up e ≡ 0 = no_size m (up e) D (down e) D> h.1 in
    let b : n * up d ≡ 0 = no_size n (up d) E (down d) E> k.1 in
    cross→le (fin r m e) (fin r' n d) tt tt (rw (zero-pp r m (up e) a, zero-nn r' n (up d) b) (omega arith))

pub round-zero : (s : Bool) (D : ℕ) → 0 < D → HasValue (round binary64 s 0 D) s 0 D
round-zero s D h = round_exact binary64 s 0 D 0 0 h (pow_pos 53) (pow_pos (1074 + suc 1023)) (none (2 ^ 1074))
  where
    none : (k : ℕ) → 0 * k ≡ 0 * 2 ^ 0 * D
    none k = omega arith

pub round-zeros : (s t : Bool) (D E : ℕ) → 0 < D → 0 < E → T (le (round binary64 s 0 D) (round binary64 t 0 E))
round-zeros s t D E D> E> = zeros (round binary64 s 0 D) (round binary64 t 0 E) s t D E D> E> (round-zero s D D>) (round-zero t E E>)

-- ---- rounding with a sign
pub round-mono-neg : (a b c d : ℕ) → 0 < b → 0 < d → c * b ≤ a * d → T (le (round binary64 true a b) (round binary64 true c d))
round-mono-neg a b c d B D h = rw (round-neg a b, round-neg c d) (neg-le (round binary64 false c d) (round binary64 false a b) (round_mono binary64 c d a b D B h))

-- k or -k is P - N
abbrev pub Off : Bool → ℕ → ℕ → ℕ → Type 0
Off false k P N = P ≡ N + k
Off true k P N = N ≡ P + k

pub record Rounded (z : Float) (P N D : ℕ) : Type 0 where
  pub sign : Bool
  pub magnitude : ℕ
  pub is : z ≡ round binary64 sign magnitude D
  pub off : Off sign magnitude P N

zero_left : (k E l D : ℕ) → 0 < E → k * E + l * D ≤ 0 → k ≡ 0
zero_left k E l D h i = omega (arith, le_of_mul-le-mul_right {m = k} {n = 0} {k = E} (omega arith) h)

module _ (P N D Q M E : ℕ) (D> : 0 < D) (E> : 0 < E) (h : P * E + M * D ≤ Q * D + N * E) where
  signed-mono : (s t : Bool) (k l : ℕ) → Off s k P N → Off t l Q M → T (le (round binary64 s k D) (round binary64 t l E))
  signed-mono false false k l o o' = round_mono binary64 k D l E D> E> (omega (arith, ap (λ (z : ℕ). z * E) o, ap (λ (z : ℕ). z * D) o'))
  signed-mono true true k l o o' = round-mono-neg k D l E D> E> (omega (arith, ap (λ (z : ℕ). z * E) o, ap (λ (z : ℕ). z * D) o'))
  signed-mono true false k l o o' =
      le_trans (round binary64 true k D) (round binary64 true 0 D) (round binary64 false l E) (round-mono-neg k D 0 D D> D> (omega arith))
      (le_trans (round binary64 true 0 D) (round binary64 false 0 E) (round binary64 false l E) (round-zeros true false D E D> E>) (round_mono binary64 0 E l E E> E> (omega arith)))
  signed-mono false true k l o o' =
      let i : k * E + l * D ≤ 0 = omega (arith, ap (λ (z : ℕ). z * E) o, ap (λ (z : ℕ). z * D) o') in
      rw (zero_left k E l D E> i, zero_left l D k E D> (omega arith)) (round-zeros false true D E D> E>)

  pub rounded-mono : (x y : Float) → Rounded x P N D → Rounded y Q M E → T (le x y)
  rounded-mono x y r r' = subst₂ (λ (a b : Float). T (le a b)) (sym r.is) (sym r'.is) (signed-mono r.sign r'.sign r.magnitude r'.magnitude r.off r'.off)

pub round_number : (s : Bool) (a b : ℕ) → 0 < b → T (number (round binary64 s a b))
round_number true a b h = le-number-l (round binary64 true a b) (round binary64 true a b) (round-mono-neg a b a b h h (omega arith))
round_number false a b h = le-number-l (round binary64 false a b) (round binary64 false a b) (round_mono binary64 a b a b h h (omega arith))

pub rounded-number : (z : Float) (P N D : ℕ) → 0 < D → Rounded z P N D → T (number z)
rounded-number z P N D h r = subst (λ (x : Float). T (number x)) (sym r.is) (round_number r.sign r.magnitude D h)

-- ---- the sum and the difference
pub sum-rounded : (s : Bool) (a : ℕ) (t : Bool) (b c : ℕ) → Rounded (sum binary64 s a t b c) (pp s a + pp t b) (nn s a + nn t b) c
unfolding sum
sum-rounded false a false b c = record { sign = false; magnitude = a + b; is = refl; off = omega arith }
sum-rounded true a true b c = record { sign = true; magnitude = a + b; is = refl; off = omega arith }
sum-rounded false a true b c = go (ltb a b) (ltb→lt a b) (nltb→le a b)
  where
    go : (t : Bool) → (T t → a < b) → (T (not t) → b ≤ a) → Rounded (cond t (round binary64 true (b - a) c) (round binary64 false (a - b) c)) (a + 0) (0 + b) c
    go true h k = record { sign = true; magnitude = b - a; is = refl; off = omega (arith, h tt) }
    go false h k = record { sign = false; magnitude = a - b; is = refl; off = omega (arith, k tt) }
sum-rounded true a false b c = go (ltb a b) (ltb b a) (ltb→lt a b) (nltb→le a b) (ltb→lt b a) (nltb→le b a)
  where
    go : (t u : Bool) → (T t → a < b) → (T (not t) → b ≤ a) → (T u → b < a) → (T (not u) → a ≤ b)
        → Rounded (cond t (round binary64 false (b - a) c) (round binary64 u (a - b) c)) (0 + b) (a + 0) c
    go true u h k i j = record { sign = false; magnitude = b - a; is = refl; off = omega (arith, h tt) }
    go false true h k i j = record { sign = true; magnitude = a - b; is = refl; off = omega (arith, k tt) }
    go false false h k i j = record { sign = false; magnitude = a - b; is = refl; off = omega (arith, k tt, j tt) }

pp-not : (s : Bool) (a : ℕ) → pp (not s) a ≡ nn s a
pp-not true a = refl
pp-not false a = refl

nn-not : (s : Bool) (a : ℕ) → nn (not s) a ≡ pp s a
nn-not true a = refl
nn-not false a = refl

pub sub-rounded : (x y : Float) → T (finite x) → T (finite y) → Rounded (x ⊖ y) (plus x * den y + less y * den x) (less x * den y + plus y * den x) (den x * den y)
unfolding sub
sub-rounded nan y p q = absurd p
sub-rounded (inf s) y p q = absurd p
sub-rounded (fin s m e) nan p q = absurd q
sub-rounded (fin s m e) (inf t) p q = absurd q
sub-rounded (fin s m e) (fin t n d) p q = simp (pp-not, nn-not, pp-mul, nn-mul) at (sum-rounded s (m * up e * down d) (not t) (n * up d * down e) (down e * down d))

pub sub_number : (x y : Float) → T (finite x) → T (finite y) → T (number (x ⊖ y))
sub_number x y p q = rounded-number (x ⊖ y) (plus x * den y + less y * den x) (less x * den y + plus y * den x) (den x * den y) (mul-pos (den_pos x) (den_pos y)) (sub-rounded x y p q)

-- x ≤ x' and y' ≤ y, so x - y ≤ x' - y'
apart : (p n d p' n' d' q m c q' m' c' : ℕ) → p * d' + n' * d ≤ p' * d + n * d' → q' * c + m * c' ≤ q * c' + m' * c
    → (p * c + m * d) * (d' * c') + (n' * c' + q' * d') * (d * c) ≤ (p' * c' + m' * d') * (d * c) + (n * c + q * d) * (d' * c')
apart p n d p' n' d' q m c q' m' c' h k =
    rw (term p c m d d' c', term n' c' q' d' d c, term p' c' m' d' d c, term n c q d d' c', mul_comm c' c, mul_comm d' d)
    (terms (p * d') (n' * d) (p' * d) (n * d') (q' * c) (m * c') (q * c') (m' * c) (c * c') (d * d') h k)
  where
    term : (p c m d d' c' : ℕ) → (p * c + m * d) * (d' * c') ≡ p * d' * (c * c') + m * c' * (d * d')
    term p c m d d' c' = omega arith

    terms : (a b c d a' b' c' d' k l : ℕ) → a + b ≤ c + d → a' + b' ≤ c' + d' → a * k + b' * l + (b * k + a' * l) ≤ c * k + d' * l + (d * k + c' * l)
    terms a b c d a' b' c' d' k l h j = omega (arith, mul-le-mul_right k h, mul-le-mul_right l j)

pub sub-mono : (x x' y y' : Float) → T (finite x) → T (finite x') → T (finite y) → T (finite y') → T (le x x') → T (le y' y) → T (le (x ⊖ y) (x' ⊖ y'))
sub-mono x x' y y' p p' q q' h k =
    rounded-mono (plus x * den y + less y * den x) (less x * den y + plus y * den x) (den x * den y)
    (plus x' * den y' + less y' * den x') (less x' * den y' + plus y' * den x') (den x' * den y')
    (mul-pos (den_pos x) (den_pos y)) (mul-pos (den_pos x') (den_pos y'))
    (apart (plus x) (less x) (den x) (plus x') (less x') (den x') (plus y) (less y) (den y) (plus y') (less y') (den y') (le→cross x x' p p' h) (le→cross y' y q' q k))
    (x ⊖ y) (x' ⊖ y') (sub-rounded x y p q) (sub-rounded x' y' p' q')

-- ---- the quotient by a divisor above zero, by one below zero, and by +0
-- finite and below zero
abbrev pub negative : Float → Bool
negative nan = false
negative (inf s) = false
negative (fin false m e) = false
negative (fin true m e) = ltb 0 m

pub neg-positive : (x : Float) → T (negative x) → T (positive (neg x))
unfolding neg
neg-positive nan h = h
neg-positive (inf s) h = h
neg-positive (fin false m e) h = h
neg-positive (fin true m e) h = h

not-zero : (n : ℕ) → T (ltb 0 n) → eqb n 0 ≡ false
not-zero zero h = absurd h
not-zero (suc n) h = eqb-suc-zero n

pub div-rounded : (x y : Float) → T (finite x) → T (positive y) → Rounded (x ⊘ y) (plus x * den y) (less x * den y) (num y * den x)
unfolding div
div-rounded nan y p q = absurd p
div-rounded (inf s) y p q = absurd p
div-rounded (fin s m e) nan p q = absurd q
div-rounded (fin s m e) (inf t) p q = absurd q
div-rounded (fin s m e) (fin true n d) p q = absurd q
div-rounded (fin false m e) (fin false n d) p q = record { sign = false; magnitude = m * up e * down d; is = rw (not-zero n q); off = omega arith }
div-rounded (fin true m e) (fin false n d) p q = record { sign = true; magnitude = m * up e * down d; is = rw (not-zero n q); off = omega arith }

pub num_pos : (x : Float) → T (positive x) → 0 < num x
num_pos nan p = absurd p
num_pos (inf s) p = absurd p
num_pos (fin true m e) p = absurd p
num_pos (fin false m e) p = mul-pos (ltb→lt 0 m p) (up_pos e)

wider : (p n d p' n' d' c k : ℕ) → p * d' + n' * d ≤ p' * d + n * d' → p * c * (k * d') + n' * c * (k * d) ≤ p' * c * (k * d) + n * c * (k * d')
wider p n d p' n' d' c k h = omega (arith, mul-le-mul_right (c * k) h)

div-mono-fin : (x x' y : Float) → T (finite x) → T (finite x') → T (positive y) → T (le x x') → T (le (x ⊘ y) (x' ⊘ y))
div-mono-fin x x' y p p' q h =
    rounded-mono (plus x * den y) (less x * den y) (num y * den x) (plus x' * den y) (less x' * den y) (num y * den x')
    (mul-pos (num_pos y q) (den_pos x)) (mul-pos (num_pos y q) (den_pos x'))
    (wider (plus x) (less x) (den x) (plus x') (less x') (den x') (den y) (num y) (le→cross x x' p p' h))
    (x ⊘ y) (x' ⊘ y) (div-rounded x y p q) (div-rounded x' y p' q)

div-inf : (s : Bool) (y : Float) → T (positive y) → inf s ⊘ y ≡ inf s
unfolding div
div-inf s nan q = absurd q
div-inf s (inf t) q = absurd q
div-inf s (fin true n d) q = absurd q
div-inf true (fin false n d) q = refl
div-inf false (fin false n d) q = refl

pub div-number : (x y : Float) → T (number x) → T (positive y) → T (number (x ⊘ y))
div-number nan y p q = absurd p
div-number (inf s) y p q = rw (div-inf s y q) tt
div-number (fin s m e) y p q = rounded-number ((fin s m e) ⊘ y) (plus (fin s m e) * den y) (less (fin s m e) * den y) (num y * down e) (mul-pos (num_pos y q) (down_pos e)) (div-rounded (fin s m e) y tt q)

pub div_mono : (x x' y : Float) → T (positive y) → T (le x x') → T (le (x ⊘ y) (x' ⊘ y))
div_mono nan x' y q h = absurd (le-number-l nan x' h)
div_mono (inf true) x' y q h = rw (div-inf true y q) (le-bot (x' ⊘ y) (div-number x' y (le-number-r (inf true) x' h) q))
div_mono (inf false) nan y q h = absurd (le-number-r (inf false) nan h)
div_mono (inf false) (inf s) y q h = rw (div-inf false y q, div-inf s y q) h
div_mono (inf false) (fin s m e) y q h = absurd (le-not-gt (inf false) (fin s m e) h (unfold lt in tt))
div_mono (fin s m e) nan y q h = absurd (le-number-r (fin s m e) nan h)
div_mono (fin s m e) (inf true) y q h = absurd (le-not-gt (fin s m e) (inf true) h (unfold lt in tt))
div_mono (fin s m e) (inf false) y q h = rw (div-inf false y q) (le-top ((fin s m e) ⊘ y) (div-number (fin s m e) y tt q))
div_mono (fin s m e) (fin t n d) y q h = div-mono-fin (fin s m e) (fin t n d) y tt tt q h

go-neg : (a b : Bool) (k l : ℕ) → cond a (cond b nan (inf true)) (round binary64 true k l) ≡ neg (cond a (cond b nan (inf false)) (round binary64 false k l))
unfolding neg
go-neg true true k l = refl
go-neg true false k l = refl
go-neg false b k l = round-neg k l

go-pos : (a b : Bool) (k l : ℕ) → cond a (cond b nan (inf false)) (round binary64 false k l) ≡ neg (cond a (cond b nan (inf true)) (round binary64 true k l))
go-pos a b k l = sym (ap neg (go-neg a b k l) ∙ neg-neg (cond a (cond b nan (inf false)) (round binary64 false k l)))

-- the quotient by -y is minus the quotient by y
pub div-neg : (x y : Float) → x ⊘ neg y ≡ neg (x ⊘ y)
unfolding div neg
div-neg nan y = refl
div-neg (inf s) nan = refl
div-neg (inf s) (inf t) = refl
div-neg (inf true) (fin true n d) = refl
div-neg (inf true) (fin false n d) = refl
div-neg (inf false) (fin true n d) = refl
div-neg (inf false) (fin false n d) = refl
div-neg (fin s m e) nan = refl
div-neg (fin true m e) (inf true) = refl
div-neg (fin true m e) (inf false) = refl
div-neg (fin false m e) (inf true) = refl
div-neg (fin false m e) (inf false) = refl
div-neg (fin true m e) (fin true n d) = go-neg (eqb n 0) (eqb m 0) (m * up e * down d) (n * up d * down e)
div-neg (fin true m e) (fin false n d) = go-pos (eqb n 0) (eqb m 0) (m * up e * down d) (n * up d * down e)
div-neg (fin false m e) (fin true n d) = go-pos (eqb n 0) (eqb m 0) (m * up e * down d) (n * up d * down e)
div-neg (fin false m e) (fin false n d) = go-neg (eqb n 0) (eqb m 0) (m * up e * down d) (n * up d * down e)

pub div-anti : (x x' y : Float) → T (negative y) → T (le x x') → T (le (x' ⊘ y) (x ⊘ y))
div-anti x x' y q h =
    subst₂ (λ (a b : Float). T (le a b)) (flip x') (flip x) (neg-le (x ⊘ neg y) (x' ⊘ neg y) (div_mono x x' (neg y) (neg-positive y q) h))
  where
    flip : (z : Float) → neg (z ⊘ neg y) ≡ z ⊘ y
    flip z = ap neg (div-neg z y) ∙ neg-neg (z ⊘ y)

pub div-number-neg : (x y : Float) → T (number x) → T (negative y) → T (number (x ⊘ y))
div-number-neg x y p q = le-number-l (x ⊘ y) (x ⊘ y) (div-anti x x y q (le_refl x p))

-- ---- x + y is x - (-y)
pub sub-neg : (x y : Float) → x ⊖ neg y ≡ x ⊕ y
unfolding sub neg
sub-neg x nan = refl
sub-neg x (inf true) = refl
sub-neg x (inf false) = refl
sub-neg x (fin true m e) = refl
sub-neg x (fin false m e) = refl

neg-finite : (x : Float) → T (finite x) → T (finite (neg x))
unfolding neg
neg-finite nan h = h
neg-finite (inf s) h = h
neg-finite (fin s m e) h = tt

pub add-mono : (x x' y y' : Float) → T (finite x) → T (finite x') → T (finite y) → T (finite y') → T (le x x') → T (le y y') → T (le (x ⊕ y) (x' ⊕ y'))
add-mono x x' y y' p p' q q' h k =
    subst₂ (λ (a b : Float). T (le a b)) (sub-neg x y) (sub-neg x' y')
    (sub-mono x x' (neg y) (neg y') p p' (neg-finite y q) (neg-finite y' q') h (neg-le y y' k))

-- ---- the square of x, for x between -c and c
pub square-is : (x : Float) → T (finite x) → x ⊗ x ≡ round binary64 false (num x * num x) (den x * den x)
unfolding mul
square-is nan p = absurd p
square-is (inf s) p = absurd p
square-is (fin true m e) p = refl
square-is (fin false m e) p = refl

-- |x| ≤ c as fractions
pub magnitude : (x c : Float) → T (finite x) → T (finite c) → T (le (neg c) x) → T (le x c) → num x * den c ≤ num c * den x
unfolding neg
magnitude nan c p q h k = absurd p
magnitude (inf s) c p q h k = absurd p
magnitude (fin s m e) nan p q h k = absurd q
magnitude (fin s m e) (inf t) p q h k = absurd q
magnitude (fin s m e) (fin t n d) p q h k = go s t (le→cross (fin (not t) n d) (fin s m e) tt tt h) (le→cross (fin s m e) (fin t n d) tt tt k)
  where
    go : (s t : Bool) → pp (not t) n * up d * down e + nn s m * up e * down d ≤ pp s m * up e * down d + nn (not t) n * up d * down e
        → pp s m * up e * down d + nn t n * up d * down e ≤ pp t n * up d * down e + nn s m * up e * down d → m * up e * down d ≤ n * up d * down e
    go true true h k = omega arith
    go true false h k = omega arith
    go false true h k = omega arith
    go false false h k = omega arith
