-- A plane at the distance x along an axis: its product with a bound on 1 / d against its quotient by d. Assumes nothing.
use mathlib.Core.Path.{◌≡◌, refl, sym, ap, subst}
use mathlib.Core.Logic.{◌⊎◌, inl, inr}
use mathlib.Core.Bool.{Bool, true, false, cond, ◌&&◌, and-eq-true_iff, true≢false}
use Prim.Native.Nat.{ℕ, zero, suc, ◌+◌, ◌*◌, ◌/◌, ◌%◌, ◌^◌, ◌≤◌, ◌<◌, compare}
use native.Mathlib.Nat.{mul-le-mul, mul-le-mul_right, le_of_mul-le-mul_right, mul-pos, zero-lt-suc, div-add-mod', mod-lt, div-div-eq-div-mul, le-div_iff_mul-le}
use native.Mathlib.Omega.{arith}
use lib.IntN.{ℤ}
use lib.Dec.{T, eqb, eqb-suc-zero, lit<, lit≤}
use lib.Pow.{pow_pos, pow-add}
use lib.Ieee.{Float, nan, inf, fin, binary64, up, down, unlike, size, round, mul, div, lt, le, of_bits, fits}
use lib.Ieee.Digits.{size_reaches}
use lib.Ieee.Fits.{up_pos, down_pos}
use lib.Ieee.Nearest.{nearest-ge}
use lib.Ieee.Order.{drop, kept, round_mono}
use lib.Ieee.Scale.{finite, grid, round_val, round_under, normal_of_fraction}
use lib.Ieee.Positive.{num, den, den_pos, first_pos, value→cross}
use Rattle.floats.specs.Arith.{◌⊗◌, ◌⊘◌, bits, zero_f, half_f, one_f}
use Rattle.floats.specs.Numbers.{number}
use Rattle.floats.proofs.Order.{plus, less, le→cross, le-or-lt, le-not-gt, le_trans, lt-le-trans, lt-number-r, le-number-l, le-number-r, le-bot, le-top}
use Rattle.floats.proofs.Rounding.{Rounded, rounded-mono, rounded-number, square-is}
use Rattle.floats.proofs.Nonneg.{unsigned, value-nonneg}
use Rattle.sqrt.proofs.Monotone.{fitting}
use Rattle.tree_beams.specs.Beams.{near_one, is_shown, longer, next_to_zero}

-- ---- rounding keeps the order, so a strict order of results is one of the fractions
rounded-lt : (P N D Q M E : ℕ) (x y : Float) → 0 < D → 0 < E → Rounded x P N D → Rounded y Q M E → T (lt x y) → P * E + M * D < Q * D + N * E
rounded-lt P N D Q M E x y D> E> r s h = elim (le-or-lt (Q * D + N * E) (P * E + M * D)) [
  | inl i ↦ absurd (le-not-gt y x (rounded-mono Q M E P N D E> D> i y x s r) h)
  | inr i ↦ i
]

-- a / b of either sign
above : (a b : ℕ) → Rounded (round binary64 false a b) a 0 b
above a b = record { sign = false; magnitude = a; is = refl; off = omega arith }

below : (a b : ℕ) → Rounded (round binary64 true a b) 0 a b
below a b = record { sign = true; magnitude = a; is = refl; off = omega arith }

-- the constants
zero-rounded : Rounded zero_f 0 0 1
unfolding round of_bits
zero-rounded = record { sign = false; magnitude = 0; is = refl; off = omega arith }

half-rounded : Rounded half_f 1 0 2
unfolding round of_bits
half-rounded = record { sign = false; magnitude = 1; is = refl; off = omega arith }

one-rounded : Rounded one_f 1 0 1
unfolding round of_bits
one-rounded = record { sign = false; magnitude = 1; is = refl; off = omega arith }

near-rounded : Rounded near_one 4503599627370487 0 4503599627370496
unfolding round of_bits
near-rounded = record { sign = false; magnitude = 4503599627370487; is = refl; off = omega arith }

guard-rounded : Rounded next_to_zero 3511119404027961 0 (2 ^ 1015)
unfolding round of_bits
guard-rounded = record { sign = false; magnitude = 3511119404027961; is = refl; off = omega arith }

-- the least float above 0, which two thirds of it are rounded to
abbrev least : Float
least = bits 1

least-rounded : Rounded least 2 0 (3 * 2 ^ 1074)
unfolding round of_bits
least-rounded = record { sign = false; magnitude = 2; is = refl; off = omega arith }

-- ---- what the tests of a bound show: d and low have one sign, low * d lies between 1 - 9 * 2^-52 and 1, and low is at least two thirds in size
pub record Shown (d low : Float) : Type 0 where
  pub sign : Bool
  pub m : ℕ
  pub e : ℤ
  pub n : ℕ
  pub k : ℤ
  pub d-is : d ≡ fin sign m e
  pub low-is : low ≡ fin sign n k
  pub some : 0 < m
  pub under : n * up k * (m * up e) ≤ down k * down e
  pub over : 4503599627370487 * (down k * down e) ≤ 4503599627370496 * (n * up k * (m * up e))
  pub large : 2 * down k ≤ 3 * (n * up k)

no_end : {A : Type 0} (b s : Bool) → T (lt near_one (cond b nan (inf s))) → T (lt (cond b nan (inf s)) one_f) → A
unfolding lt of_bits
no_end true s h k = absurd h
no_end false true h k = absurd h
no_end false false h k = absurd k

no_less : {A : Type 0} (a b : ℕ) → 0 < b → T (lt near_one (round binary64 true a b)) → A
no_less a b B h = absurd (omega (arith, rounded-lt _ _ _ _ _ _ near_one (round binary64 true a b) (lit< tt) B near-rounded (below a b) h))

root : (a b : ℕ) → b * b < 2 * (a * a) → 2 * b ≤ 3 * a
root a b h = elim (le-or-lt (2 * b) (3 * a)) [ inl i ↦ i | inr i ↦ absurd (omega (arith, h, mul-le-mul i i)) ]

module _ (s : Bool) (m : ℕ) (e : ℤ) (n : ℕ) (k : ℤ) where
  abbrev a : ℕ
  a = n * up k * (m * up e)

  abbrev b : ℕ
  b = down k * down e

  b> : 0 < b
  b> = mul-pos (down_pos k) (down_pos e)

  alike : T (lt near_one (round binary64 false a b)) → T (lt (round binary64 false a b) one_f) → T (lt half_f (fin s n k ⊗ fin s n k))
      → Shown (fin s m e) (fin s n k)
  alike h i j =
      let o = rounded-lt _ _ _ _ _ _ near_one (round binary64 false a b) (lit< tt) b> near-rounded (above a b) h in
      let u = rounded-lt _ _ _ _ _ _ (round binary64 false a b) one_f b> (lit< tt) (above a b) one-rounded i in
      let c = n * up k * (n * up k) in
      let d = down k * down k in
      let j' = subst (λ (z : Float). T (lt half_f z)) (square-is (fin s n k) tt) j in
      let q = rounded-lt _ _ _ _ _ _ half_f (round binary64 false c d) (lit< tt) (mul-pos (down_pos k) (down_pos k)) half-rounded (above c d) j' in
      record {
        sign = s;
        m = m;
        e = e;
        n = n;
        k = k;
        d-is = refl;
        low-is = refl;
        some = first_pos m (up e) (first_pos (m * up e) (n * up k) (omega (arith, o, b>)));
        under = omega (arith, u);
        over = omega (arith, o);
        large = root (n * up k) (down k) (omega (arith, q));
      }

tested : (d low : Float) → T (lt near_one (low ⊗ d)) → T (lt (low ⊗ d) one_f) → T (lt half_f (low ⊗ low)) → Shown d low
unfolding mul
tested d nan h i j = absurd (lt-number-r near_one nan h)
tested nan (inf s) h i j = absurd (lt-number-r near_one nan h)
tested (inf t) (inf s) h i j = no_end false (unlike s t) h i
tested (fin t m e) (inf s) h i j = no_end (eqb m 0) (unlike s t) h i
tested nan (fin s n k) h i j = absurd (lt-number-r near_one nan h)
tested (inf t) (fin s n k) h i j = no_end (eqb n 0) (unlike s t) h i
tested (fin true m e) (fin false n k) h i j = no_less (a true m e n k) (b true m e n k) (b> true m e n k) h
tested (fin false m e) (fin true n k) h i j = no_less (a true m e n k) (b true m e n k) (b> true m e n k) h
tested (fin true m e) (fin true n k) h i j = alike true m e n k h i j
tested (fin false m e) (fin false n k) h i j = alike false m e n k h i j

pub shown : (d low : Float) → is_shown d low ≡ true → Shown d low
unfolding is_shown
shown d low h =
    let p = (and-eq-true_iff (lt near_one (low ⊗ d)) (lt (low ⊗ d) one_f && lt half_f (low ⊗ low))).0 h in
    let q = (and-eq-true_iff (lt (low ⊗ d) one_f) (lt half_f (low ⊗ low))).0 p.1 in
    tested d low (told p.0) (told q.0) (told q.1)
  where
    told : {t : Bool} → t ≡ true → T t
    told e = subst T (sym e) tt

-- ---- in the normal range rounding takes off less than one part in 2 ^ 52
floored : (a b : ℕ) → 0 < b → 2 ^ 52 * b ≤ a * 2 ^ 1074 → a * 2 ^ 1074 * 2 ^ 52 ≤ grid binary64 a b * b * (2 ^ 52 + 1)
floored a b B h =
    let c = a * 2 ^ 1074 in
    let k = drop 53 c b in
    let u = b * 2 ^ k in
    let w = c / u in
    let l : 52 + k < size (c / b) = omega (arith, normal_of_fraction binary64 a b B h) in
    let i : 2 ^ 52 ≤ w =
    subst (λ (x : ℕ). 2 ^ 52 ≤ x) (div-div-eq-div-mul c b (2 ^ k)) ((le-div_iff_mul-le (pow_pos k)).1
    (subst (λ (x : ℕ). x ≤ c / b) (pow-add 2 52 k) (size_reaches (c / b) (52 + k) l))) in
    go c w (c % u) (kept 53 c b) (2 ^ k) (2 ^ 52) (div-add-mod' c u) (mod-lt c (mul-pos B (pow_pos k))) i (nearest-ge w (compare (c % u * 2) u))
  where
    go : (c w r q p t : ℕ) → w * (b * p) + r ≡ c → r < b * p → t ≤ w → w ≤ q → c * t ≤ q * p * b * (t + 1)
    go c w r q p t e l i j =
        omega (arith, ap (λ (x : ℕ). x * t) e, mul-le-mul_right t l, mul-le-mul_right (b * p) i, mul-le-mul_right (b * p * (t + 1)) j)

-- ---- made longer
longer-rounded : (x : Float) → T (finite x) → Rounded (x ⊗ longer) (plus x * 4503599627370541) (less x * 4503599627370541) (den x * 4503599627370496)
unfolding mul of_bits
longer-rounded nan p = absurd p
longer-rounded (inf s) p = absurd p
longer-rounded (fin true m e) p = record { sign = true; magnitude = m * up e * 4503599627370541; is = refl; off = omega arith }
longer-rounded (fin false m e) p = record { sign = false; magnitude = m * up e * 4503599627370541; is = refl; off = omega arith }

longer-number : (x : Float) → T (number x) → T (number (x ⊗ longer))
unfolding mul of_bits
longer-number nan h = absurd h
longer-number (inf s) h = tt
longer-number (fin s m e) h = rounded-number (fin s m e ⊗ longer) _ _ _ (mul-pos (down_pos e) (lit< tt)) (longer-rounded (fin s m e) tt)

pub longer-mono : (x y : Float) → T (le x y) → T (le (x ⊗ longer) (y ⊗ longer))
unfolding mul of_bits le
longer-mono nan y h = absurd h
longer-mono (inf true) y h = le-bot (y ⊗ longer) (longer-number y (le-number-r (inf true) y h))
longer-mono (inf false) nan h = absurd h
longer-mono (inf false) (inf true) h = absurd h
longer-mono (inf false) (inf false) h = tt
longer-mono (inf false) (fin t n d) h = absurd h
longer-mono (fin s m e) nan h = absurd h
longer-mono (fin s m e) (inf true) h = absurd h
longer-mono (fin s m e) (inf false) h = le-top (fin s m e ⊗ longer) (longer-number (fin s m e) tt)
longer-mono (fin s m e) (fin t n d) h =
    rounded-mono _ _ _ _ _ _ (mul-pos (down_pos e) (lit< tt)) (mul-pos (down_pos d) (lit< tt))
    (go 4503599627370541 4503599627370496 _ _ (down e) _ _ (down d) (le→cross (fin s m e) (fin t n d) tt tt h))
    (fin s m e ⊗ longer) (fin t n d ⊗ longer) (longer-rounded (fin s m e) tt) (longer-rounded (fin t n d) tt)
  where
    go : (c k p n d p' n' d' : ℕ) → p * d' + n' * d ≤ p' * d + n * d' → p * c * (d' * k) + n' * c * (d * k) ≤ p' * c * (d * k) + n * c * (d' * k)
    go c k p n d p' n' d' h = omega (arith, mul-le-mul_right (c * k) h)

-- ---- a product p with the bound and the quotient t that it stands for: p is short of t where it is above 0, and made longer it reaches t,
-- but for what is next to 0
pub record Left (p t : Float) : Type 0 where
  pub by : T (le t (p ⊗ longer)) ⊎ T (le t next_to_zero)
  pub behind : T (le p zero_f) → T (le t zero_f)

abbrev pub Entered : Float → Float → Type 0
Entered p t = T (lt zero_f p) → T (le p t)

pub record Met (p t : Float) : Type 0 where
  pub is : T (number p)
  pub enters : Entered p t
  pub leaves : Left p t

none_above : (u : Bool) (a b : ℕ) → 0 < b → (u ≡ false → a ≡ 0) → T (le (round binary64 u a b) zero_f)
none_above true a b B h = rounded-mono _ _ _ _ _ _ B (lit< tt) (omega arith) (round binary64 true a b) zero_f (below a b) zero-rounded
none_above false a b B h = rounded-mono _ _ _ _ _ _ B (lit< tt) (omega (arith, h refl)) (round binary64 false a b) zero_f (above a b) zero-rounded

met-behind : (u : Bool) (a b c d : ℕ) → 0 < b → 0 < d → (u ≡ false → (a ≡ 0) × (c ≡ 0)) → Met (round binary64 u a b) (round binary64 u c d)
unfolding of_bits le
met-behind u a b c d B D z =
    let p = round binary64 u a b in
    let t = round binary64 u c d in
    let h : T (le p zero_f) = none_above u a b B (λ e. (z e).0) in
    let k : T (le t zero_f) = none_above u c d D (λ e. (z e).1) in
    let l : Left p t = record { by = inr (le_trans t zero_f next_to_zero k tt); behind = λ i. k } in
    record { is = le-number-l p zero_f h; enters = λ i. absurd (le-not-gt p zero_f h i); leaves = l }

-- x / d and the product with low as fractions: x is xn / xd, low is ln / ld and d is dn / dd
module _ (xn xd ln ld dn dd : ℕ) (X> : 0 < xd) (L> : 0 < ld) (l> : 0 < ln) (D> : 0 < dn)
    (over : 4503599627370487 * (ld * dd) ≤ 4503599627370496 * (ln * dn)) where
  abbrev p : Float
  p = round binary64 false (xn * ln) (xd * ld)

  abbrev t : Float
  t = round binary64 false (xn * dd) (dn * xd)

  P> : 0 < xd * ld
  P> = mul-pos X> L>

  T> : 0 < dn * xd
  T> = mul-pos D> X>

  -- in the normal range
  reaches : 2 ^ 52 * (xd * ld) ≤ xn * ln * 2 ^ 1074 → T (finite p) → T (le t (p ⊗ longer))
  reaches h f =
      let v = round_val binary64 (xn * ln) (xd * ld) (round_under binary64 (xn * ln) (xd * ld) f) in
      let z = unsigned p f (value-nonneg p _ _ v) in
      rounded-mono _ _ _ _ _ _ T> (mul-pos (den_pos p) (lit< tt))
      (rw (z.0, z.1) (go (num p) (den p) (grid binary64 (xn * ln) (xd * ld)) (2 ^ 1074) 4503599627370496 4503599627370487 4503599627370541
      (pow_pos 1074) (lit< tt) (value→cross p _ _ v) (floored (xn * ln) (xd * ld) P> h) over (lit≤ tt)))
      t (p ⊗ longer) (above (xn * dd) (dn * xd)) (longer-rounded p f)
    where
      chain : (x y a b n d g u k r c : ℕ) → 0 < u → 0 < b → 0 < r → x * (b * r) ≤ a * k * y → n * u ≡ g * d
          → a * u * k ≤ g * b * (k + 1) → (k + 1) * k ≤ c * r → x * (d * k) ≤ n * c * y
      chain x y a b n d g u k r c U B R h e i w =
          let j : a * k * d ≤ n * b * (k + 1) = le_of_mul-le-mul_right {k = u} (omega (arith, mul-le-mul_right d i, ap (λ (z : ℕ). z * (b * (k + 1))) e)) U in
          let l : x * r * d ≤ n * (k + 1) * y = le_of_mul-le-mul_right {k = b} (omega (arith, mul-le-mul_right d h, mul-le-mul_right y j)) B in
          le_of_mul-le-mul_right {k = r} (omega (arith, mul-le-mul_right k l, mul-le-mul_right (n * y) w)) R

      go : (n d g u k r c : ℕ) → 0 < u → 0 < r → n * u ≡ g * d → xn * ln * u * k ≤ g * (xd * ld) * (k + 1) → r * (ld * dd) ≤ k * (ln * dn) → (k + 1) * k ≤ c * r
          → xn * dd * (d * k) + 0 * c * (dn * xd) ≤ n * c * (dn * xd) + 0 * (d * k)
      go n d g u k r c U R e i o w =
          omega (arith, chain (xn * dd) (dn * xd) (xn * ln) (xd * ld) n d g u k r c U P> R (omega (arith, mul-le-mul_right (xn * xd) o)) e i w)

  -- below it
  small : xn * ln * 2 ^ 1074 < 2 ^ 52 * (xd * ld) → T (le t next_to_zero)
  small h = rounded-mono _ _ _ _ _ _ T> (pow_pos 1015) (go (2 ^ 1015) (2 ^ 1074) (pow-add 2 1015 59) h) t next_to_zero (above (xn * dd) (dn * xd)) guard-rounded
    where
      go : (u v : ℕ) → v ≡ u * 2 ^ 59 → xn * ln * v < 2 ^ 52 * (xd * ld) → xn * dd * u + 0 * (dn * xd) ≤ 3511119404027961 * (dn * xd) + 0 * u
      go u v e i =
          let o : ld * dd ≤ 2 * (ln * dn) = omega (arith, over) in
          let j : xn * ln * u * 128 ≤ xd * ld = omega (arith, i, ap (λ (z : ℕ). xn * ln * z) e) in
          let c : xn * dd * u ≤ dn * xd =
          le_of_mul-le-mul_right {k = ln * ld} (omega (arith, mul-le-mul_right (xn * ln * u) o, mul-le-mul_right (ln * dn) j)) (mul-pos l> L>) in
          omega (arith, c)

  ended : (q : Float) → T (le least q) → (T (finite q) → T (le t (q ⊗ longer))) → T (le t (q ⊗ longer))
  unfolding mul le of_bits
  ended nan h f = absurd h
  ended (inf true) h f = absurd h
  ended (inf false) h f = le-top t (rounded-number t _ _ _ T> (above (xn * dd) (dn * xd)))
  ended (fin s m e) h f = f tt

  met-ahead : xd ≤ 2 ^ 1074 * xn → 2 * ld ≤ 3 * ln → ln * dn ≤ ld * dd → Met p t
  unfolding lt of_bits
  met-ahead h k under =
      let l : T (le least p) =
      rounded-mono _ _ _ _ _ _ (mul-pos {m = 3} (lit< tt) (pow_pos 1074)) P> (go (2 ^ 1074) h) least p least-rounded (above (xn * ln) (xd * ld)) in
      record {
        is = le-number-r least p l;
        enters = λ i. round_mono binary64 (xn * ln) (xd * ld) (xn * dd) (dn * xd) P> T> (omega (arith, mul-le-mul_right (xn * xd) under));
        leaves = record {
          by = elim (le-or-lt (2 ^ 52 * (xd * ld)) (xn * ln * 2 ^ 1074)) [ inl i ↦ inl (ended p l (reaches i)) | inr i ↦ inr (small i) ];
          behind = λ i. absurd (le-not-gt p zero_f i (lt-le-trans zero_f least p tt l));
        };
      }
    where
      go : (u : ℕ) → xd ≤ u * xn → 2 * (xd * ld) + 0 * (3 * u) ≤ xn * ln * (3 * u) + 0 * (xd * ld)
      go u h = omega (arith, mul-le-mul h k)

-- ---- the plane
nonzero : (m : ℕ) → 0 < m → eqb m 0 ≡ false
nonzero zero h = absurd (omega (arith, h))
nonzero (suc m) h = eqb-suc-zero m

pub met : (x d low : Float) → T (finite x) → T (fits binary64 x) → Shown d low → Met (x ⊗ low) (x ⊘ d)
unfolding mul div
met nan d low f g s = absurd f
met (inf r) d low f g s = absurd f
met (fin r i j) d low f g s =
    rw (s.d-is, s.low-is, nonzero s.m s.some) (go i (unlike r s.sign) g)
  where
    P> : 0 < down j * down s.k
    P> = mul-pos (down_pos j) (down_pos s.k)

    D> : 0 < s.m * up s.e
    D> = mul-pos s.some (up_pos s.e)

    l> : 0 < s.n * up s.k
    l> = omega (arith, s.large, down_pos s.k)

    fine : (d u n : ℕ) → 0 < n → d ≤ u → d ≤ u * n
    fine d u n N h = omega (arith, h, mul-le-mul_right u N)

    go : (i : ℕ) (u : Bool) → T (fits binary64 (fin r i j))
        → Met (round binary64 u (i * up j * (s.n * up s.k)) (down j * down s.k)) (round binary64 u (i * up j * down s.e) (s.m * up s.e * down j))
    go zero u g = met-behind u _ _ _ _ P> (mul-pos D> (down_pos j)) (λ e. (omega arith, omega arith))
    go (suc i) true g = met-behind true _ _ _ _ P> (mul-pos D> (down_pos j)) (λ e. absurd (true≢false e))
    go (suc i) false g =
        met-ahead (suc i * up j) (down j) (s.n * up s.k) (down s.k) (s.m * up s.e) (down s.e) (down_pos j) (down_pos s.k) l> D> s.over
        (fine (down j) (2 ^ 1074) (suc i * up j) (mul-pos (zero-lt-suc i) (up_pos j)) (fitting r i j g).fine) s.large s.under
