-- The relative error of a rounded sum, product and quotient. A float's size is a fraction num / den; a rounded one is also a whole number of units of
-- 2 ^ -1074 (`Counts`). The exact result is 0 or at least 2 ^ -k with k at most 1022 (`Big`), so that nothing is lost below the normal range. Assumes nothing.
use mathlib.Core.Path.{◌≡◌, refl, sym, ap, ◌∙◌, subst}
use mathlib.Core.Logic.{◌⊎◌, inl, inr}
use mathlib.Core.Bool.{Bool, true, false, not, true≢false}
use Prim.Native.Nat.{ℕ, zero, suc, ◌+◌, ◌*◌, ◌/◌, ◌%◌, ◌^◌, ◌≤◌, ◌<◌, compare, Ordering}
use native.Mathlib.Nat.{le_trans, mul-le-mul_right, le_of_mul-le-mul_right, mul-pos, zero-mul, mod-lt, div-add-mod', div-div-eq-div-mul, le-div_iff_mul-le, pow-suc, eq_of_mul-eq-mul_right}
use native.Mathlib.Omega.{arith}
use lib.Dec.{T, is_le, compare_is_eq, leb, leb→le, nleb→lt, eqb→eq}
use lib.Pow.{pow-add, pow_pos, pow_mono}
use lib.Ieee.{Float, nan, inf, fin, binary64, up, size, nearest, round, neg}
use lib.Ieee.Digits.{size_reaches}
use lib.Ieee.Fits.{round_is}
use lib.Ieee.Exact.{HasValue, units_val}
use lib.Ieee.Nearest.{closest, nearest-ge}
use lib.Ieee.Order.{drop, kept}
use lib.Ieee.Scale.{finite, grid, overflow, round_under, normal_of_fraction}
use lib.Ieee.Positive.{num, den}
use Rattle.floats.proofs.Order.{plus, less}
use Rattle.floats.proofs.Rounding.{Off, Rounded, round-neg, zero-pp, zero-nn}
use Rattle.draw_rings.proofs.Relative.{Near, near-sym, near-is, near-zero, near_le}

-- ---- to the nearest whole number: within half a unit
abbrev pub Half : ℕ → ℕ → ℕ → Type 0
Half n u q = (2 * (q * u) ≤ 2 * n + u) × (2 * n ≤ 2 * (q * u) + u)

half_of : (n u w r : ℕ) (o : Ordering) → w * u + r ≡ n → r < u → (T (is_le o) → r * 2 ≤ u) → (T (not (is_le o)) → u < r * 2) → (T (compare_is_eq o) → r * 2 ≡ u) → Half n u (nearest w o)
half_of n u w r Ordering.lt e l a b c = let h = a tt in (omega arith, omega arith)
half_of n u w r Ordering.eq e l a b c =
    let h = c tt in
    let m : w % 2 ≤ 1 = omega arith in
    let t : w % 2 * u ≤ 1 * u = mul-le-mul_right u m in
    (omega arith, omega arith)
half_of n u w r Ordering.gt e l a b c = let h = b tt in (omega arith, omega arith)

pub closest-half : (n u : ℕ) → 0 < u → Half n u (closest n u)
closest-half n u U = half_of n u (n / u) (n % u) (compare (n % u * 2) u) (div-add-mod' n u) (mod-lt n U) (leb→le (n % u * 2) u) (nleb→lt (n % u * 2) u) (eqb→eq (n % u * 2) u)

-- where all 53 digits are in use, half a unit is one part in 2 ^ 53, of the exact number and of the rounded one
full-near : (n u q : ℕ) → Half n u q → 2 ^ 52 * u ≤ n → 2 ^ 52 ≤ q → Near 1 (q * u) n
full-near n u q h f g = let k = mul-le-mul_right u g in record { under = omega (arith, h.0, f); over = omega (arith, h.1, k) }

none-near : (n u q : ℕ) → 0 < u → Half n u q → n ≡ 0 → Near 1 (q * u) n
none-near n u q U h e = let z : q * u ≡ 0 = none q (omega (arith, h.0)) in record { under = omega arith; over = omega arith }
  where
    none : (q : ℕ) → 2 * (q * u) ≤ u → q * u ≡ 0
    none zero l = zero-mul u
    none (suc q) l = absurd (omega arith)

digits : (n b : ℕ) → 0 < b → 53 ≤ size (n / b) → (2 ^ 52 * (b * 2 ^ drop 53 n b) ≤ n) × (2 ^ 52 ≤ kept 53 n b)
digits n b B h =
    let k = drop 53 n b in
    let l : 52 + k < size (n / b) = omega arith in
    let w : 2 ^ 52 ≤ n / (b * 2 ^ k) = subst (λ (x : ℕ). 2 ^ 52 ≤ x) (div-div-eq-div-mul n b (2 ^ k)) ((le-div_iff_mul-le (pow_pos k)).1 (subst (λ (x : ℕ). x ≤ n / b) (pow-add 2 52 k) (size_reaches (n / b) (52 + k) l))) in
    let U : 0 < b * 2 ^ k = mul-pos B (pow_pos k) in
    ((le-div_iff_mul-le U).0 w, le_trans w (nearest-ge (n / (b * 2 ^ k)) (compare (n % (b * 2 ^ k) * 2) (b * 2 ^ k))))

-- ---- a fraction that is 0 or in the normal range, rounded: one part in 2 ^ 53
pub grid-near : (a b : ℕ) → 0 < b → (a ≡ 0) ⊎ (2 ^ 52 * b ≤ a * 2 ^ 1074) → Near 1 (grid binary64 a b * b) (a * 2 ^ 1074)
grid-near a b B c =
    near-is (same (kept 53 (a * 2 ^ 1074) b) (2 ^ k)) refl
    (elim c [
      | inl z ↦ none-near (a * 2 ^ 1074) (b * 2 ^ k) (kept 53 (a * 2 ^ 1074) b) U half (ap (λ (x : ℕ). x * 2 ^ 1074) z ∙ zero-mul (2 ^ 1074))
      | inr h ↦ let d = digits (a * 2 ^ 1074) b B (normal_of_fraction binary64 a b B h) in full-near (a * 2 ^ 1074) (b * 2 ^ k) (kept 53 (a * 2 ^ 1074) b) half d.0 d.1
    ])
  where
    k : ℕ
    k = drop 53 (a * 2 ^ 1074) b

    U : 0 < b * 2 ^ k
    U = mul-pos B (pow_pos k)

    half : Half (a * 2 ^ 1074) (b * 2 ^ k) (kept 53 (a * 2 ^ 1074) b)
    half = closest-half (a * 2 ^ 1074) (b * 2 ^ k) U

    same : (q p : ℕ) → q * (b * p) ≡ q * p * b
    same q p = omega arith

-- ---- a rounded value counts units of 2 ^ -1074, and has its sign
pub record Counts (n : ℕ) (x : Float) : Type 0 where
  pub bounded : T (finite x)
  pub units : num x * 2 ^ 1074 ≡ n * den x

neg-finite : (x : Float) → T (finite (neg x)) → T (finite x)
unfolding neg
neg-finite nan h = h
neg-finite (inf s) h = h
neg-finite (fin s m e) h = tt

under-overflow : (s : Bool) (a b : ℕ) → T (finite (round binary64 s a b)) → grid binary64 a b < overflow binary64
under-overflow false a b h = round_under binary64 a b h
under-overflow true a b h = round_under binary64 a b (neg-finite (round binary64 false a b) (subst (λ (x : Float). T (finite x)) (round-neg a b) h))

pub round-value : (s : Bool) (a b : ℕ) → T (finite (round binary64 s a b)) → HasValue (round binary64 s a b) s (grid binary64 a b) (2 ^ 1074)
round-value s a b h =
    subst (λ (x : Float). HasValue x s (grid binary64 a b) (2 ^ 1074)) (sym (round_is binary64 s a b))
    (units_val binary64 s (kept 53 (a * 2 ^ 1074) b) (drop 53 (a * 2 ^ 1074) b) (under-overflow s a b h))

-- on the side s: p - n is from 0 on, or up to 0
abbrev pub Sided : Bool → ℕ → ℕ → Type 0
Sided false p n = n ≡ 0
Sided true p n = p ≡ 0

abbrev pub Side : Bool → Float → Type 0
Side s x = Sided s (plus x) (less x)

pub value-side : (x : Float) (s : Bool) (a c : ℕ) → HasValue x s a c → Side s x
value-side nan s a c h = absurd h
value-side (inf t) s a c h = absurd h
value-side (fin false m e) false a c h = zero-mul (up e)
value-side (fin true m e) true a c h = zero-mul (up e)
value-side (fin false m e) true a c h = absurd (true≢false (sym h.0))
value-side (fin true m e) false a c h = absurd (true≢false h.0)

pub zero-side : (x : Float) (s : Bool) → num x ≡ 0 → Side s x
zero-side nan false h = refl
zero-side nan true h = refl
zero-side (inf t) false h = refl
zero-side (inf t) true h = refl
zero-side (fin t m e) false h = zero-nn t m (up e) h
zero-side (fin t m e) true h = zero-pp t m (up e) h

pub value-counts : (x : Float) (s : Bool) (a : ℕ) → HasValue x s a (2 ^ 1074) → Counts a x
value-counts nan s a h = absurd h
value-counts (inf t) s a h = absurd h
value-counts (fin t m e) s a h = record { bounded = tt; units = h.1 }

pub counts_zero : (x : Float) → Counts 0 x → num x ≡ 0
counts_zero x c = eq_of_mul-eq-mul_right (2 ^ 1074) (pow_pos 1074) (num x) 0 (c.units ∙ zero-mul (den x) ∙ sym (zero-mul (2 ^ 1074)))

-- ---- 0 or at least 2 ^ -k
abbrev pub BigF : ℕ → ℕ → ℕ → Type 0
BigF k a b = (a ≡ 0) ⊎ (b ≤ 2 ^ k * a)

abbrev pub Big : ℕ → Float → Type 0
Big k x = BigF k (num x) (den x)

pub big-normal : (k a b : ℕ) → T (leb k 1022) → BigF k a b → (a ≡ 0) ⊎ (2 ^ 52 * b ≤ a * 2 ^ 1074)
big-normal k a b w (inl z) = inl z
big-normal k a b w (inr h) = inr (go (2 ^ k) (2 ^ 1022) (2 ^ 52) (2 ^ 1074) (pow_mono (leb→le k 1022 w)) (pow-add 2 1022 52) h)
  where
    go : (p q r s : ℕ) → p ≤ q → s ≡ q * r → b ≤ p * a → r * b ≤ a * s
    go p q r s l e h = omega (arith, mul-le-mul_right (a * r) l, mul-le-mul_right r h, ap (λ (x : ℕ). x * a) e)

pub big-wider : (j k a b : ℕ) → T (leb j k) → BigF j a b → BigF k a b
big-wider j k a b w (inl z) = inl z
big-wider j k a b w (inr h) = inr (le_trans h (mul-le-mul_right a (pow_mono (leb→le j k w))))

-- ---- THE law: (p - n) / d on one side, rounded
pub record Result (s : Bool) (z : Float) (a b : ℕ) : Type 0 where
  pub count : ℕ
  pub counts : Counts count z
  pub near : Near 1 (count * b) (a * 2 ^ 1074)
  pub side : Side s z

one-sided : (s t : Bool) (k p n : ℕ) → Sided s p n → Off t k p n → (k ≡ p + n) × ((s ≡ t) ⊎ (k ≡ 0))
one-sided false false k p n a o = (omega arith, inl refl)
one-sided true true k p n a o = (omega arith, inl refl)
one-sided false true k p n a o = (omega arith, inr (omega arith))
one-sided true false k p n a o = (omega arith, inr (omega arith))

pub rounded-result : (s : Bool) (z : Float) (p n a b k : ℕ) → 0 < b → Rounded z p n b → Sided s p n → p + n ≡ a → T (finite z) → T (leb k 1022) → BigF k a b → Result s z a b
rounded-result s z p n a b k B r d e f w g =
    let o = one-sided s r.sign r.magnitude p n d r.off in
    let m : r.magnitude ≡ a = o.0 ∙ e in
    let f' : T (finite (round binary64 r.sign r.magnitude b)) = subst (λ (x : Float). T (finite x)) r.is f in
    let v : HasValue z r.sign (grid binary64 r.magnitude b) (2 ^ 1074) = subst (λ (x : Float). HasValue x r.sign (grid binary64 r.magnitude b) (2 ^ 1074)) (sym r.is) (round-value r.sign r.magnitude b f') in
    let c = value-counts z r.sign (grid binary64 r.magnitude b) v in
    let i = grid-near r.magnitude b B (subst (λ (x : ℕ). (x ≡ 0) ⊎ (2 ^ 52 * b ≤ x * 2 ^ 1074)) (sym m) (big-normal k a b w g)) in
    record {
      count = grid binary64 r.magnitude b;
      counts = c;
      near = subst (λ (x : ℕ). Near 1 (grid binary64 r.magnitude b * b) (x * 2 ^ 1074)) m i;
      side = elim o.1 [
        | inl q ↦ subst (λ (t : Bool). Side t z) (sym q) (value-side z r.sign (grid binary64 r.magnitude b) (2 ^ 1074) v)
        | inr q ↦ zero-side z s (counts_zero z (subst (λ (x : ℕ). Counts x z) (none (grid binary64 r.magnitude b) r.magnitude q i) c))
      ];
    }
  where
    none : (q m : ℕ) → m ≡ 0 → Near 1 (q * b) (m * 2 ^ 1074) → q ≡ 0
    none q m z h = eq_of_mul-eq-mul_right b B q 0 (near-zero {k = 1} {a = q * b} (near-is refl (ap (λ (x : ℕ). x * 2 ^ 1074) z ∙ zero-mul (2 ^ 1074)) h) ∙ sym (zero-mul b))

-- the result is 0 or at least half of what is known of the fraction
pub result-big : (s : Bool) (z : Float) (a b k : ℕ) → 0 < b → BigF k a b → Result s z a b → Big (suc k) z
result-big s z a b k B (inl e) r =
    inl (counts_zero z (subst (λ (x : ℕ). Counts x z) (eq_of_mul-eq-mul_right b B r.count 0 (near-zero {k = 1} {a = r.count * b} (near-is refl (ap (λ (x : ℕ). x * 2 ^ 1074) e ∙ zero-mul (2 ^ 1074)) r.near) ∙ sym (zero-mul b))) r.counts))
result-big s z a b k B (inr h) r =
    inr (go r.count (num z) (den z) (2 ^ 1074) (2 ^ k) (2 ^ suc k) (pow_pos 1074) (pow-suc 2 k) r.counts.units (near_le tt (near-sym r.near)) h)
  where
    -- b ≤ 2^k a, a T ≤ 2 (c b), n T = c d
    go : (c n d t p q : ℕ) → 0 < t → q ≡ p * 2 → n * t ≡ c * d → a * t ≤ 2 * (c * b) → b ≤ p * a → d ≤ q * n
    go c n d t p q C i u l h =
        le_of_mul-le-mul_right {k = t * b}
        (omega (arith, mul-le-mul_right (d * t) h, mul-le-mul_right (p * d) l, ap (λ (x : ℕ). x * (2 * p * b)) u, ap (λ (x : ℕ). x * (n * t * b)) i))
        (mul-pos C B)
