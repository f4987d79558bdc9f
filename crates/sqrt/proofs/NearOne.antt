-- The root of a number next to one: its bit pattern is half way from that of the number to that of 1, rounded down. Assumes nothing.
use Rattle.std.proofs.Common.{◌≡◌, ℕ, zero, suc, ◌+◌, ◌-◌, ◌*◌, ◌/◌, ◌%◌, ◌^◌, ◌<◌, ◌≤◌, false, sym, refl, ap, ◌∙◌, subst, inl, inr, le_refl, mul_assoc, add-mul, mul-le-mul, mul-add, arith, pow-add}
use lib.Ieee.{binary64, odd, of_bits}
use Rattle.floats.proofs.Order.{le-or-lt}
use Rattle.floats.proofs.Patterns.{high_is}
use Rattle.sqrt.specs.Root.{nearest_root, sqrt_of}
use Rattle.sqrt.proofs.Squares.{sq-further}
use Rattle.sqrt.proofs.Roots.{Near, near-unique, nearest-near}
use Rattle.sqrt.proofs.Values.{high_value, root-at-units}

-- r is half way from a to b, rounded down
abbrev pub Half : (a b r : ℕ) → Type 0
Half a b r = (2 * r ≤ a + b) × (a + b ≤ 2 * r + 1)

-- ---- whole numbers: the root of m * q is nearest to the half way from m to q
apart : (a d : ℕ) → (a + d) * (a + d) + a * a ≡ 2 * ((a + d) * a) + d * d
apart a d =
    let s = sq-further a d in
    let e = mul-add d (2 * a) d in
    let f = add-mul a d a in
    omega arith

apart_below : (a d : ℕ) → a * a + (a + d) * (a + d) ≡ 2 * (a * (a + d)) + d * d
apart_below a d = swapped (a + d) a (d * d) (apart a d)
  where
    swapped : (x y z : ℕ) → x * x + y * y ≡ 2 * (x * y) + z → y * y + x * x ≡ 2 * (y * x) + z
    swapped x y z h = omega arith

-- with r at d from q, m * q is r * r - d * d, or q more
half-near : (m q r d : ℕ) → Half m q r → r * r + q * q ≡ 2 * (r * q) + d * d → d * d < r → q ≤ d * d + r → Near (m * q) r
half-near m q r d h s lo hi = go (m + q - 2 * r) (omega arith) (omega arith)
  where
    times-q : (p : ℕ) → m + q ≡ 2 * r + p → m * q + q * q ≡ 2 * r * q + p * q
    times-q p e = sym (add-mul m q q) ∙ ap (λ (z : ℕ). z * q) e ∙ add-mul (2 * r) p q

    go : (p : ℕ) → m + q ≡ 2 * r + p → p ≤ 1 → Near (m * q) r
    go zero e l = let t = times-q 0 e in (omega arith, omega arith)
    go (suc zero) e l = let t = times-q 1 e in (omega arith, omega arith)
    go (suc (suc p)) e l = absurd (omega arith)

near-above : (m r : ℕ) → 2 ^ 52 ≤ r → r ≤ 2 ^ 52 + 2 ^ 26 → Half m (2 ^ 52) r → Near (m * 2 ^ 52) r
near-above m r lo hi h =
    let d = r - 2 ^ 52 in
    let e : 2 ^ 52 + d ≡ r = omega arith in
    let few : d ≤ 2 ^ 26 = omega arith in
    half-near m (2 ^ 52) r d h (subst (λ (z : ℕ). z * z + 2 ^ 52 * 2 ^ 52 ≡ 2 * (z * 2 ^ 52) + d * d) e (apart (2 ^ 52) d)) (omega (arith, mul-le-mul few (le_refl d))) (omega arith)

near-below : (m r : ℕ) → 2 ^ 53 - 2 ^ 26 ≤ r → r < 2 ^ 53 → Half m (2 ^ 53) r → Near (m * 2 ^ 53) r
near-below m r lo hi h =
    let d = 2 ^ 53 - r in
    let e : r + d ≡ 2 ^ 53 = omega arith in
    let some : 1 ≤ d = omega arith in
    let few : d ≤ 2 ^ 26 = omega arith in
    half-near m (2 ^ 53) r d h (subst (λ (z : ℕ). r * r + z * z ≡ 2 * (r * z) + d * d) e (apart_below r d)) (omega (arith, mul-le-mul few few)) (omega (arith, mul-le-mul some (le_refl d)))

is-nearest : (n r : ℕ) → 2 ^ 52 ≤ r → r < 2 ^ 53 → Near n r → r ≡ nearest_root n
is-nearest n r lo hi h =
    let few : r ≤ 2 ^ 53 - 1 = omega arith in
    near-unique n r (nearest_root n) h (nearest-near n (omega (arith, mul-le-mul lo (le_refl r))) (omega (arith, mul-le-mul few few)))

-- ---- bit patterns k * 2 ^ 52 + m, where that of 1 is k * 2 ^ 52 + q, and a root has the exponent k again
abbrev Within : (k b : ℕ) → Type 0
Within k b = (k * 2 ^ 52 + 2 ^ 52 ≤ b) × (b < k * 2 ^ 52 + 2 ^ 53)

module _ (k q : ℕ) (top : k < 2046) (again : (k + 52) / 2 + 485 ≡ k) (one : 2 ^ ((k + 52) % 2) * 2 ^ 52 ≡ q) where
  root_is : (m : ℕ) → 2 ^ 52 ≤ m → m < 2 ^ 53 → sqrt_of (of_bits binary64 (k * 2 ^ 52 + m)) ≡ odd 53 false (nearest_root (m * q)) k 1074
  root_is m lo hi =
      root-at-units m (k + 52) lo hi (of_bits binary64 (k * 2 ^ 52 + m)) (m * 2 ^ k) (high_value k m lo hi top) (mul_assoc m (2 ^ k) (2 ^ 52) ∙ ap (λ (z : ℕ). m * z) (sym (pow-add 2 k 52)))
      ∙ ap (λ (z : ℕ). odd 53 false (nearest_root z) ((k + 52) / 2 + 485) 1074) (mul_assoc m (2 ^ ((k + 52) % 2)) (2 ^ 52) ∙ ap (λ (z : ℕ). m * z) one)
      ∙ ap (λ (z : ℕ). odd 53 false (nearest_root (m * q)) z 1074) again

  by-nearest : (b r : ℕ) → Within k b → Within k r → Near ((b - k * 2 ^ 52) * q) (r - k * 2 ^ 52) → of_bits binary64 r ≡ sqrt_of (of_bits binary64 b)
  by-nearest b r u v n =
      let m = b - k * 2 ^ 52 in
      let s = r - k * 2 ^ 52 in
      let eb : k * 2 ^ 52 + m ≡ b = omega arith in
      let er : r ≡ k * 2 ^ 52 + s = omega arith in
      ap (of_bits binary64) er
      ∙ high_is k s (omega arith) (omega arith) top
      ∙ ap (λ (z : ℕ). odd 53 false z k 1074) (is-nearest (m * q) s (omega arith) (omega arith) n)
      ∙ sym (root_is m (omega arith) (omega arith))
      ∙ ap (λ (z : ℕ). sqrt_of (of_bits binary64 z)) eb

abbrev One : ℕ
One = 0x3FF0_0000_0000_0000

-- No wider: the number 2 ^ 27 + 2 patterns above 1 has another root.
pub near-one : (b r : ℕ) → One - 2 ^ 27 ≤ b → b ≤ One + 2 ^ 27 → Half b One r → of_bits binary64 r ≡ sqrt_of (of_bits binary64 b)
near-one b r lo hi h = elim (le-or-lt One b) [ inl l ↦ above l | inr l ↦ below l ]
  where
    above : One ≤ b → of_bits binary64 r ≡ sqrt_of (of_bits binary64 b)
    above l =
        by-nearest 1022 (2 ^ 52) (omega arith) refl refl b r (omega arith, omega arith) (omega arith, omega arith)
        (near-above (b - 1022 * 2 ^ 52) (r - 1022 * 2 ^ 52) (omega arith) (omega arith) (omega arith, omega arith))

    below : b < One → of_bits binary64 r ≡ sqrt_of (of_bits binary64 b)
    below l =
        by-nearest 1021 (2 ^ 53) (omega arith) refl refl b r (omega arith, omega arith) (omega arith, omega arith)
        (near-below (b - 1021 * 2 ^ 52) (r - 1021 * 2 ^ 52) (omega arith) (omega arith) (omega arith, omega arith))
