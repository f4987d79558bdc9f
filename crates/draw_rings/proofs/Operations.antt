-- Sum, square, product, quotient and root: each gives a value that counts units, near the exact result, on a known side, 0 or at least 2 ^ -k. Assumes nothing.
use mathlib.Core.Path.{◌≡◌, refl, ap, ◌∙◌, subst}
use mathlib.Core.Logic.{inl, inr}
use mathlib.Core.Bool.{Bool, true, false}
use Prim.Native.Nat.{ℕ, ◌+◌, ◌*◌, ◌/◌, ◌^◌, ◌≤◌, ◌<◌}
use native.Mathlib.Nat.{le_of_lt, lt_of_lt_of_le, mul-le-mul, mul-le-mul_right, mul-pos, mul-div_cancel, div-mul-le_self, lt-div-mul-add}
use native.Mathlib.Omega.{arith}
use lib.Dec.{T, leb, leb→le}
use lib.Pow.{pow-add, pow_pos}
use lib.Ieee.{Float, nan, inf, fin, up, down, add, mul}
use lib.Ieee.Scale.{finite}
use lib.Ieee.Positive.{num, den, den_pos, positive, positive-finite}
use Rattle.floats.specs.Arith.{◌⊕◌, ◌⊗◌, ◌⊘◌}
use Rattle.floats.proofs.Order.{pp-mul, nn-mul, plus, less}
use Rattle.floats.proofs.Rounding.{Rounded, sum-rounded, div-rounded, square-is, num_pos}
use Rattle.floats.proofs.Nonneg.{positive-nonneg}
use Rattle.sqrt.specs.Root.{nearest_root, dropped, scaled, sqrt_of}
use Rattle.sqrt.proofs.Roots.{nearest-near}
use Rattle.sqrt.proofs.Values.{four, four-pos}
use Rattle.sqrt.proofs.Monotone.{root_units, units_of, rooted, scaled-lt, scaled-full, root-full, least-dropped}
use Rattle.draw_rings.proofs.Relative.{Near, near-is, near-scale, near-cancel}
use Rattle.draw_rings.proofs.Errors.{Counts, Sided, Side, BigF, Big, Result, rounded-result}

pub whole : (x : Float) → plus x + less x ≡ num x
whole nan = refl
whole (inf s) = refl
whole (fin true m e) = omega arith
whole (fin false m e) = omega arith

-- ---- the exact results as fractions
pub add-rounded : (x y : Float) → T (finite x) → T (finite y) → Rounded (x ⊕ y) (plus x * den y + plus y * den x) (less x * den y + less y * den x) (den x * den y)
unfolding add
add-rounded nan y p q = absurd p
add-rounded (inf s) y p q = absurd p
add-rounded (fin s m e) nan p q = absurd q
add-rounded (fin s m e) (inf t) p q = absurd q
add-rounded (fin s m e) (fin t n d) p q = simp (pp-mul, nn-mul) at (sum-rounded s (m * up e * down d) t (n * up d * down e) (down e * down d))

pub mul-rounded : (x y : Float) → T (finite x) → T (positive y) → Rounded (x ⊗ y) (plus x * num y) (less x * num y) (den x * den y)
unfolding mul
mul-rounded nan y p q = absurd p
mul-rounded (inf s) y p q = absurd p
mul-rounded (fin s m e) nan p q = absurd q
mul-rounded (fin s m e) (inf t) p q = absurd q
mul-rounded (fin s m e) (fin true n d) p q = absurd q
mul-rounded (fin false m e) (fin false n d) p q = record { sign = false; magnitude = m * up e * (n * up d); is = refl; off = omega arith }
mul-rounded (fin true m e) (fin false n d) p q = record { sign = true; magnitude = m * up e * (n * up d); is = refl; off = omega arith }

pub square-rounded : (x : Float) → T (finite x) → Rounded (x ⊗ x) (num x * num x) 0 (den x * den x)
square-rounded x p = record { sign = false; magnitude = num x * num x; is = square-is x p; off = omega arith }

-- ---- sides and sizes of the exact results
sided-add : (s : Bool) (p n q m c d : ℕ) → Sided s p n → Sided s q m → Sided s (p * c + q * d) (n * c + m * d)
sided-add false p n q m c d h i = omega (arith, ap (λ (z : ℕ). z * c) h, ap (λ (z : ℕ). z * d) i)
sided-add true p n q m c d h i = omega (arith, ap (λ (z : ℕ). z * c) h, ap (λ (z : ℕ). z * d) i)

sided-scale : (s : Bool) (p n c : ℕ) → Sided s p n → Sided s (p * c) (n * c)
sided-scale false p n c h = omega (arith, ap (λ (z : ℕ). z * c) h)
sided-scale true p n c h = omega (arith, ap (λ (z : ℕ). z * c) h)

pub big-add : (k a b c d : ℕ) → BigF k a b → BigF k c d → BigF k (a * d + c * b) (b * d)
big-add k a b c d (inr h) g = inr (omega (arith, mul-le-mul_right d h))
big-add k a b c d (inl z) (inr h) = inr (omega (arith, mul-le-mul_right b h))
big-add k a b c d (inl z) (inl y) = inl (omega (arith, ap (λ (x : ℕ). x * d) z, ap (λ (x : ℕ). x * b) y))

pub big-mul : (j k a b c d : ℕ) → BigF j a b → BigF k c d → BigF (j + k) (a * c) (b * d)
big-mul j k a b c d (inl z) g = inl (omega (arith, ap (λ (x : ℕ). x * c) z))
big-mul j k a b c d (inr h) (inl z) = inl (omega (arith, ap (λ (x : ℕ). x * a) z))
big-mul j k a b c d (inr h) (inr g) = inr (go (2 ^ j) (2 ^ k) (2 ^ (j + k)) (pow-add 2 j k) h g)
  where
    go : (p q r : ℕ) → r ≡ p * q → b ≤ p * a → d ≤ q * c → b * d ≤ r * (a * c)
    go p q r e h g = omega (arith, mul-le-mul h g, ap (λ (x : ℕ). x * (a * c)) e)

-- over c / d at most 2 ^ j
pub big-div : (k j a b c d : ℕ) → BigF k a b → c ≤ 2 ^ j * d → BigF (k + j) (a * d) (c * b)
big-div k j a b c d (inl z) g = inl (omega (arith, ap (λ (x : ℕ). x * d) z))
big-div k j a b c d (inr h) g = inr (go (2 ^ k) (2 ^ j) (2 ^ (k + j)) (pow-add 2 k j) h g)
  where
    go : (p q r : ℕ) → r ≡ p * q → b ≤ p * a → c ≤ q * d → c * b ≤ r * (a * d)
    go p q r e h g = omega (arith, mul-le-mul h g, ap (λ (x : ℕ). x * (a * d)) e)

-- ---- the operations
pub sum-result : (s : Bool) (x y : Float) (k : ℕ) → T (finite x) → T (finite y) → Side s x → Side s y → T (finite (x ⊕ y)) → T (leb k 1022) → Big k x → Big k y → Result s (x ⊕ y) (num x * den y + num y * den x) (den x * den y)
sum-result s x y k p q h i f w g g' =
    rounded-result s (x ⊕ y) (plus x * den y + plus y * den x) (less x * den y + less y * den x) (num x * den y + num y * den x) (den x * den y) k
    (mul-pos (den_pos x) (den_pos y)) (add-rounded x y p q) (sided-add s (plus x) (less x) (plus y) (less y) (den y) (den x) h i)
    (omega (arith, ap (λ (z : ℕ). z * den y) (whole x), ap (λ (z : ℕ). z * den x) (whole y))) f w (big-add k (num x) (den x) (num y) (den y) g g')

pub square-result : (x : Float) (k : ℕ) → T (finite x) → T (finite (x ⊗ x)) → T (leb (k + k) 1022) → Big k x → Result false (x ⊗ x) (num x * num x) (den x * den x)
square-result x k p f w g =
    rounded-result false (x ⊗ x) (num x * num x) 0 (num x * num x) (den x * den x) (k + k)
    (mul-pos (den_pos x) (den_pos x)) (square-rounded x p) refl (omega arith) f w (big-mul k k (num x) (den x) (num x) (den x) g g)

pub product-result : (s : Bool) (x y : Float) (j k : ℕ) → T (finite x) → T (positive y) → Side s x → T (finite (x ⊗ y)) → T (leb (j + k) 1022) → Big j x → Big k y → Result s (x ⊗ y) (num x * num y) (den x * den y)
product-result s x y j k p q h f w g g' =
    rounded-result s (x ⊗ y) (plus x * num y) (less x * num y) (num x * num y) (den x * den y) (j + k)
    (mul-pos (den_pos x) (den_pos y)) (mul-rounded x y p q) (sided-scale s (plus x) (less x) (num y) h)
    (omega (arith, ap (λ (z : ℕ). z * num y) (whole x))) f w (big-mul j k (num x) (den x) (num y) (den y) g g')

pub quotient-result : (s : Bool) (x y : Float) (k j : ℕ) → T (finite x) → T (positive y) → Side s x → T (finite (x ⊘ y)) → T (leb (k + j) 1022) → Big k x → num y ≤ 2 ^ j * den y → Result s (x ⊘ y) (num x * den y) (num y * den x)
quotient-result s x y k j p q h f w g l =
    rounded-result s (x ⊘ y) (plus x * den y) (less x * den y) (num x * den y) (num y * den x) (k + j)
    (mul-pos (num_pos y q) (den_pos x)) (div-rounded x y p q) (sided-scale s (plus x) (less x) (den y) h)
    (omega (arith, ap (λ (z : ℕ). z * den y) (whole x))) f w (big-div k j (num x) (den x) (num y) (den y) g l)

-- ---- the same in units: x is X units of 1 / t, t = 2 ^ 1074
module _ (X Y n d m c t : ℕ) (D : 0 < d) (C : 0 < c) (P : 0 < t) (u : n * t ≡ X * d) (v : m * t ≡ Y * c) where
  pub sum-units : (z : ℕ) → Near 1 (z * (d * c)) ((n * c + m * d) * t) → Near 1 z (X + Y)
  sum-units z h = near-cancel (d * c) (mul-pos D C) (near-is refl (omega (arith, ap (λ (x : ℕ). x * c) u, ap (λ (x : ℕ). x * d) v)) h)

  pub product-units : (z : ℕ) → Near 1 (z * (d * c)) (n * m * t) → Near 1 (z * t) (X * Y)
  product-units z h =
      let e : n * t * (m * t) ≡ X * d * (Y * c) = ap (λ (x : ℕ). x * (m * t)) u ∙ ap (λ (x : ℕ). X * d * x) v in
      near-cancel (d * c) (mul-pos D C) (near-is (omega arith) (omega (arith, e)) (near-scale t h))

  pub quotient-units : (z : ℕ) → Near 1 (z * (m * d)) (n * c * t) → Near 1 (z * Y) (X * t)
  quotient-units z h =
      near-cancel (d * c) (mul-pos D C) (near-is (omega (arith, ap (λ (x : ℕ). x * (z * d)) v)) (omega (arith, ap (λ (x : ℕ). x * (c * t)) u)) (near-scale t h))

-- times a fraction m / c
pub times-units : (X n d m c t z : ℕ) → 0 < d → 0 < t → n * t ≡ X * d → Near 1 (z * (d * c)) (n * m * t) → Near 1 (z * c) (X * m)
times-units X n d m c t z D P u h = near-cancel d D (near-is (omega arith) (omega (arith, ap (λ (x : ℕ). x * m) u)) h)

-- ---- the root
root-near : (n S r p : ℕ) → 0 < p → 2 ^ 52 ≤ r → (r * r < S + r) × (S ≤ r * r + r) → S * (p * p) ≤ n → n < S * (p * p) + p * p → Near 3 (r * p * (r * p)) n
root-near n S r p P f h lo hi =
    let g : 2 ^ 52 * r ≤ r * r = mul-le-mul_right r f in
    let a : r * r * (2 * 2 ^ 52) ≤ S * (2 * 2 ^ 52 + 3) = below (2 ^ 52) (leb→le 4 (2 ^ 52) tt) g h.0 in
    let b : (S + 1) * 2 ^ 53 ≤ r * r * (2 ^ 53 + 3) = omega (arith, h.1) in
    record { under = up_to (2 * 2 ^ 52) a; over = down_to (2 ^ 53) b }
  where
    below : (K : ℕ) → 4 ≤ K → K * r ≤ r * r → r * r < S + r → r * r * (2 * K) ≤ S * (2 * K + 3)
    below K l g h =
        let c : r * r * K ≤ (S + r) * K = mul-le-mul_right K (le_of_lt h) in
        let d : 4 * r ≤ K * r = mul-le-mul_right r l in
        omega arith

    up_to : (E : ℕ) → r * r * E ≤ S * (E + 3) → r * p * (r * p) * E ≤ n * (E + 3)
    up_to E a = omega (arith, mul-le-mul_right (p * p) a, mul-le-mul_right (E + 3) lo)

    down_to : (E : ℕ) → (S + 1) * E ≤ r * r * (E + 3) → n * E ≤ r * p * (r * p) * (E + 3)
    down_to E b = omega (arith, mul-le-mul_right (p * p) b, mul-le-mul_right E (le_of_lt hi))

pub record Rooted (n : ℕ) (y : Float) : Type 0 where
  pub count : ℕ
  pub counts : Counts count y
  pub near : Near 3 (count * count) (n * 2 ^ 1074)

pub root-result : (x : Float) (n : ℕ) → T (positive x) → Counts n x → 0 < n → Rooted n (sqrt_of x)
root-result x n p c N =
    let v = rooted x (positive-finite x p) (positive-nonneg x p) in
    let e : units_of x ≡ n * 2 ^ 1074 = ap (λ (z : ℕ). z / den x * 2 ^ 1074) c.units ∙ ap (λ (z : ℕ). z * 2 ^ 1074) (mul-div_cancel n (den_pos x)) in
    let m = units_of x in
    let d = dropped m in
    let l : 0 < d = least-dropped x (least (num x) (den x) (2 ^ 1074) c.units) in
    let q : 4 ^ d ≡ 2 ^ d * 2 ^ d = squared d in
    let full = scaled-full m l in
    record {
      count = root_units m;
      counts = record { bounded = v.bounded; units = v.value };
      near = subst (λ (z : ℕ). Near 3 (root_units m * root_units m) z) e
          (root-near m (scaled m) (nearest_root (scaled m)) (2 ^ d) (pow_pos d) (root-full m l)
          (nearest-near (scaled m) (lt_of_lt_of_le (pow_pos 104) full) (scaled-lt m))
          (subst (λ (z : ℕ). scaled m * z ≤ m) q (div-mul-le_self m (4 ^ d)))
          (subst (λ (z : ℕ). m < scaled m * z + z) q (lt-div-mul-add (four-pos d))));
    }
  where
    least : (a b t : ℕ) → a * t ≡ n * b → b ≤ t * a
    least a b t u = omega (arith, mul-le-mul_right b N)

    squared : (j : ℕ) → 4 ^ j ≡ 2 ^ j * 2 ^ j
    squared j = let e : 2 * j ≡ j + j = omega arith in four j ∙ ap (λ (z : ℕ). 2 ^ z) e ∙ pow-add 2 j j
