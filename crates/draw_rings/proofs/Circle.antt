-- The whole budget of a ring point's middle, on whole numbers alone, and what it comes to: 17 parts in 2 ^ 53 of the 32 that are allowed. Assumes nothing.
use mathlib.Core.Path.{◌≡◌, refl, ap, ◌∙◌}
use mathlib.Core.Logic.{inl, inr}
use Prim.Native.Nat.{ℕ, suc, ◌+◌, ◌*◌, ◌^◌, ◌≤◌, ◌<◌}
use native.Mathlib.Nat.{mul-le-mul, mul-pos, mul-mul-mul_comm}
use native.Mathlib.Omega.{arith}
use lib.Dec.{T as Holds}
use lib.Ieee.{Float}
use lib.Ieee.Scale.{finite}
use lib.Ieee.Positive.{num, den}
use Rattle.floats.proofs.Order.{le-or-lt}
use Rattle.draw_rings.specs.Ring.{distance_num, radius_num, OnRing}
use Rattle.draw_rings.proofs.Relative.{Near, near-is, near_add, near-scale, near-cancel, near-sym, near-trans, near_mul, near_le}

pub square_le : (a b : ℕ) → a * a ≤ b * b → a ≤ b
square_le a b h = elim (le-or-lt a b) [ inl l ↦ l | inr l ↦ absurd (let k : suc b * suc b ≤ a * a = mul-le-mul l l in omega arith) ]

-- X and Y are the sum's coordinates, L its length, P and Q over that, U and W times the radius n / d; T units make 1
module _ (X Y A B C1 C L P Q U W n d T : ℕ)
    (some : 0 < X * X + Y * Y) (one : 0 < T)
    (h1 : Near 1 (A * T) (X * X)) (h2 : Near 1 (B * T) (Y * Y)) (h3 : Near 1 C1 (A + B)) (h4 : Near 1 C C1) (h5 : Near 3 (L * L) (C * T))
    (h6 : Near 1 (P * L) (X * T)) (h7 : Near 1 (Q * L) (Y * T)) (h8 : Near 1 (U * d) (P * n)) (h9 : Near 1 (W * d) (Q * n)) where
  -- the computed length's square
  length-near : Near 9 (L * L) (X * X + Y * Y)
  length-near = near-trans tt h5 (near-trans tt (near-scale T (near-trans tt h4 h3)) (near-is (ring A B) refl (near_add h1 h2)))
    where
      ring : (a b : ℕ) → a * T + b * T ≡ (a + b) * T
      ring a b = omega arith

  -- over it
  unit-near : Near 13 (P * P + Q * Q) (T * T)
  unit-near =
      near-cancel (X * X + Y * Y) some
      (near-trans tt
      (near-is (swap (X * X + Y * Y)) (swap (L * L)) (near-scale (P * P + Q * Q) (near-sym length-near)))
      (near-is (omega arith) (omega arith) (near_add (near_mul tt h6 h6) (near_mul tt h7 h7))))
    where
      swap : (z : ℕ) → z * (P * P + Q * Q) ≡ (P * P + Q * Q) * z
      swap z = omega arith

  -- times the radius
  pub circle-near : Near 17 ((U * U + W * W) * (d * d)) (n * n * (T * T))
  circle-near =
      near-trans tt (near-is (omega arith) (omega arith) (near_add (near_mul tt h8 h8) (near_mul tt h9 h9)))
      (near-is refl (swap (T * T)) (near-scale (n * n) unit-near))
    where
      swap : (z : ℕ) → z * (n * n) ≡ n * n * z
      swap z = omega arith

-- 17 parts in 2 ^ 53 are less than one in 2 ^ 48
pub within-48 : (a b : ℕ) → Near 17 a b → (a * 2 ^ 48 ≤ b * (2 ^ 48 + 1)) × (b * 2 ^ 48 ≤ a * 2 ^ 48 + b)
within-48 a b h = let l : a ≤ 2 * b = near_le tt h in (omega (arith, h.under), low h.under h.over)
  where
    low : a * 2 ^ 53 ≤ b * (2 ^ 53 + 17) → b * 2 ^ 53 ≤ a * (2 ^ 53 + 17) → b * 2 ^ 48 ≤ a * 2 ^ 48 + b
    low h k = let l : 17 * a ≤ 32 * b = omega arith in omega arith

-- in the terms of the promise
pub on-ring : (r u v : Float) (U W T : ℕ) → Holds (finite r) → Holds (finite u) → Holds (finite v) → 0 < T → num u * T ≡ U * den u → num v * T ≡ W * den v → Near 17 ((U * U + W * W) * (den r * den r)) (num r * num r * (T * T)) → OnRing r u v
on-ring r u v U W T a b c O e f h =
    let w = within-48 (distance_num r u v) (radius_num r u v) (near-cancel (T * T) (mul-pos O O) (near-is (left (num u) (den u) (num v) (den v) (den r) e f) (right (num r) (den u) (den v)) (near-scale (den u * den v * (den u * den v)) h))) in
    record { r_finite = a; u_finite = b; v_finite = c; inside = w.0; outside = w.1 }
  where
    squares : (u w c p q n m t : ℕ) → n * t ≡ u * p → m * t ≡ w * q → (u + w) * c * (p * q) ≡ (n * q + m * p) * c * t
    squares u w c p q n m t a b = omega (arith, ap (λ (z : ℕ). z * (c * q)) a, ap (λ (z : ℕ). z * (c * p)) b)

    left : (nu du nv dv c : ℕ) → nu * T ≡ U * du → nv * T ≡ W * dv → (U * U + W * W) * (c * c) * (du * dv * (du * dv)) ≡ (nu * dv * (nu * dv) + nv * du * (nv * du)) * (c * c) * (T * T)
    left nu du nv dv c e f =
        let a : nu * nu * (T * T) ≡ U * U * (du * du) = mul-mul-mul_comm nu nu T T ∙ ap (λ (z : ℕ). z * z) e ∙ mul-mul-mul_comm U du U du in
        let b : nv * nv * (T * T) ≡ W * W * (dv * dv) = mul-mul-mul_comm nv nv T T ∙ ap (λ (z : ℕ). z * z) f ∙ mul-mul-mul_comm W dv W dv in
        rw (mul-mul-mul_comm du dv du dv, mul-mul-mul_comm nu dv nu dv, mul-mul-mul_comm nv du nv du) (squares (U * U) (W * W) (c * c) (du * du) (dv * dv) (nu * nu) (nv * nv) (T * T) a b)

    right : (n du dv : ℕ) → n * n * (T * T) * (du * dv * (du * dv)) ≡ n * n * (du * dv * (du * dv)) * (T * T)
    right n du dv = omega arith
