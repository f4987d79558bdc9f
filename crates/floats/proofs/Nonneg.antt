-- Values from zero on, -0 among them: `T (le zero_f x)`. Assumes nothing.
use mathlib.Core.Path.{◌≡◌, refl, sym, ap, ◌∙◌, subst}
use mathlib.Core.Bool.{true, false, not}
use Prim.Native.Nat.{ℕ, zero, suc, ◌+◌, ◌*◌, ◌≤◌, ◌<◌}
use native.Mathlib.Nat.{mul-pos, zero-mul, zero-lt-suc}
use native.Mathlib.Omega.{arith}
use lib.Dec.{T, lt→ltb, T_not}
use lib.Ieee.{Float, nan, inf, fin, binary64, up, round, add, eq, le, of_bits}
use lib.Ieee.Exact.{HasValue}
use lib.Ieee.Order.{round_mono}
use lib.Ieee.Scale.{finite}
use lib.Ieee.Positive.{num, den, den_pos, positive, first_pos}
use Rattle.floats.specs.Arith.{◌⊕◌, ◌⊗◌, zero_f}
use Rattle.floats.proofs.Order.{plus, less, le→cross, cross→le, le_antisymm}
use Rattle.floats.proofs.Rounding.{square-is, add-mono}

-- no sign to mind: x is num x / den x
pub unsigned : (x : Float) → T (finite x) → T (le zero_f x) → (less x ≡ 0) × (plus x ≡ num x)
unfolding of_bits
unsigned nan p h = absurd p
unsigned (inf s) p h = absurd p
unsigned (fin false m e) p h = (zero-mul (up e), refl)
unsigned (fin true m e) p h = let z : m * up e ≡ 0 = omega (arith, le→cross zero_f (fin true m e) tt tt h) in (z, zero-mul (up e) ∙ sym z)

pub le→sizes : (x y : Float) → T (finite x) → T (finite y) → T (le zero_f x) → T (le zero_f y) → T (le x y) → num x * den y ≤ num y * den x
le→sizes x y p q a b h =
    let u = unsigned x p a in
    let v = unsigned y q b in
    go (plus x) (less x) (num x) (den x) (plus y) (less y) (num y) (den y) u.0 u.1 v.0 v.1 (le→cross x y p q h)
  where
    go : (p n a d p' n' a' d' : ℕ) → n ≡ 0 → p ≡ a → n' ≡ 0 → p' ≡ a' → p * d' + n' * d ≤ p' * d + n * d' → a * d' ≤ a' * d
    go p n a d p' n' a' d' i j i' j' h = omega (arith, h, ap (λ (z : ℕ). z * d') i, ap (λ (z : ℕ). z * d') j, ap (λ (z : ℕ). z * d) i', ap (λ (z : ℕ). z * d) j')

pub sizes→le : (x y : Float) → T (finite x) → T (finite y) → T (le zero_f x) → T (le zero_f y) → num x * den y ≤ num y * den x → T (le x y)
sizes→le x y p q a b h =
    let u = unsigned x p a in
    let v = unsigned y q b in
    cross→le x y p q (rw (u.0, u.1, v.0, v.1) (omega (arith, h)))

-- ---- above zero
pub value-nonneg : (x : Float) (a c : ℕ) → HasValue x false a c → T (le zero_f x)
unfolding of_bits
value-nonneg nan a c h = absurd h
value-nonneg (inf s) a c h = absurd h
value-nonneg (fin true m e) a c h = absurd (subst T h.0 tt)
value-nonneg (fin false m e) a c h = cross→le zero_f (fin false m e) tt tt (omega arith)

pub positive-num : (x : Float) → T (finite x) → T (le zero_f x) → 0 < num x → T (positive x)
unfolding of_bits
positive-num nan p h l = absurd p
positive-num (inf s) p h l = absurd p
positive-num (fin true m e) p h l = absurd (omega (arith, l, (unsigned (fin true m e) tt h).0))
positive-num (fin false m e) p h l = lt→ltb 0 m (first_pos m (up e) l)

pub positive-nonneg : (x : Float) → T (positive x) → T (le zero_f x)
unfolding of_bits
positive-nonneg nan h = absurd h
positive-nonneg (inf s) h = absurd h
positive-nonneg (fin true m e) h = absurd h
positive-nonneg (fin false m e) h = cross→le zero_f (fin false m e) tt tt (omega arith)

pub positive_of : (x : Float) → T (finite x) → T (le zero_f x) → T (not (eq x zero_f)) → T (positive x)
unfolding of_bits
positive_of nan p h k = absurd p
positive_of (inf s) p h k = absurd p
positive_of (fin true m e) p h k = absurd (T_not (eq (fin true m e) zero_f) k (le_antisymm (fin true m e) zero_f (cross→le (fin true m e) zero_f tt tt (omega arith)) h))
positive_of (fin false zero e) p h k = absurd (T_not (eq (fin false zero e) zero_f) k (le_antisymm (fin false zero e) zero_f (cross→le (fin false zero e) zero_f tt tt (omega arith)) h))
positive_of (fin false (suc m) e) p h k = lt→ltb 0 (suc m) (zero-lt-suc m)

-- ---- squares and sums
pub square-nonneg : (x : Float) → T (finite x) → T (le zero_f (x ⊗ x))
unfolding round of_bits
square-nonneg x p = rw (square-is x p) (round_mono binary64 0 1 (num x * num x) (den x * den x) (omega arith) (mul-pos (den_pos x) (den_pos x)) (omega arith))

pub add-nonneg : (x y : Float) → T (finite x) → T (finite y) → T (le zero_f x) → T (le zero_f y) → T (le zero_f (x ⊕ y))
unfolding add of_bits
add-nonneg x y p q h k = add-mono zero_f x zero_f y tt p tt q h k
