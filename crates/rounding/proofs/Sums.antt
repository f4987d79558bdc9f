-- A sum and a half as fractions that are rounded once. Assumes nothing.
use mathlib.Core.Path.{refl, ap}
use mathlib.Core.Bool.{true, false}
use Prim.Native.Nat.{ℕ, suc, ◌+◌, ◌*◌}
use native.Mathlib.Nat.{mul-pos, pow-suc}
use native.Mathlib.Omega.{arith}
use lib.Dec.{T, leb}
use lib.Pow.{pow_pos}
use lib.Ieee.{Float, nan, inf, fin, up, down, add, mul, of_bits}
use lib.Ieee.Fits.{down_pos}
use lib.Ieee.Scale.{finite}
use lib.Ieee.Positive.{den}
use Rattle.floats.specs.Arith.{◌⊕◌, ◌⊗◌, half_f}
use Rattle.floats.proofs.Order.{pp-mul, nn-mul, plus, less}
use Rattle.floats.proofs.Rounding.{Rounded, sum-rounded}
use Rattle.floats.proofs.Bounds.{Small, round-small}

pub add-rounded : (x y : Float) → T (finite x) → T (finite y) → Rounded (x ⊕ y) (plus x * den y + plus y * den x) (less x * den y + less y * den x) (den x * den y)
unfolding add
add-rounded nan y p q = absurd p
add-rounded (inf s) y p q = absurd p
add-rounded (fin s m e) nan p q = absurd q
add-rounded (fin s m e) (inf t) p q = absurd q
add-rounded (fin s m e) (fin t n d) p q = simp (pp-mul, nn-mul) at (sum-rounded s (m * up e * down d) t (n * up d * down e) (down e * down d))

pub half-rounded : (x : Float) → T (finite x) → Rounded (x ⊗ half_f) (plus x) (less x) (den x * 2)
unfolding mul of_bits
half-rounded nan p = absurd p
half-rounded (inf s) p = absurd p
half-rounded (fin true m e) p = record { sign = true; magnitude = m * up e * 1; is = refl; off = omega arith }
half-rounded (fin false m e) p = record { sign = false; magnitude = m * up e * 1; is = refl; off = omega arith }

pub small-half : (k : ℕ) (x : Float) → T (leb k 1023) → Small (suc k) x → Small k (x ⊗ half_f)
unfolding mul of_bits
small-half k nan w h = h
small-half k (inf s) w h = h
small-half k (fin true m e) w h = round-small true (m * up e * 1) (down e * 2) k (mul-pos (down_pos e) (pow_pos 1)) w (omega (arith, h, ap (λ (z : ℕ). z * down e) (pow-suc 2 k)))
small-half k (fin false m e) w h = round-small false (m * up e * 1) (down e * 2) k (mul-pos (down_pos e) (pow_pos 1)) w (omega (arith, h, ap (λ (z : ℕ). z * down e) (pow-suc 2 k)))
