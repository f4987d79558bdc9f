-- What the code's tests say of a float: `x != x`, `x - x == x - x`, and the sign tests of `abs`. Assumes nothing.
use mathlib.Core.Path.{◌≡◌, refl, sym, ap, ◌∙◌, subst}
use mathlib.Core.Bool.{Bool, true, false, not, cond, ◌&&◌, ◌||◌, beq}
use Prim.Native.Nat.{ℕ, zero, suc, ◌+◌, ◌*◌, ◌<◌}
use native.Mathlib.Nat.{mul-pos, zero-mul, zero-lt-suc, lt_irrefl}
use native.Mathlib.Omega.{arith}
use lib.Dec.{T, ltb, ltb→lt, lt→ltb, eqb, eqb→eq}
use lib.Ieee.{Float, nan, inf, fin, up, down, sub, neg, ne, eq, lt, is_nan, of_bits}
use lib.Ieee.Bits.{is_true}
use lib.Ieee.Fits.{up_pos, and_l}
use lib.Ieee.Scale.{finite}
use Rattle.floats.specs.Arith.{◌⊖◌, zero_f}
use Rattle.floats.specs.Numbers.{number, abs_of}
use Rattle.floats.proofs.Order.{le_refl, le_antisymm}
use Rattle.floats.proofs.Rounding.{sub_number}

pub eq_self : (x : Float) → T (number x) → eq x x ≡ true
eq_self x h = is_true (eq x x) (le_antisymm x x (le_refl x h) (le_refl x h))

-- only a NaN differs from itself
pub ne-self : (x : Float) → ne x x ≡ is_nan x
unfolding ne is_nan eq
ne-self nan = refl
ne-self (inf s) = ap not (eq_self (inf s) tt)
ne-self (fin s m e) = ap not (eq_self (fin s m e) tt)

-- ---- `min` and `max`: picked by the comparison c, then given up if it is a NaN
either : (a : Bool) (x y : Float) → y ≡ cond (a || true) y x
either true x y = refl
either false x y = refl

pub picked-nan : (c : Bool) (x y m : Float) → m ≡ cond c y x → ne m m ≡ true → y ≡ cond (is_nan x || c) y x
picked-nan true x y m e h = either (is_nan x) x y
picked-nan false x y m e h = simp (← ne-self, ← e, h)

pub picked-number : (c : Bool) (x y m : Float) → m ≡ cond c y x → ne m m ≡ false → m ≡ cond (is_nan x || c) y x
picked-number true x y m e h = e ∙ either (is_nan x) x y
picked-number false x y m e h = simp (← ne-self, ← e, h)

pub finite-test : (x : Float) → eq (x ⊖ x) (x ⊖ x) ≡ finite x
unfolding sub eq
finite-test nan = refl
finite-test (inf true) = refl
finite-test (inf false) = refl
finite-test (fin s m e) = eq_self (fin s m e ⊖ fin s m e) (sub_number (fin s m e) (fin s m e) tt tt)

-- ---- the sign
pub clash : {A : Type 0} → false ≡ true → A
clash e = absurd (subst T (sym e) tt)

-- a positive value over 1, as a comparison with 0.0 has it
over : (m u c : ℕ) → 0 < u → 0 * c < suc m * u * 1
over m u c h = omega (arith, mul-pos (zero-lt-suc m) h, zero-mul c)

pub abs-below : (x : Float) → lt x zero_f ≡ true → neg x ≡ abs_of x
unfolding lt neg abs_of of_bits
abs-below nan h = clash h
abs-below (inf true) h = refl
abs-below (inf false) h = clash h
abs-below (fin true zero e) h = absurd (no (up e) (down e) (ltb→lt 0 (0 * up e * 1 + 0 * down e) (subst T (sym h) tt)))
  where
    no : (u c : ℕ) → 0 < 0 * u * 1 + 0 * c → ⊥
    no u c k = omega arith
abs-below (fin true (suc m) e) h = refl
abs-below (fin false m e) h = absurd (no (m * up e * 1) (down e) (ltb→lt (m * up e * 1) (0 * down e) (subst T (sym h) tt)))
  where
    no : (a c : ℕ) → a < 0 * c → ⊥
    no a c k = omega arith

pub abs-zero : (x : Float) → eq x zero_f ≡ true → zero_f ≡ abs_of x
unfolding eq abs_of of_bits
abs-zero nan h = clash h
abs-zero (inf s) h = clash h
abs-zero (fin s zero e) h = refl
abs-zero (fin s (suc m) e) h =
    absurd (lt_irrefl (0 * down e) (subst (λ (n : ℕ). 0 * down e < n) (eqb→eq (suc m * up e * 1) (0 * down e) (and_l (eqb (suc m * up e * 1) (0 * down e)) (beq s false || eqb (suc m * up e * 1) 0) (subst T (sym h) tt))) (over m (up e) (down e) (up_pos e))))

pub abs-above : (x : Float) → lt x zero_f ≡ false → eq x zero_f ≡ false → x ≡ abs_of x
unfolding lt eq abs_of of_bits
abs-above nan h k = refl
abs-above (inf true) h k = clash (sym h)
abs-above (inf false) h k = refl
abs-above (fin s zero e) h k = clash (sym k ∙ level (0 * up e * 1) (0 * down e) (none (up e)) (zero-mul (down e)))
  where
    none : (u : ℕ) → 0 * u * 1 ≡ 0
    none u = omega arith

    either : (s : Bool) → (eqb 0 0 && (beq s false || eqb 0 0)) ≡ true
    either true = refl
    either false = refl

    level : (a b : ℕ) → a ≡ 0 → b ≡ 0 → (eqb a b && (beq s false || eqb a 0)) ≡ true
    level a b i j = ap (λ (n : ℕ). eqb n b && (beq s false || eqb n 0)) i ∙ ap (λ (n : ℕ). eqb 0 n && (beq s false || eqb 0 0)) j ∙ either s
abs-above (fin true (suc m) e) h k = clash (sym h ∙ is_true (ltb 0 (suc m * up e * 1 + 0 * down e)) (lt→ltb 0 (suc m * up e * 1 + 0 * down e) (omega (arith, over m (up e) (down e) (up_pos e)))))
abs-above (fin false (suc m) e) h k = refl
