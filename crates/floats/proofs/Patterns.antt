-- Bit patterns of f64s. Assumes nothing.
use mathlib.Core.Path.{◌≡◌, refl, sym, ap, ◌∙◌, subst}
use mathlib.Core.Bool.{Bool, true, false, not}
use Prim.Native.Nat.{ℕ, suc, ◌+◌, ◌-◌, ◌*◌, ◌/◌, ◌%◌, ◌^◌, ◌≤◌, ◌<◌}
use native.Mathlib.Omega.{arith}
use native.Mathlib.Nat.{mod-eq_of_lt}
use lib.Dec.{T, leb, ltb, eqb, not_T, eqb→eq, lt→ltb}
use lib.Arith.{le→nltb, lt→nleb}
use lib.Ieee.{Float, nan, inf, fin, binary64, nan_bits, is_nan, eq, ne, odd, of_fields, of_bits, div}
use lib.Ieee.Bits.{nan_bits_is, nan_bits_above, is_true, is_false, cond_no}
use Rattle.floats.specs.Arith.{◌⊘◌, bits, zero_f}
use Rattle.floats.proofs.Tests.{clash, ne-self}

rest_le : (b : ℕ) → b < 0x7FF0_0000_0000_0000 → b % 0x8000_0000_0000_0000 ≤ 0x7FF0_0000_0000_0000
rest_le b h = omega arith

-- a pattern that is at most the infinity's, its sign taken off, is no NaN's
pub no-nan-rest : (b : ℕ) → b % 0x8000_0000_0000_0000 ≤ 0x7FF0_0000_0000_0000 → T (not (nan_bits binary64 b))
no-nan-rest b h = subst (λ (t : Bool). T (not t)) (sym (nan_bits_above binary64 b)) (le→nltb 0x7FF0_0000_0000_0000 (b % 0x8000_0000_0000_0000) h)

pub no-nan-bits : (b : ℕ) → b < 0x7FF0_0000_0000_0000 → T (not (nan_bits binary64 b))
no-nan-bits b h = no-nan-rest b (rest_le b h)

-- what equals itself is no NaN
pub equals_itself : (x : Float) → eq x x ≡ true → T (not (is_nan x))
unfolding eq is_nan
equals_itself nan e = subst T (sym e) tt
equals_itself (inf s) e = tt
equals_itself (fin s m d) e = tt

-- what does not is one
is-nan : (x : Float) → is_nan x ≡ true → x ≡ nan
unfolding is_nan
is-nan nan e = refl
is-nan (inf s) e = clash e
is-nan (fin s m d) e = clash e

pub not_itself : (x : Float) → eq x x ≡ false → x ≡ nan
unfolding ne
not_itself x e = is-nan x (sym (ne-self x) ∙ ap not e)

-- a pattern above the infinity's, its sign taken off, is a NaN's
pub nan-above : (b : ℕ) → 0x7FF0_0000_0000_0000 < b % 0x8000_0000_0000_0000 → of_bits binary64 b ≡ nan
nan-above b h =
    is-nan (of_bits binary64 b) (sym (nan_bits_is binary64 b) ∙ nan_bits_above binary64 b ∙ is_true (ltb 0x7FF0_0000_0000_0000 (b % 0x8000_0000_0000_0000)) (lt→ltb 0x7FF0_0000_0000_0000 (b % 0x8000_0000_0000_0000) h))

-- 0 / 0 makes the NaN, whatever a NaN's pattern is
nan-made : zero_f ⊘ zero_f ≡ nan
unfolding div of_bits
nan-made = refl

pub nan_pattern : (b : ℕ) → 0x7FF0_0000_0000_0000 < b % 0x8000_0000_0000_0000 → zero_f ⊘ zero_f ≡ bits b
nan_pattern b h = nan-made ∙ sym (nan-above b h)

-- ---- the fields of a pattern with the sign clear
pub fields : (b : ℕ) → b < 2 ^ 63 → of_bits binary64 b ≡ of_fields binary64 false (b / 2 ^ 52) (b % 2 ^ 52)
unfolding of_bits
fields b h =
    ap (λ (s : Bool). of_fields binary64 s (b % 2 ^ 63 / 2 ^ 52) (b % 2 ^ 52)) (is_false (leb (2 ^ 63) b) (lt→nleb (2 ^ 63) b h))
    ∙ ap (λ (x : ℕ). of_fields binary64 false (x / 2 ^ 52) (b % 2 ^ 52)) (mod-eq_of_lt h)

field-none : (t : ℕ) → of_fields binary64 false 0 t ≡ odd 53 false t 0 1074
unfolding of_fields
field-none t = refl

field-some : (x t : ℕ) → suc x < 2047 → of_fields binary64 false (suc x) t ≡ odd 53 false (2 ^ 52 + t) x 1074
unfolding of_fields
field-some x t h = cond_no (eqb (suc x) 2047) _ (odd 53 false (2 ^ 52 + t) x 1074) (not_T (eqb (suc x) 2047) (λ u. no (eqb→eq (suc x) 2047 u)))
  where
    no : suc x ≡ 2047 → ⊥
    no e = omega arith

pub low-is : (b : ℕ) → b < 2 ^ 52 → of_bits binary64 b ≡ odd 53 false b 0 1074
low-is b h =
    let q : b / 2 ^ 52 ≡ 0 = omega arith in
    fields b (omega arith) ∙ ap (λ (x : ℕ). of_fields binary64 false x (b % 2 ^ 52)) q ∙ field-none (b % 2 ^ 52) ∙ ap (λ (t : ℕ). odd 53 false t 0 1074) (mod-eq_of_lt h)

-- k * 2 ^ 52 + r, with r of 53 digits, is the pattern of r * 2 ^ k units of 2 ^ -1074
pub high_is : (k r : ℕ) → 2 ^ 52 ≤ r → r < 2 ^ 53 → k < 2046 → of_bits binary64 (k * 2 ^ 52 + r) ≡ odd 53 false r k 1074
high_is k r lo hi h =
    let b = k * 2 ^ 52 + r in
    let q : b / 2 ^ 52 ≡ suc k = omega arith in
    let t : b % 2 ^ 52 ≡ r - 2 ^ 52 = omega arith in
    let w : 2 ^ 52 + (r - 2 ^ 52) ≡ r = omega arith in
    fields b (omega arith)
    ∙ ap (λ (x : ℕ). of_fields binary64 false x (b % 2 ^ 52)) q
    ∙ ap (λ (x : ℕ). of_fields binary64 false (suc k) x) t
    ∙ field-some k (r - 2 ^ 52) (omega arith)
    ∙ ap (λ (x : ℕ). odd 53 false x k 1074) w
