use Rattle.std.proofs.Common.{◌≡◌, ℕ, ◌+◌, ◌-◌, ◌*◌, ◌/◌, ◌%◌, ◌^◌, ◌<◌, ◌≤◌, false, sym, ap, ◌∙◌, subst, mul_assoc, arith, pow-add}
use lib.Count.{count_leading_zeros}
use lib.Ieee.{binary64, of_bits}
use lib.Ieee.Exact.{HasValue}
use Rattle.sqrt.proofs.Values.{Shifted, shifted, times, low_value, field-value}
use Rattle.sqrt.proofs.unpack.Goals as goal
use Rattle.sqrt.proofs.unpack.Goals.{Then-e-eq0}

small : (c : Then-e-eq0) → c.args.b < 2 ^ 52
small c = let e : c.args.b / 2 ^ 52 ≡ 0 = c.if-e-eq0.true in omega arith

low : (c : Then-e-eq0) → Shifted c.args.b
low c = shifted c.args.b c.requires.0 (small c)

pub overflow_sub-l : goal.overflow_sub-l
overflow_sub-l c =
    omega (arith, low c)

pub overflow_cast-result : goal.overflow_cast-result
overflow_cast-result c =
    omega (arith, low c)

pub overflow_shl-result : goal.overflow_shl-result
overflow_shl-result c =
    omega (arith, low c)

pub overflow_cast-result-then-e-eq0 : goal.overflow_cast-result-then-e-eq0
overflow_cast-result-then-e-eq0 c =
    omega (arith, low c)

pub overflow_sub-result : goal.overflow_sub-result
overflow_sub-result c =
    omega (arith, low c)

pub returns-then-e-eq0 : goal.returns-then-e-eq0
returns-then-e-eq0 c =
    let args = c.args in record {
      value = (let b = args.b in
          let k = low c in
          let l = count_leading_zeros 64 b - 11 in
          subst (λ (m : ℕ). HasValue (of_bits binary64 b) false (m * 2 ^ (52 - l)) (2 ^ 1126) × ((2 ^ 52 ≤ m) × (m < 2 ^ 53) × (52 - l ≤ 2097))) (sym k.same)
          (subst (λ (a : ℕ). HasValue (of_bits binary64 b) false a (2 ^ 1126)) k.back (times (of_bits binary64 b) false b (2 ^ 1074) (2 ^ 52) (low_value b (small c))), (k.lo, k.hi, omega arith))).0;
      range = (let b = args.b in
          let k = low c in
          let l = count_leading_zeros 64 b - 11 in
          subst (λ (m : ℕ). HasValue (of_bits binary64 b) false (m * 2 ^ (52 - l)) (2 ^ 1126) × ((2 ^ 52 ≤ m) × (m < 2 ^ 53) × (52 - l ≤ 2097))) (sym k.same)
          (subst (λ (a : ℕ). HasValue (of_bits binary64 b) false a (2 ^ 1126)) k.back (times (of_bits binary64 b) false b (2 ^ 1074) (2 ^ 52) (low_value b (small c))), (k.lo, k.hi, omega arith))).1;
    }

pub returns-else-e-eq0 : goal.returns-else-e-eq0
returns-else-e-eq0 c =
    let args = c.args in let pre = c.requires in let b = args.b in
    let m = b % 2 ^ 52 + 2 ^ 52 in
    let no : b / 2 ^ 52 ≡ 0 → ⊥ = c.if-e-eq0.false in
    let l : 2 ^ 52 ≤ b = omega arith in
    let e : b / 2 ^ 52 - 1 + 52 ≡ b / 2 ^ 52 + 51 = omega arith in record {
      value = subst (λ (a : ℕ). HasValue (of_bits binary64 b) false a (2 ^ 1126))
          (mul_assoc m (2 ^ (b / 2 ^ 52 - 1)) (2 ^ 52) ∙ ap (λ (y : ℕ). m * y) (sym (pow-add 2 (b / 2 ^ 52 - 1) 52) ∙ ap (λ (y : ℕ). 2 ^ y) e))
          (times (of_bits binary64 b) false (m * 2 ^ (b / 2 ^ 52 - 1)) (2 ^ 1074) (2 ^ 52) (field-value b l pre.1));
      range = (omega arith, omega arith, omega arith);
    }
