-- The operations on whole numbers are those of a commutative ring. Assumes nothing.
use mathlib.Core.Path.{◌≡◌, refl, sym, ap, ◌∙◌}
use mathlib.Core.Nat.{zero, suc}
use mathlib.Core.Int.{ℤ, pos, negsuc, suc_ℤ, pred_ℤ, neg_ℤ, ◌+ℤ◌, ◌-ℤ◌, ◌*ℤ◌, +ℤ_idl, +ℤ_assoc, +ℤ_comm, +ℤ_invl, +ℤ_invr, suc_ℤ-*ℤ, pred_ℤ-*ℤ, *ℤ_comm}
use Rattle.theorem_published.specs.Cramer.{CommutativeRing, whole_operations}

mul-suc : (a k : ℤ) → a *ℤ suc_ℤ k ≡ a *ℤ k +ℤ a
mul-suc a k = *ℤ_comm a (suc_ℤ k) ∙ suc_ℤ-*ℤ k a ∙ ap (λ (x : ℤ). x +ℤ a) (*ℤ_comm k a)

mul_pred : (a k : ℤ) → a *ℤ pred_ℤ k ≡ a *ℤ k -ℤ a
mul_pred a k = *ℤ_comm a (pred_ℤ k) ∙ pred_ℤ-*ℤ k a ∙ ap (λ (x : ℤ). x -ℤ a) (*ℤ_comm k a)

mul-plus : (a b c : ℤ) → a *ℤ (b +ℤ c) ≡ a *ℤ b +ℤ a *ℤ c
mul-plus a b (pos zero) = refl
mul-plus a b (pos (suc n)) = mul-suc a (b +ℤ pos n) ∙ ap (λ (x : ℤ). x +ℤ a) (mul-plus a b (pos n)) ∙ +ℤ_assoc (a *ℤ b) (a *ℤ pos n) a
mul-plus a b (negsuc zero) = mul_pred a b
mul-plus a b (negsuc (suc n)) = mul_pred a (b +ℤ negsuc n) ∙ ap (λ (x : ℤ). x -ℤ a) (mul-plus a b (negsuc n)) ∙ +ℤ_assoc (a *ℤ b) (a *ℤ negsuc n) (neg_ℤ a)

negative-only : (x y : ℤ) → x +ℤ y ≡ pos zero → y ≡ neg_ℤ x
negative-only x y e = sym (+ℤ_idl y) ∙ ap (λ (z : ℤ). z +ℤ y) (sym (+ℤ_invl x)) ∙ +ℤ_assoc (neg_ℤ x) x y ∙ ap (λ (z : ℤ). neg_ℤ x +ℤ z) e

mul-negative : (a b : ℤ) → a *ℤ neg_ℤ b ≡ neg_ℤ (a *ℤ b)
mul-negative a b = negative-only (a *ℤ b) (a *ℤ neg_ℤ b) (sym (mul-plus a b (neg_ℤ b)) ∙ ap (λ (x : ℤ). a *ℤ x) (+ℤ_invr b))

mul_assoc : (a b c : ℤ) → a *ℤ b *ℤ c ≡ a *ℤ (b *ℤ c)
mul_assoc a b (pos zero) = refl
mul_assoc a b (pos (suc n)) = ap (λ (x : ℤ). x +ℤ a *ℤ b) (mul_assoc a b (pos n)) ∙ sym (mul-plus a (b *ℤ pos n) b)
mul_assoc a b (negsuc zero) = sym (mul-negative a b)
mul_assoc a b (negsuc (suc n)) =
    ap (λ (x : ℤ). x -ℤ a *ℤ b) (mul_assoc a b (negsuc n))
    ∙ ap (λ (x : ℤ). a *ℤ (b *ℤ negsuc n) +ℤ x) (sym (mul-negative a b))
    ∙ sym (mul-plus a (b *ℤ negsuc n) (neg_ℤ b))

pub whole-ring : CommutativeRing whole_operations
whole-ring = record {
  zero = pos zero;
  negate = neg_ℤ;
  plus_commutes = +ℤ_comm;
  plus_associates = +ℤ_assoc;
  plus_zero = λ a. refl;
  plus_negated = +ℤ_invr;
  minus_is = λ a b. refl;
  times_commutes = *ℤ_comm;
  times_associates = mul_assoc;
  times_plus = mul-plus;
}
