-- Digits written from the first to the last. Assumes nothing.
use Prim.Native.Nat.{ℕ, zero, suc, ◌-◌, ◌/◌, ◌%◌, ◌≤◌, ◌<◌}
use mathlib.Core.Path.{◌≡◌, refl, ap, ◌∙◌}
use mathlib.Core.List.{List, [], ◌∷◌, ◌++◌}
use native.Mathlib.Numerals.{sub-one}
use native.Mathlib.Omega.{arith}
use borrow.Author.Tests.{lt-ltb, le-ltb}
use lib.ListN.{length}
use Rattle.text_drawing.specs.Numbers.{digit_byte, hex_word, decimal_word}
use Rattle.text_drawing.specs.Writing.{CountWithin, Writes}
use Rattle.text_drawing.proofs.Adding.{writes_nothing, writes-on, writes_as}
use Rattle.refusals.specs.declared.Refusal.{Refusal}
use Rattle.std.specs.Prelude.{Result}

hex-more : (k v : ℕ) → (k ≡ 0 → ⊥) → hex_word (k - 1) (v / 16) ++ (digit_byte (v % 16) ∷ []) ≡ hex_word k v
unfolding hex_word
hex-more zero v h = absurd (h refl)
hex-more (suc k) v h = rw sub-one

decimal-more : (k n : ℕ) → (k ≡ 0 → ⊥) → 10 ≤ n → decimal_word (k - 1) (n / 10) ++ (digit_byte (n % 10) ∷ []) ≡ decimal_word k n
unfolding decimal_word
decimal-more zero n h l = absurd (h refl)
decimal-more (suc k) n h l = rw (sub-one, le-ltb n 10 l)

decimal-one : (k n : ℕ) → (k ≡ 0 → ⊥) → n < 10 → digit_byte n ∷ [] ≡ decimal_word k n
unfolding decimal_word
decimal-one zero n h l = absurd (h refl)
decimal-one (suc k) n h l = rw (lt-ltb n 10 l)

hex-none : (k v : ℕ) → k ≡ 0 → [] ≡ hex_word k v
unfolding hex_word
hex-none zero v h = refl
hex-none (suc k) v h = absurd (omega (arith, h))

decimal-none : (k n : ℕ) → k ≡ 0 → [] ≡ decimal_word k n
unfolding decimal_word
decimal-none zero n h = refl
decimal-none (suc k) n h = absurd (omega (arith, h))

module _ {xs : List ℕ} {c : Result ℕ Refusal} where
  pub hex-done : (k v : ℕ) → CountWithin c (length xs) → k ≡ 0 → Writes (hex_word k v) xs c xs c
  hex-done k v h e = writes_as (hex-none k v e) (writes_nothing h)

  pub decimal-done : (k n : ℕ) → CountWithin c (length xs) → k ≡ 0 → Writes (decimal_word k n) xs c xs c
  decimal-done k n h e = writes_as (decimal-none k n e) (writes_nothing h)

  module _ {ys : List ℕ} {d : Result ℕ Refusal} {b : ℕ} where
    pub decimal-first : (k n : ℕ) → (k ≡ 0 → ⊥) → n < 10 → b ≡ digit_byte n → Writes (b ∷ []) xs c ys d → Writes (decimal_word k n) xs c ys d
    decimal-first k n h l e w = writes_as (ap (λ (x : ℕ). x ∷ []) e ∙ decimal-one k n h l) w

    module _ {zs : List ℕ} {e : Result ℕ Refusal} where
      pub hex-last : (k v : ℕ) → (k ≡ 0 → ⊥) → Writes (hex_word (k - 1) (v / 16)) xs c ys d → length ys ≡ length xs → b ≡ digit_byte (v % 16) → Writes (b ∷ []) ys d zs e → Writes (hex_word k v) xs c zs e
      hex-last k v h w l q g = writes_as (ap (λ (x : ℕ). hex_word (k - 1) (v / 16) ++ (x ∷ [])) q ∙ hex-more k v h) (writes-on (b ∷ []) w l g)

      pub decimal-last : (k n : ℕ) → (k ≡ 0 → ⊥) → 10 ≤ n → Writes (decimal_word (k - 1) (n / 10)) xs c ys d → length ys ≡ length xs → b ≡ digit_byte (n % 10) → Writes (b ∷ []) ys d zs e → Writes (decimal_word k n) xs c zs e
      decimal-last k n h l w m q g = writes_as (ap (λ (x : ℕ). decimal_word (k - 1) (n / 10) ++ (x ∷ [])) q ∙ decimal-more k n h l) (writes-on (b ∷ []) w m g)
