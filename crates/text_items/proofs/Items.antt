-- Numbers, counts and lists of items, written one after the other. Assumes nothing.
use Prim.Native.Nat.{ℕ, suc, ◌+◌, ◌≤◌, ◌<◌}
use mathlib.Core.Path.{◌≡◌, refl, ap, ◌∙◌}
use mathlib.Core.List.{List, [], ◌∷◌, ◌++◌}
use native.Mathlib.Numerals.{add-one}
use borrow.Author.Tests.{eq-eqb, ne_eqb}
use lib.Dec.{eqb}
use lib.ListN.{length, drop, get_or, drop_of_length-le}
use lib.Seq.{drop-cons}
use lib.Ieee.{Float, nan, binary64, to_bits}
use Rattle.rows.specs.Rows.{flat}
use Rattle.text_drawing.specs.Numbers.{hex_word, decimal_word, decimal_text}
use Rattle.text_drawing.specs.Writing.{CountWithin, Writes}
use Rattle.text_drawing.proofs.Adding.{Writing, writing-turn, writing-end, writing-as, writes-on, writes_as, writes_nothing}
use Rattle.text_canonical.specs.Canonical.{hex_text, count_text, stripes_text}
use Rattle.refusals.specs.declared.Refusal.{Refusal}
use Rattle.std.specs.Prelude.{Result}

pub nan_pattern : to_bits binary64 nan ≡ 9221120237041090560
unfolding to_bits
nan_pattern = refl

module _ {xs ys zs us : List ℕ} {c d e f : Result ℕ Refusal} where
  pub hex-put : (n : ℕ) (x : Float) → Writes (32 ∷ []) xs c ys d → length ys ≡ length xs → Writes (35 ∷ []) ys d zs e → length zs ≡ length ys
      → n ≡ to_bits binary64 x → Writes (hex_word 16 n) zs e us f → Writes (hex_text x) xs c us f
  unfolding hex_text
  hex-put n x p l q m g r = writes_as (ap (λ (i : ℕ). 32 ∷ 35 ∷ hex_word 16 i) g) (writes-on (hex_word 16 n) (writes-on (35 ∷ []) p l q) (m ∙ l) r)

module _ {xs ys zs : List ℕ} {c d e : Result ℕ Refusal} where
  pub count-put : (n : ℕ) → Writes (32 ∷ []) xs c ys d → length ys ≡ length xs → Writes (decimal_word 20 n) ys d zs e → Writes (count_text n) xs c zs e
  unfolding decimal_text
  count-put n p l q = writes-on (decimal_word 20 n) p l q

-- a count of 0 is left out
module _ (n : ℕ) {xs : List ℕ} {c : Result ℕ Refusal} where
  pub stripes-none : n ≡ 0 → CountWithin c (length xs) → Writes (stripes_text n) xs c xs c
  unfolding stripes_text
  stripes-none e h = rw (eq-eqb n 0 e) (writes_nothing h)

  pub stripes-some : (n ≡ 0 → ⊥) → {ys : List ℕ} {d : Result ℕ Refusal} → Writes (count_text n) xs c ys d → Writes (stripes_text n) xs c ys d
  unfolding stripes_text
  stripes-some e w = rw (ne_eqb n 0 e) w

-- ---- a loop over a list of items
module _ {A : Type 0} (g : A → List ℕ) (z : A) {w xs : List ℕ} {c : Result ℕ Refusal} {ys : List ℕ} {d : Result ℕ Refusal} (vs : List A) (i : ℕ) where
  pub items-turn : {zs : List ℕ} {e : Result ℕ Refusal} → i < length vs → Writing w xs c ys d (flat g (drop i vs)) → Writes (g (get_or vs i z)) ys d zs e → length zs ≡ length ys
      → Writing w xs c zs e (flat g (drop (i + 1) vs))
  unfolding flat
  items-turn l h k m =
      let s : flat g (drop i vs) ≡ g (get_or vs i z) ++ flat g (drop (i + 1) vs) = rw (add-one i) (ap (flat g) (drop-cons vs i z l)) in
      writing-turn (g (get_or vs i z)) (flat g (drop (i + 1) vs)) (writing-as s h) k m

  pub items-end : length vs ≤ i → Writing w xs c ys d (flat g (drop i vs)) → Writes w xs c ys d
  unfolding flat
  items-end l h = writing-end (writing-as (ap (flat g) (drop_of_length-le vs {i = i} l)) h)
