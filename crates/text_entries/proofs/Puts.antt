-- A form with forms in it, written part by part. Assumes nothing.
use Prim.Native.Nat.{ℕ}
use mathlib.Core.Path.{◌≡◌, ap}
use mathlib.Core.List.{List, [], ◌∷◌, ◌++◌, append_assoc}
use lib.ListN.{length}
use lib.Ieee.{Float}
use Rattle.text_heads.specs.Heads.{place, cut}
use Rattle.text_drawing.specs.Writing.{CountWithin, Writes}
use Rattle.text_drawing.proofs.Adding.{writes-on, writes_as, writes_nothing}
use Rattle.text_canonical.specs.Forms.{Form, placed_form, cut_form, no_form}
use Rattle.text_canonical.specs.Canonical.{numbers_text, count_text, form_text}
use Rattle.refusals.specs.declared.Refusal.{Refusal}
use Rattle.std.specs.Prelude.{Result}

module _ {x₀ x₁ x₂ x₃ : List ℕ} {c₀ c₁ c₂ c₃ : Result ℕ Refusal} where
  pub placed-put : (xs : List Float) (f : Form) → Writes (40 ∷ (place ++ (numbers_text xs ++ (32 ∷ [])))) x₀ c₀ x₁ c₁ → length x₁ ≡ length x₀
      → Writes (form_text f) x₁ c₁ x₂ c₂ → length x₂ ≡ length x₁ → Writes (41 ∷ []) x₂ c₂ x₃ c₃ → Writes (form_text (placed_form xs f)) x₀ c₀ x₃ c₃
  unfolding form_text
  placed-put xs f p l q m r =
      writes_as (ap (λ (t : List ℕ). 40 ∷ (place ++ t)) (append_assoc (numbers_text xs) (32 ∷ []) (form_text f ++ (41 ∷ []))))
      (writes-on (form_text f ++ (41 ∷ [])) p l (writes-on (41 ∷ []) q m r))

module _ {x₀ x₁ x₂ x₃ x₄ x₅ : List ℕ} {c₀ c₁ c₂ c₃ c₄ c₅ : Result ℕ Refusal} where
  pub cut-put : (o : ℕ) (f g : Form) → Writes (40 ∷ (cut ++ (count_text o ++ (32 ∷ [])))) x₀ c₀ x₁ c₁ → length x₁ ≡ length x₀
      → Writes (form_text f) x₁ c₁ x₂ c₂ → length x₂ ≡ length x₁ → Writes (32 ∷ []) x₂ c₂ x₃ c₃ → length x₃ ≡ length x₂
      → Writes (form_text g) x₃ c₃ x₄ c₄ → length x₄ ≡ length x₃ → Writes (41 ∷ []) x₄ c₄ x₅ c₅ → Writes (form_text (cut_form o f g)) x₀ c₀ x₅ c₅
  unfolding form_text
  cut-put o f g p l q m r n s k t =
      let z : List ℕ = form_text g ++ (41 ∷ []) in
      writes_as (ap (λ (u : List ℕ). 40 ∷ (cut ++ u)) (append_assoc (count_text o) (32 ∷ []) (form_text f ++ (32 ∷ z))))
      (writes-on (form_text f ++ (32 ∷ z)) p l (writes-on (32 ∷ z) q m (writes-on z r n (writes-on (41 ∷ []) s k t))))

pub none-put : {xs : List ℕ} {c : Result ℕ Refusal} → CountWithin c (length xs) → Writes (form_text no_form) xs c xs c
unfolding form_text
none-put h = writes_nothing h
