-- The lines of a view and of forms, written one after the other. Assumes nothing.
use Prim.Native.Nat.{ℕ, ◌+◌, ◌≤◌, ◌<◌}
use mathlib.Core.Path.{◌≡◌, refl, ap, ◌∙◌}
use mathlib.Core.List.{List, [], ◌∷◌, ◌++◌, map, append_assoc}
use lib.ListN.{length, drop, get_or}
use Rattle.rows.specs.Rows.{flat}
use Rattle.view.specs.declared.View.{View}
use Rattle.text_heads.specs.Heads.{view_word}
use Rattle.text_drawing.specs.Writing.{Writes}
use Rattle.text_drawing.proofs.Adding.{Writing, writes-on, writes_as}
use Rattle.text_canonical.specs.Forms.{Form}
use Rattle.text_canonical.specs.Canonical.{numbers_text, form_text, view_numbers, view_text, form_line, forms_text}
use Rattle.text_items.proofs.Items.{items-turn, items-end}
use Rattle.refusals.specs.declared.Refusal.{Refusal}
use Rattle.std.specs.Prelude.{Result}

module _ {x₀ x₁ x₂ x₃ : List ℕ} {c₀ c₁ c₂ c₃ : Result ℕ Refusal} where
  -- the view's line
  pub view-put : (v : View) → Writes (40 ∷ view_word) x₀ c₀ x₁ c₁ → length x₁ ≡ length x₀ → Writes (numbers_text (view_numbers v)) x₁ c₁ x₂ c₂ → length x₂ ≡ length x₁
      → Writes (41 ∷ 10 ∷ []) x₂ c₂ x₃ c₃ → Writes (view_text v ++ (10 ∷ [])) x₀ c₀ x₃ c₃
  unfolding view_text
  view-put v p l q m r =
      let n = numbers_text (view_numbers v) in
      writes_as (ap (λ (t : List ℕ). 40 ∷ (view_word ++ t)) (sym-assoc n)) (writes-on (n ++ (41 ∷ 10 ∷ [])) p l (writes-on (41 ∷ 10 ∷ []) q m r))
    where
      sym-assoc : (n : List ℕ) → n ++ (41 ∷ 10 ∷ []) ≡ (n ++ (41 ∷ [])) ++ (10 ∷ [])
      sym-assoc n = rw append_assoc

module _ {x₀ x₁ x₂ : List ℕ} {c₀ c₁ c₂ : Result ℕ Refusal} where
  -- the view's line, then the others
  pub yard-put : (v : View) (fs : List Form) → Writes (view_text v ++ (10 ∷ [])) x₀ c₀ x₁ c₁ → length x₁ ≡ length x₀ → Writes (flat form_line fs) x₁ c₁ x₂ c₂ → Writes (forms_text v fs) x₀ c₀ x₂ c₂
  unfolding forms_text
  yard-put v fs p l q = writes_as (append_assoc (view_text v) (10 ∷ []) (flat form_line fs)) (writes-on (flat form_line fs) p l q)

-- ---- the loop over the listed entries
map-flat : (f : ℕ → Form) (ids : List ℕ) → flat (λ (i : ℕ). form_line (f i)) ids ≡ flat form_line (map f ids)
unfolding flat
map-flat f [] = refl
map-flat f (i ∷ ids) = ap (λ (t : List ℕ). form_line (f i) ++ t) (map-flat f ids)

-- the line of entry i of a scene whose forms are f
abbrev pub line_of : (ℕ → Form) → ℕ → List ℕ
line_of f i = form_line (f i)

module _ (f : ℕ → Form) {xs : List ℕ} {c : Result ℕ Refusal} {ys : List ℕ} {d : Result ℕ Refusal} (ids : List ℕ) (k : ℕ) where
  pub lines-turn : {w : List ℕ} {i : ℕ} {us zs : List ℕ} {a e : Result ℕ Refusal} → k < length ids → i ≡ get_or ids k 0 → Writing w xs c ys d (flat (line_of f) (drop k ids))
      → Writes (form_text (f i)) ys d us a → length us ≡ length ys → Writes (10 ∷ []) us a zs e → length zs ≡ length us → Writing w xs c zs e (flat (line_of f) (drop (k + 1) ids))
  unfolding form_line
  lines-turn l q h p m r n = items-turn (line_of f) 0 ids k l h (writes_as (ap (λ (j : ℕ). form_text (f j) ++ (10 ∷ [])) q) (writes-on (10 ∷ []) p m r)) (n ∙ m)

  pub lines_end : length ids ≤ k → Writing (flat (line_of f) ids) xs c ys d (flat (line_of f) (drop k ids)) → Writes (flat form_line (map f ids)) xs c ys d
  lines_end l h = writes_as (map-flat f ids) (items-end (line_of f) 0 ids k l h)
