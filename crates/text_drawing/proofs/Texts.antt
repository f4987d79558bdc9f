-- A number, a point, a path and a drawing, written part by part. Assumes nothing.
use Prim.Native.Nat.{ℕ, suc, ◌+◌, ◌*◌, ◌≤◌, ◌<◌}
use mathlib.Core.Path.{◌≡◌, refl, sym, ap, ◌∙◌}
use mathlib.Core.List.{List, [], ◌∷◌, ◌++◌}
use native.Mathlib.Numerals.{add-one}
use native.Mathlib.Omega.{arith}
use lib.ListN.{length, drop, get_or, drop_of_length-le}
use lib.Seq.{slice, slice_empty, drop-cons}
use lib.Ieee.{Float}
use Rattle.geometry.specs.declared.vector.Vector.{Vector}
use Rattle.rows.specs.Rows.{row, flat}
use Rattle.rows.specs.Points.{point_of}
use Rattle.rows.specs.Starts.{end_of}
use Rattle.paths.specs.Paths.{paths_of}
use Rattle.paths.specs.Ends.{places, all_points}
use Rattle.paths.specs.Ranges.{range_of}
use Rattle.paths.specs.declared.Range.{Range}
use Rattle.paths.proofs.Parts.{part-cons, span-slice}
use Rattle.text_drawing.specs.Numbers.{bits_of, hex_word, decimal_word, decimal_text}
use Rattle.text_drawing.specs.Drawings.{drawing_word, refused_word, path_word, end_word, number_text, point_text, path_text, drawing_text, refused_text}
use Rattle.text_drawing.specs.Writing.{CountWithin, Writes}
use Rattle.text_drawing.proofs.Adding.{Writing, writing_start, writing-turn, writing-end, writing-as, writes-last, writes_as}
use Rattle.refusals.specs.declared.Refusal.{Refusal}
use Rattle.std.specs.Prelude.{Result}

module _ {xs ys zs us : List ℕ} {c d e f : Result ℕ Refusal} (h : CountWithin c (length xs)) where
  pub number_put : (b n : ℕ) (x : Float) → Writes (b ∷ []) xs c ys d → length ys ≡ length xs → Writes (35 ∷ []) ys d zs e → length zs ≡ length ys
      → n ≡ bits_of x → Writes (hex_word 16 n) zs e us f → length us ≡ length zs → Writes (b ∷ number_text x) xs c us f
  unfolding number_text
  number_put b n x p l q m g r k =
      writes_as (ap (λ (i : ℕ). b ∷ 35 ∷ hex_word 16 i) g)
      (writes-last (hex_word 16 n) (writing-turn (35 ∷ []) (hex_word 16 n) (writing-turn (b ∷ []) (35 ∷ hex_word 16 n) (writing_start h) p l) q m) r k)

  pub refused-put : (k : ℕ) → Writes refused_word xs c ys d → length ys ≡ length xs → Writes (decimal_word 20 k) ys d zs e → length zs ≡ length ys
      → Writes end_word zs e us f → length us ≡ length zs → Writes (refused_text k) xs c us f
  unfolding refused_text decimal_text
  refused-put k p l q m r g =
      writes-last end_word (writing-turn (decimal_word 20 k) end_word (writing-turn refused_word (decimal_word 20 k ++ end_word) (writing_start h) p l) q m) r g

  pub path-put : (p : List Vector) → Writes path_word xs c ys d → length ys ≡ length xs → Writes (flat point_text p) ys d zs e → length zs ≡ length ys
      → Writes end_word zs e us f → length us ≡ length zs → Writes (path_text p) xs c us f
  unfolding path_text
  path-put v p l q m r g =
      writes-last end_word (writing-turn (flat point_text v) end_word (writing-turn path_word (flat point_text v ++ end_word) (writing_start h) p l) q m) r g

-- ---- a point
module _ {xs₀ xs₁ xs₂ xs₃ xs₄ xs₅ : List ℕ} {c₀ c₁ c₂ c₃ c₄ c₅ : Result ℕ Refusal} (h : CountWithin c₀ (length xs₀)) (v : Vector)
    (p₁ : Writes (32 ∷ []) xs₀ c₀ xs₁ c₁) (l₁ : length xs₁ ≡ length xs₀) (p₂ : Writes (40 ∷ number_text v.x) xs₁ c₁ xs₂ c₂) (l₂ : length xs₂ ≡ length xs₁)
    (p₃ : Writes (32 ∷ number_text v.y) xs₂ c₂ xs₃ c₃) (l₃ : length xs₃ ≡ length xs₂) (p₄ : Writes (32 ∷ number_text v.z) xs₃ c₃ xs₄ c₄) (l₄ : length xs₄ ≡ length xs₃)
    (p₅ : Writes (41 ∷ []) xs₄ c₄ xs₅ c₅) (l₅ : length xs₅ ≡ length xs₄) where
  pub point-put : Writes (point_text v) xs₀ c₀ xs₅ c₅
  unfolding point_text
  point-put =
      let z : List ℕ = 41 ∷ [] in
      let y : List ℕ = (32 ∷ number_text v.z) ++ z in
      let x : List ℕ = (32 ∷ number_text v.y) ++ y in
      writes-last z (writing-turn (32 ∷ number_text v.z) z (writing-turn (32 ∷ number_text v.y) y (writing-turn (40 ∷ number_text v.x) x
      (writing-turn (32 ∷ []) ((40 ∷ number_text v.x) ++ x) (writing_start h) p₁ l₁) p₂ l₂) p₃ l₃) p₄ l₄) p₅ l₅

-- ---- the loop over the points of a path
module _ {w xs : List ℕ} {c : Result ℕ Refusal} {ys : List ℕ} {d : Result ℕ Refusal} (path : List Float) (i end : ℕ) where
  pub points-turn : {p : Vector} {zs : List ℕ} {e : Result ℕ Refusal} → end * 3 ≤ length path → i < end → p ≡ point_of (row 3 i path) → Writing w xs c ys d (flat point_text (slice i end (all_points path)))
      → Writes (point_text p) ys d zs e → length zs ≡ length ys → Writing w xs c zs e (flat point_text (slice (i + 1) end (all_points path)))
  unfolding flat
  points-turn {p} fit l q h k g = writing-turn (point_text p) (flat point_text (slice (i + 1) end (all_points path))) (writing-as (ap (flat point_text) (part-cons path i end fit p l q)) h) k g

  pub points-end : i ≤ end → end ≤ i → Writing w xs c ys d (flat point_text (slice i end (all_points path))) → Writes w xs c ys d
  unfolding flat
  points-end a b h =
      let e : i ≡ end = omega arith in
      writing-end (writing-as (ap (λ (j : ℕ). flat point_text (slice j end (all_points path))) e ∙ ap (flat point_text) (slice_empty end (all_points path))) h)

-- ---- the loop over the paths
paths-cons : (vs : List Vector) (ss : List ℕ) (i : ℕ) → i < length ss → paths_of vs (drop i ss) ≡ slice (get_or ss i 0) (end_of (length vs) ss i) vs ∷ paths_of vs (drop (i + 1) ss)
unfolding paths_of
paths-cons vs ss i l = rw (drop-cons ss i 0 l, add-one i)

module _ {w xs : List ℕ} {c : Result ℕ Refusal} {ys : List ℕ} {d : Result ℕ Refusal} (path : List Float) (starts : List ℕ) (i : ℕ) where
  pub paths-turn : {p : Range} {zs : List ℕ} {e : Result ℕ Refusal} → i < length starts → p ≡ range_of (places path) starts i → Writing w xs c ys d (flat path_text (paths_of (all_points path) (drop i starts)))
      → Writes (path_text (slice p.from p.end (all_points path))) ys d zs e → length zs ≡ length ys → Writing w xs c zs e (flat path_text (paths_of (all_points path) (drop (i + 1) starts)))
  unfolding flat
  paths-turn {p} l q h k g =
      let s = slice p.from p.end (all_points path) in
      let a : paths_of (all_points path) (drop i starts) ≡ s ∷ paths_of (all_points path) (drop (i + 1) starts)
      = paths-cons (all_points path) starts i l ∙ ap (λ (t : List Vector). t ∷ paths_of (all_points path) (drop (i + 1) starts)) (sym (span-slice path starts i p q)) in
      writing-turn (path_text s) (flat path_text (paths_of (all_points path) (drop (i + 1) starts))) (writing-as (ap (flat path_text) a) h) k g

  pub paths_end : length starts ≤ i → Writing w xs c ys d (flat path_text (paths_of (all_points path) (drop i starts))) → Writes w xs c ys d
  unfolding flat paths_of
  paths_end l h = writing-end (writing-as (ap (λ (ss : List ℕ). flat path_text (paths_of (all_points path) ss)) (drop_of_length-le starts {i = i} l)) h)

-- ---- the whole
pub length-paths : (vs : List Vector) (ss : List ℕ) → length (paths_of vs ss) ≡ length ss
unfolding paths_of
length-paths vs [] = refl
length-paths vs (s ∷ ss) = ap suc (length-paths vs ss)

module _ {xs₀ xs₁ xs₂ xs₃ xs₄ : List ℕ} {c₀ c₁ c₂ c₃ c₄ : Result ℕ Refusal} (h : CountWithin c₀ (length xs₀)) (vs : List Vector) (ss : List ℕ)
    (p₁ : Writes drawing_word xs₀ c₀ xs₁ c₁) (l₁ : length xs₁ ≡ length xs₀) (p₂ : Writes (decimal_word 20 (length ss)) xs₁ c₁ xs₂ c₂) (l₂ : length xs₂ ≡ length xs₁)
    (p₃ : Writes end_word xs₂ c₂ xs₃ c₃) (l₃ : length xs₃ ≡ length xs₂) (p₄ : Writes (flat path_text (paths_of vs ss)) xs₃ c₃ xs₄ c₄) (l₄ : length xs₄ ≡ length xs₃) where
  pub drawing-put : Writes (drawing_text (paths_of vs ss)) xs₀ c₀ xs₄ c₄
  unfolding drawing_text decimal_text
  drawing-put =
      let b = flat path_text (paths_of vs ss) in
      let n = decimal_word 20 (length ss) in
      writes_as (ap (λ (k : ℕ). drawing_word ++ (decimal_word 20 k ++ (end_word ++ b))) (sym (length-paths vs ss)))
      (writes-last b (writing-turn end_word b (writing-turn n (end_word ++ b) (writing-turn drawing_word (n ++ (end_word ++ b)) (writing_start h) p₁ l₁) p₂ l₂) p₃ l₃) p₄ l₄)
