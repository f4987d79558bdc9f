-- What becomes of points, after the verdict on the scene. Assumes nothing.
use Prim.Native.Nat.{ℕ, ◌+◌, ◌/◌, ◌≤◌, ◌<◌}
use mathlib.Core.Path.{◌≡◌, refl, sym, ap, fun_ext, ◌∙◌}
use mathlib.Core.Bool.{Bool, true, false}
use mathlib.Core.List.{List}
use native.Mathlib.Omega.{arith}
use lib.ListN.{length, get_or, set}
use lib.Ieee.{Float}
use Rattle.floats.specs.Arith.{zero_f}
use Rattle.geometry.specs.Boxes.{clip_box, contains}
use Rattle.geometry.specs.declared.vector.Vector.{Vector}
use Rattle.geometry.specs.declared.ray.Ray.{Ray}
use Rattle.matrix.specs.Matrices.{mul_position_w}
use Rattle.matrix.specs.declared.Matrix.{Matrix}
use Rattle.rows.specs.Rows.{row, view, padded}
use Rattle.rows.specs.Points.{point_of}
use Rattle.refusals.specs.Refusals.{number_of}
use Rattle.refusals.specs.declared.Refusal.{Refusal}
use Rattle.refusals.specs.declared.Refusal.TheVariants.{Point}
use Rattle.limits.specs.Limits.{within_point}
use Rattle.scene.specs.Scenes.{Scene}
use Rattle.check_scene.specs.Checks.{check_of, inverses_of, if_accepted}
use Rattle.check_scene.proofs.Accepted.{left_is}
use Rattle.tree_walk.specs.Walks.{entry_hit, walk_rows}
use Rattle.query_scene.specs.Queries.{hides}
use Rattle.query_scene.proofs.Answers.{hits-are}
use Rattle.query_scene.proofs.Copies.{Copied}
use Rattle.query_cover.specs.Covered.{batch_if, if_answered}
use Rattle.query_cover.proofs.Telling.{word_after, word-is, telling-turn, telling-end}
use Rattle.query_cover.proofs.Answers.{answered-so, byte_fits}
use Rattle.view.specs.Views.{view_ok}
use Rattle.view.specs.declared.View.{View}
use Rattle.draw_fates.specs.Fates.{by_name, fate_by, fate_of, fate_word, words_by, AllFates}
use Rattle.draw_fates.specs.declared.Fate.{Fate}
use Rattle.draw_fates.specs.declared.Fate.TheVariants.{Clipped}
use Rattle.std.specs.Prelude.{Err, Ok, Option, Result, ⊤}
use Rattle.geometry.specs.declared.hit.Hit.{Hit}
use Rattle.tree_walk.specs.declared.Nearest.{Nearest}

-- ---- one point
module _ (matrix : Matrix) (named : Vector → Result (Option ℕ) Refusal) (p q : Vector) (eq : q ≡ mul_position_w matrix p) (c : Bool) (ec : c ≡ contains clip_box q) where
  pub clipped : c ≡ false → Ok Clipped ≡ fate_by matrix named p
  unfolding fate_by
  clipped f = rw (← eq, ← ec, f)

  module _ (t : c ≡ true) (i : Bool) (ei : i ≡ within_point p) where
    pub beyond : i ≡ false → Err Point ≡ fate_by matrix named p
    unfolding fate_by
    beyond f = rw (← eq, ← ec, t, ← ei, f)

    pub put : i ≡ true → (o : Result (Option ℕ) Refusal) → o ≡ named p → (f : Result Fate Refusal) → f ≡ by_name o → f ≡ fate_by matrix named p
    unfolding fate_by
    put u o eo f ef = ef ∙ ap by_name eo ∙ rw (← eq, ← ec, t, ← ei, u)

-- ---- a word
pub word_fits : (k : Refusal) (n : ℕ) → n ≡ number_of k → 4294967040 + n < 4294967296
word_fits k n e = omega (arith, byte_fits k n e)

module _ (matrix : Matrix) (named : Vector → Result (Option ℕ) Refusal) (n : ℕ) (tested : List Float) where
  abbrev told : Vector → ℕ
  told p = fate_word (fate_by matrix named p)

  pub after : (k : ℕ) → n ≤ k → 0 ≡ get_or (words_by matrix named n tested) k 0
  unfolding words_by
  after = word_after told n tested

  pub at_place : (k : ℕ) → k < n → (p : Vector) → p ≡ point_of (row 3 k tested) → (f : Result Fate Refusal) → f ≡ fate_by matrix named p → (w : ℕ) → w ≡ fate_word f → w ≡ get_or (words_by matrix named n tested) k 0
  unfolding words_by
  at_place k h p ep f ef w ew = word-is told n tested k h p ep w (ew ∙ ap fate_word ef)

  module _ (told₀ : List ℕ) (h : n ≤ length told₀) where
    pub turn : (xs : List ℕ) (k : ℕ) → Copied (padded 0 (length told₀) (words_by matrix named n tested)) told₀ (length told₀) xs k → k < length xs → (w : ℕ) → w ≡ get_or (words_by matrix named n tested) k 0
        → Copied (padded 0 (length told₀) (words_by matrix named n tested)) told₀ (length told₀) (set xs k w) (k + 1)
    unfolding words_by
    turn = telling-turn told n tested told₀ h

    pub end : (xs : List ℕ) (k : ℕ) → Copied (padded 0 (length told₀) (words_by matrix named n tested)) told₀ (length told₀) xs k → length xs ≤ k → xs ≡ padded 0 (length told₀) (words_by matrix named n tested)
    unfolding words_by
    end = telling-end told n tested told₀ h

-- ---- many points
module _ (s : Scene) (bs : List Float) (ms os : List ℕ) (vw : View) (tested : List Float) (told₀ : List ℕ) (v : Result ℕ Refusal) (ev : v ≡ check_of s) (L : ℕ) (vs : List Float)
    (left : vs ≡ padded zero_f L (if_accepted v (inverses_of s))) where
  abbrev named : Vector → Result (Option ℕ) Refusal
  named = hides (λ (r : Ray). walk_rows (entry_hit s.numbers vs s.marks r) r bs ms os) vw.eye

  words-so : (b : Result ⊤ Refusal) → b ≡ batch_if v (view_ok vw) (length tested) (length told₀)
      → words_by vw.matrix named (if_answered b (length tested / 3)) tested
      ≡ view 3 (λ (p : List Float). fate_word (fate_of s bs ms os vw (point_of p))) (if_answered b (length tested / 3)) tested
  unfolding words_by if_answered view fate_of
  words-so (Err k) e = refl
  words-so (Ok tt) e =
      let f = answered-so v (view_ok vw) (length tested) (length told₀) e in
      ap (λ (w : Ray → Result Nearest Refusal). view 3 (λ (p : List Float). fate_word (fate_by vw.matrix (hides w vw.eye) (point_of p))) (length tested / 3) tested)
      (fun_ext (λ (r : Ray). ap (λ (hit : ℕ → Result Hit Refusal). walk_rows hit r bs ms os) (hits-are s f.many (sym ev ∙ f.accepted) L vs (left_is zero_f f.many f.accepted L (inverses_of s) left) bs ms os r)))

  pub all-fates : (ok : Bool) → ok ≡ view_ok vw → (b : Result ⊤ Refusal) → b ≡ batch_if v ok (length tested) (length told₀) → (n : ℕ) → n ≡ if_answered b (length tested / 3) → (told : List ℕ)
      → told ≡ padded 0 (length told₀) (words_by vw.matrix named n tested) → AllFates s bs ms os vw tested told₀ b told
  all-fates ok eo b e n en told et =
      let e' : b ≡ batch_if v (view_ok vw) (length tested) (length told₀) = e ∙ rw eo in
      record { answer = e' ∙ rw ev; words_are = et ∙ rw en (ap (padded 0 (length told₀)) (words-so b e')) }
