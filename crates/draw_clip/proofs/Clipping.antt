-- The ways through the filter of a draw. Assumes nothing.
use mathlib.Core.Path.{◌≡◌, refl, sym, ◌∙◌}
use mathlib.Core.Bool.{Bool, true, false, cond, ◌&&◌, and-eq-true_iff}
use Prim.Native.Nat.{ℕ}
use native.Mathlib.Omega.{arith}
use Rattle.geometry.specs.Boxes.{clip_box, contains}
use Rattle.geometry.specs.declared.vector.Vector.{Vector}
use Rattle.matrix.specs.Matrices.{mul_position_w}
use Rattle.matrix.specs.declared.Matrix.{Matrix}
use Rattle.refusals.specs.declared.Refusal.TheVariants.{Point}
use Rattle.limits.specs.Limits.{within_point}
use Rattle.tree_sight.specs.declared.Sight.{Sight}
use Rattle.tree_sight.specs.declared.Sight.TheVariants.{Visible, Hidden}
use Rattle.draw_memory.specs.Memory.{outcome_of}
use Rattle.draw_memory.proofs.Memories.{outcome-dropped}
use mathlib.Core.List.{List}
use lib.Ieee.{Float}
use mathlib.Core.Logic.{inl}
use lib.ListN.{replicate}
use Rattle.limits.proofs.Limits.{within-point}
use Rattle.tree_trust.specs.Trust.{Uncut, is_trusted}
use Rattle.tree_trust.proofs.Making.{is-trusted}
use Rattle.tree_glance.specs.Glances.{no_place, LastCover}
use Rattle.draw_clip.specs.Clip.{by_sight, clip_filter, Prepared}
use Rattle.std.specs.Prelude.{Err, None, Ok, Option, Result, Some}
use Rattle.refusals.specs.declared.Refusal.{Refusal}

module _ (matrix : Matrix) (seen : Vector → Result Sight Refusal) (v w : Vector) (ew : w ≡ mul_position_w matrix v) (b : Bool) (eb : b ≡ contains clip_box w) where
  pub clipped : b ≡ false → Ok None ≡ clip_filter matrix seen v
  unfolding clip_filter
  clipped e = rw (← ew, ← eb, e)

  module _ (e : b ≡ true) (j : Bool) (ej : j ≡ within_point v) where
    pub beyond : j ≡ false → Err Point ≡ clip_filter matrix seen v
    unfolding clip_filter
    beyond f = rw (← ew, ← eb, e, ← ej, f)

    pub put : j ≡ true → (s : Result Sight Refusal) → s ≡ seen v → (t : Result (Option Vector) Refusal) → t ≡ by_sight w s → t ≡ clip_filter matrix seen v
    unfolding clip_filter
    put f s es t et = rw (← ew, ← eb, e, ← ej, f, ← es, et)

-- ---- what is kept of a test's outcome tells the test
kept_on : (w : Vector) (a b : Bool) (s : Result Sight Refusal) → outcome_of (cond a (cond b (by_sight w s) (Err Point)) (Ok None)) ≡ 1 → Ok (Some w) ≡ cond a (cond b (by_sight w s) (Err Point)) (Ok None)
unfolding outcome_of by_sight
kept_on w false b s e = absurd (omega (arith, e))
kept_on w true false s e = absurd (omega (arith, e))
kept_on w true true (Ok Visible) e = refl
kept_on w true true (Ok Hidden) e = absurd (omega (arith, e))
kept_on w true true (Err k) e = absurd (omega (arith, e))

module _ (matrix : Matrix) (seen : Vector → Result Sight Refusal) (v : Vector) (c : ℕ) (told : outcome_of (clip_filter matrix seen v) ≡ c) where
  pub told-dropped : c ≡ 0 → Ok None ≡ clip_filter matrix seen v
  told-dropped e = sym (outcome-dropped (clip_filter matrix seen v) (told ∙ e))

  pub told-kept : c ≡ 1 → (w : Vector) → w ≡ mul_position_w matrix v → Ok (Some w) ≡ clip_filter matrix seen v
  unfolding clip_filter
  told-kept e w ew = rw ew (kept_on (mul_position_w matrix v) (contains clip_box (mul_position_w matrix v)) (within_point v) (seen v) (told ∙ e))

-- ---- what the eye test is handed on
pub ready-kept : (numbers inverses : List Float) (marks : List ℕ) (boxes : List Float) (links order : List ℕ) (eye : Vector) (trusted calm : Bool) (cover stack : List ℕ)
    → Prepared numbers inverses marks boxes links order eye trusted calm cover stack → (cover' stack' : List ℕ) → LastCover boxes links order cover' stack'
    → Prepared numbers inverses marks boxes links order eye trusted calm cover' stack'
ready-kept numbers inverses marks boxes links order eye trusted calm cover stack R cover' stack' K = record { tree = R.tree; solids = R.solids; kept = K }

pub ready-start : (numbers inverses : List Float) (marks : List ℕ) (boxes : List Float) (links order : List ℕ) (eye : Vector) (trusted calm : Bool)
    → trusted ≡ (is_trusted boxes links && within_point eye) → (calm ≡ true → Uncut numbers inverses marks)
    → Prepared numbers inverses marks boxes links order eye trusted calm (replicate 2 no_place) (replicate 64 0)
ready-start numbers inverses marks boxes links order eye trusted calm t u = record {
  tree = λ e. let h = (and-eq-true_iff (is_trusted boxes links) (within_point eye)).0 (sym t ∙ e) in (is-trusted boxes links order h.0, within-point _ h.1);
  solids = u;
  kept = record { wide = refl; wide_stack = refl; last = inl refl };
}
