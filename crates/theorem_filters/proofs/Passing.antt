-- What step 4 of a draw passes and drops, and which points of a cut's lines are kept: the proofs.
use mathlib.Core.Path.{◌≡◌, refl}
use mathlib.Core.Bool.{Bool, true, false, cond}
use Prim.Native.Nat.{ℕ}
use native.Mathlib.Omega.{arith}
use lib.Dec.{T}
use Rattle.floats.specs.Arith.{zero_f}
use Rattle.geometry.specs.Boxes.{clip_box, contains}
use Rattle.geometry.specs.declared.vector.Vector.{Vector}
use Rattle.matrix.specs.Matrices.{mul_position_w}
use Rattle.refusals.specs.declared.Refusal.TheVariants.{Point}
use Rattle.limits.specs.Limits.{within_point}
use Rattle.scene_shape.specs.Shapes.{shape_contains}
use Rattle.tree_sight.specs.declared.Sight.{Sight}
use Rattle.tree_sight.specs.declared.Sight.TheVariants.{Visible, Hidden}
use Rattle.draw_clip.specs.Clip.{by_sight, clip_filter}
use Rattle.draw_cuts.specs.Cuts.{cut_filter}
use Rattle.theorem_filters.specs.Kept.{Tested}
use Rattle.theorem_filters.specs.Passing.{Exactly, PassedExactlyIfVisible, DroppedExactlyIfHidden, ClippedIsDropped, StepPasses, CutKeepsInside}
use Rattle.theorem_filters.proofs.Kept.{stage-keeps}
use Rattle.std.specs.Prelude.{Err, None, Ok, Option, Result, Some}
use Rattle.refusals.specs.declared.Refusal.{Refusal}

-- ---- one point, where the filter is answered
module _ (w : Vector) where
  put-to : (b j : Bool) (s : Result Sight Refusal) → T b → Tested (cond b (cond j (by_sight w s) (Err Point)) (Ok None))
      → Exactly (cond b (cond j (by_sight w s) (Err Point)) (Ok None) ≡ Ok (Some w)) (s ≡ Ok Visible) × Exactly (cond b (cond j (by_sight w s) (Err Point)) (Ok None) ≡ Ok None) (s ≡ Ok Hidden)
  unfolding by_sight
  put-to false j s l a = absurd l
  put-to true false s l a = absurd (a Point refl)
  put-to true true (Ok Visible) l a = ((λ _. refl, λ _. refl), (λ e. let z : ◌≡◌ {A = ℕ} 0 1 = cc in absurd (omega arith), λ e. let z : ◌≡◌ {A = ℕ} 0 1 = cc in absurd (omega arith)))
  put-to true true (Ok Hidden) l a = ((λ e. let z : ◌≡◌ {A = ℕ} 0 1 = cc in absurd (omega arith), λ e. let z : ◌≡◌ {A = ℕ} 0 1 = cc in absurd (omega arith)), (λ _. refl, λ _. refl))
  put-to true true (Err k) l a = absurd (a k refl)

pub passed-exactly-if-visible : PassedExactlyIfVisible
unfolding clip_filter
passed-exactly-if-visible matrix seen v left answers = (put-to (mul_position_w matrix v) (contains clip_box (mul_position_w matrix v)) (within_point v) (seen v) left answers).0

pub dropped-exactly-if-hidden : DroppedExactlyIfHidden
unfolding clip_filter
dropped-exactly-if-hidden matrix seen v left answers =
    let h = (put-to (mul_position_w matrix v) (contains clip_box (mul_position_w matrix v)) (within_point v) (seen v) left answers).1 in
    (λ d. h.0 d.dropped, λ e. record { left = left; dropped = h.1 e })

pub clipped-is-dropped : ClippedIsDropped
unfolding clip_filter
clipped-is-dropped matrix seen v h = go (contains clip_box (mul_position_w matrix v)) h
  where
    go : (b : Bool) → (T b → ⊥) → cond b (cond (within_point v) (by_sight (mul_position_w matrix v) (seen v)) (Err Point)) (Ok None) ≡ Ok None
    go true h = absurd (h tt)
    go false h = refl

pub step-passes : StepPasses
step-passes matrix seen vs ss room startRoom q e p m v n l =
    let a = (stage-keeps (clip_filter matrix seen) vs ss room startRoom q e).1 p m v n in
    (passed-exactly-if-visible matrix seen v l a, dropped-exactly-if-hidden matrix seen v l a)

pub cut-keeps-inside : CutKeepsInside
unfolding cut_filter
cut-keeps-inside s v = go (shape_contains s v zero_f)
  where
    go : (b : Bool) → Exactly (◌≡◌ {A = Result (Option Vector) Refusal} (cond b (Ok (Some v)) (Ok None)) (Ok (Some v))) (b ≡ true)
    go true = (λ _. refl, λ _. refl)
    go false = (λ e. let z : ◌≡◌ {A = ℕ} 0 1 = cc in absurd (omega arith), λ e. let z : ◌≡◌ {A = ℕ} 0 1 = cc in absurd (omega arith))
