-- The outline of one solid as a call: each way out. Assumes nothing.
use mathlib.Core.Path.{◌≡◌, refl, sym, ◌∙◌}
use mathlib.Core.Bool.{Bool, true, false}
use mathlib.Core.List.{List}
use Prim.Native.Nat.{ℕ, ◌/◌, ◌%◌, ◌≤◌, ◌<◌}
use native.Mathlib.Omega.{arith}
use borrow.Author.Tests.{lt-ltb, le-ltb, eq-eqb, ne_eqb}
use lib.ListN.{length}
use lib.Ieee.{Float}
use Rattle.geometry.specs.declared.vector.Vector.{Vector}
use Rattle.matrix.specs.declared.Matrix.{Matrix}
use Rattle.solids.specs.declared.solid.Solid.{Solid}
use Rattle.refusals.specs.declared.Refusal.TheVariants.{Lengths, Values, Parts, View as BadView}
use Rattle.rows.specs.Rows.{view as rows_of}
use Rattle.rows.specs.Entries.{numbers_of}
use Rattle.rows.proofs.Rows.{length-view}
use Rattle.scene.specs.Entries.{matrix_of}
use Rattle.paths.specs.Answers.{next}
use Rattle.paths.specs.Paths.{no_paths}
use Rattle.paths.specs.Ends.{held, told_both}
use Rattle.view.specs.Views.{view_ok, args_of}
use Rattle.view.specs.declared.View.{View}
use Rattle.view.specs.declared.RenderArgs.{RenderArgs}
use Rattle.draw_lines.specs.Pushing.{add_paths, Fit}
use Rattle.draw_lines.proofs.Adding.{fit-both}
use Rattle.draw_arcs.specs.Stances.{Placement}
use Rattle.draw_outlines.specs.Outlines.{outline_of}
use Rattle.draw_outlines.specs.Calls.{matrices_in, placement_at, outline_at, outline_call}
use Rattle.std.specs.Prelude.{Err, None, Ok, Option, Some}

from-none : (xs : List Float) (ss : List ℕ) → held 0 xs 0 ss ≡ no_paths
unfolding rows_of
from-none xs ss = refl

pub fit_none : (xs : List Float) (ss : List ℕ) → Fit (Ok (0, 0)) xs ss
fit_none xs ss = fit-both xs ss 0 0 (omega arith) (omega arith)

module _ (s : Option Solid) (eye : Vector) (xs : List Float) (v : View) (room startRoom : ℕ) where
  pub bad-length : (length xs % 16 ≡ 0 → ⊥) → Err Lengths ≡ outline_call s eye xs v room startRoom
  unfolding outline_call
  bad-length h = simp (ne_eqb _ _ h)

  module _ (whole : length xs % 16 ≡ 0) where
    call-is : outline_call s eye xs v room startRoom ≡ outline_at s eye (matrices_in (length xs / 16) xs) v room startRoom
    unfolding outline_call
    call-is = simp (eq-eqb _ _ whole)

    pub no-solid : s ≡ None → Err Values ≡ outline_call s eye xs v room startRoom
    unfolding outline_at
    no-solid e = sym (call-is ∙ rw e)

    module _ {x : Solid} (e : s ≡ Some x) where
      count : length (matrices_in (length xs / 16) xs) ≡ length xs / 16
      count = length-view 16 (λ (r : List Float). matrix_of (numbers_of r)) (length xs / 16) xs

      pub too-deep : 7 < length xs / 16 → Err Parts ≡ outline_call s eye xs v room startRoom
      unfolding outline_at
      too-deep h = sym (call-is ∙ rw (e, count, lt-ltb _ _ h))

      module _ (few : length xs / 16 ≤ 7) {b : Bool} (ok : b ≡ view_ok v) where
        pub bad-view : b ≡ false → Err BadView ≡ outline_call s eye xs v room startRoom
        unfolding outline_at
        bad-view h = sym (call-is ∙ rw (e, count, le-ltb _ _ few, ← ok, h))

        pub outline-is : b ≡ true → {a : RenderArgs} → a ≡ args_of v → {ms : List Matrix} → ms ≡ matrices_in (length xs / 16) xs → {t : Placement} → t ≡ placement_at a eye ms → (ys : List Float) (ss : List ℕ)
            → next (told_both (Ok (0, 0)) ys ss) (add_paths room startRoom (outline_of t x)) ≡ outline_call s eye xs v room startRoom
        unfolding outline_at
        outline-is h ea em et ys ss = sym (call-is ∙ rw (e, count, le-ltb _ _ few, ← ok, h, et, ea, em, from-none ys ss))
