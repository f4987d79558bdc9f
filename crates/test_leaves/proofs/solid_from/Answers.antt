use mathlib.Core.Path.{◌≡◌}
use Prim.Native.Nat.{ℕ, ◌<◌}
use native.Mathlib.Omega.{arith}
use borrow.Author.Tests.{ne_eqb}
use Rattle.rows.specs.declared.Numbers.{Numbers}
use Rattle.scene.specs.Entries.{closed_of, simple_of}
use Rattle.test_leaves.specs.Inputs.{solid_from}
use Rattle.test_leaves.proofs.solid_from.Goals as goal
use Rattle.std.specs.Prelude.{None}

beyond : (w : ℕ) (n : Numbers) → 9 < w → None ≡ simple_of w n
unfolding simple_of closed_of
beyond w n h =
    rw (
      ne_eqb w 1 (λ e. omega arith),
      ne_eqb w 2 (λ e. omega arith),
      ne_eqb w 3 (λ e. omega arith),
      ne_eqb w 4 (λ e. omega arith),
      ne_eqb w 5 (λ e. omega arith),
      ne_eqb w 8 (λ e. omega arith),
      ne_eqb w 9 (λ e. omega arith),
    )

pub returns-then-kind-gt9 : goal.returns-then-kind-gt9
unfolding solid_from
returns-then-kind-gt9 c =
    rw (← c.word-kind.ensures) (beyond _ _ c.if-kind-gt9.true)

pub returns : goal.returns
unfolding solid_from
returns c =
    simp (← c.word-kind.ensures, ← c.numbers_from.ensures, ← c.simple_of.ensures)
