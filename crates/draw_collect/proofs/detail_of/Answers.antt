use borrow.Author.Tests.{lt-ltb, le-ltb}
use native.Mathlib.Omega.{arith}
use Rattle.draw_collect.specs.Lined.{detail_at}
use Rattle.draw_collect.proofs.detail_of.Goals as goal

pub read_marks-requires : goal.read_marks-requires
read_marks-requires c =
    omega (arith, c.if-i-marks.true)

pub returns-then-i-marks : goal.returns-then-i-marks
unfolding detail_at
returns-then-i-marks c =
    rw (c.read_marks.ensures, lt-ltb _ _ c.if-i-marks.true)

pub returns : goal.returns
unfolding detail_at
returns c =
    rw (le-ltb _ _ c.if-i-marks.false)
