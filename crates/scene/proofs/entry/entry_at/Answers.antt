use borrow.Author.Tests.{lt-ltb, le-ltb}
use native.Mathlib.Omega.{arith}
use Rattle.scene.specs.Entries.{entry_at}
use Rattle.scene.proofs.entry.entry_at.Goals as goal

pub returns-then-i-marks : goal.returns-then-i-marks
unfolding entry_at
returns-then-i-marks c =
    simp (lt-ltb _ _ c.if-i-numbers.true, lt-ltb _ _ c.if-i-inverses.true, lt-ltb _ _ c.if-i-marks.true, ← c.read_marks.ensures, ← c.read_numbers.ensures, ← c.read_numbers-then-i-marks.ensures, ← c.entry_of.ensures)

pub returns-else-i-marks : goal.returns-else-i-marks
unfolding entry_at
returns-else-i-marks c =
    simp (lt-ltb _ _ c.if-i-numbers.true, lt-ltb _ _ c.if-i-inverses.true, le-ltb _ _ c.if-i-marks.false)

pub returns-else-i-inverses : goal.returns-else-i-inverses
unfolding entry_at
returns-else-i-inverses c =
    simp (lt-ltb _ _ c.if-i-numbers.true, le-ltb _ _ c.if-i-inverses.false)

pub returns-else-i-numbers : goal.returns-else-i-numbers
unfolding entry_at
returns-else-i-numbers c =
    simp (le-ltb _ _ c.if-i-numbers.false)

pub read_marks-requires : goal.read_marks-requires
read_marks-requires c =
    omega arith

pub read_numbers-requires : goal.read_numbers-requires
read_numbers-requires c =
    omega arith

pub read_numbers-requires-then-i-marks : goal.read_numbers-requires-then-i-marks
read_numbers-requires-then-i-marks c =
    omega arith
