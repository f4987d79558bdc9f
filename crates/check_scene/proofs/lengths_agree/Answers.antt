use Rattle.check_scene.specs.Checks.{lengths_agree}
use borrow.Author.Tests.{le-leb, lt-leb, eq-eqb, ne_eqb}
use Rattle.check_scene.proofs.lengths_agree.Goals as goal

pub returns-then-n-gt1024 : goal.returns-then-n-gt1024
unfolding lengths_agree
returns-then-n-gt1024 c =
    rw (lt-leb _ _ c.if-n-gt1024.true)

pub returns-then-n-marks : goal.returns-then-n-marks
unfolding lengths_agree
returns-then-n-marks c =
    rw (le-leb _ _ c.if-n-gt1024.false, ne_eqb _ _ c.if-n-marks.true)

pub returns-then-n-numbers : goal.returns-then-n-numbers
unfolding lengths_agree
returns-then-n-numbers c =
    rw (le-leb _ _ c.if-n-gt1024.false, eq-eqb _ _ c.if-n-marks.false, ne_eqb _ _ c.if-n-numbers.true)

pub returns-then-starts-owners : goal.returns-then-starts-owners
unfolding lengths_agree
returns-then-starts-owners c =
    rw (le-leb _ _ c.if-n-gt1024.false, eq-eqb _ _ c.if-n-marks.false, eq-eqb _ _ c.if-n-numbers.false, ne_eqb _ _ c.if-starts-owners.true)

pub returns : goal.returns
unfolding lengths_agree
returns c =
    rw (le-leb _ _ c.if-n-gt1024.false, eq-eqb _ _ c.if-n-marks.false, eq-eqb _ _ c.if-n-numbers.false, eq-eqb _ _ c.if-starts-owners.false)
