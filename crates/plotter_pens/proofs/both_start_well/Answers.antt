use Rattle.plotter_pens.specs.Pens.{both_start_well}
use Rattle.plotter_pens.proofs.both_start_well.Goals as goal

pub returns-then-not-good_starts : goal.returns-then-not-good_starts
unfolding both_start_well
returns-then-not-good_starts c =
    simp (← c.good_starts.ensures, c.if-not-good_starts.true)

pub returns : goal.returns
unfolding both_start_well
returns c =
    simp (← c.good_starts.ensures, c.if-not-good_starts.false, ← c.good_starts-2.ensures)
