use Rattle.path_chop.specs.Chop as Chop
use Rattle.path_chop.proofs.off_sheet.Goals as goal

pub returns-then-both_below : goal.returns-then-both_below
unfolding Chop.off_sheet
returns-then-both_below c =
    rw (← c.both_below.ensures, c.if-both_below.true)

pub returns-then-both_below-2 : goal.returns-then-both_below-2
unfolding Chop.off_sheet
returns-then-both_below-2 c =
    rw (← c.both_below.ensures, c.if-both_below.false, ← c.both_below-2.ensures, c.if-both_below-2.true)

pub returns-then-both_beyond : goal.returns-then-both_beyond
unfolding Chop.off_sheet
returns-then-both_beyond c =
    rw (← c.both_below.ensures, c.if-both_below.false, ← c.both_below-2.ensures, c.if-both_below-2.false, ← c.both_beyond.ensures, c.if-both_beyond.true)

pub returns : goal.returns
unfolding Chop.off_sheet
returns c =
    rw (← c.both_below.ensures, c.if-both_below.false, ← c.both_below-2.ensures, c.if-both_below-2.false, ← c.both_beyond.ensures, c.if-both_beyond.false) c.both_beyond-2.ensures
