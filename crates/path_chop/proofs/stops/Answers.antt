use Rattle.path_chop.specs.Chop as Chop
use Rattle.path_chop.proofs.stops.Goals as goal

pub returns-then-off_sheet : goal.returns-then-off_sheet
unfolding Chop.stops
returns-then-off_sheet c =
    rw (← c.off_sheet.ensures, c.if-off_sheet.true)

pub returns-then-distance_squared-s : goal.returns-then-distance_squared-s
unfolding Chop.stops
returns-then-distance_squared-s c =
    rw (← c.off_sheet.ensures, c.if-off_sheet.false, ← c.distance_squared.ensures, c.if-distance_squared-s.true)

pub returns : goal.returns
unfolding Chop.stops
returns c =
    rw (← c.off_sheet.ensures, c.if-off_sheet.false, ← c.distance_squared.ensures, c.if-distance_squared-s.false, ← c.distance_squared-2.ensures)
