use Rattle.draw_cuts.specs.Cuts.{cut_filter}
use Rattle.draw_cuts.proofs.cut_filter.Goals as goal

pub returns-then-entry_contains : goal.returns-then-entry_contains
unfolding cut_filter
returns-then-entry_contains c =
    rw (← c.entry_contains.ensures, c.if-entry_contains.true)

pub returns : goal.returns
unfolding cut_filter
returns c =
    rw (← c.entry_contains.ensures, c.if-entry_contains.false)
