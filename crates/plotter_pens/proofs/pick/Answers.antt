use Rattle.plotter_pens.proofs.Answers.{pick-2, pick-4, pick-9, pick-near, places-marked, both-scanned, both-there}
use native.Mathlib.Omega.{arith}
use mathlib.Core.Path.{ap, ◌∙◌}
use Rattle.plotter_pens.specs.Pens.{picked_from}
use Rattle.plotter_pens.proofs.pick.Goals as goal

pub returns-then-not-lengths_good : goal.returns-then-not-lengths_good
returns-then-not-lengths_good c =
    pick-2 _ _ _ _ _ c.lengths_good.ensures c.if-not-lengths_good.true

pub returns-then-not-both_start_well : goal.returns-then-not-both_start_well
returns-then-not-both_start_well c =
    pick-4 _ _ _ _ _ c.lengths_good.ensures c.if-not-lengths_good.false _ c.both_start_well.ensures c.if-not-both_start_well.true

pub returns-then-not-numbers_finite : goal.returns-then-not-numbers_finite
returns-then-not-numbers_finite c =
    pick-9 _ _ _ _ _ c.lengths_good.ensures c.if-not-lengths_good.false _ c.both_start_well.ensures c.if-not-both_start_well.false _ c.numbers_finite.ensures c.if-not-numbers_finite.true

pub nearest_in-of_yard-requires : goal.nearest_in-of_yard-requires
nearest_in-of_yard-requires c =
    let e = places-marked _ _ _ _ c.lengths_good.ensures c.if-not-lengths_good.false in
    omega (arith, e)

pub nearest_in-of_both-requires : goal.nearest_in-of_both-requires
nearest_in-of_both-requires c =
    let e = places-marked _ _ _ _ c.lengths_good.ensures c.if-not-lengths_good.false in
    omega (arith, e)

pub picked_from-requires : goal.picked_from-requires
picked_from-requires c =
    both-there _ _ _ _ _ (both-scanned _ _ _ _ _ _ c.nearest_in-of_yard.ensures c.nearest_in-of_both.ensures)

pub returns : goal.returns
returns c =
    let scanned = both-scanned _ _ _ _ _ _ c.nearest_in-of_yard.ensures c.nearest_in-of_both.ensures in
    pick-near _ _ _ _ _ c.lengths_good.ensures c.if-not-lengths_good.false _ c.both_start_well.ensures c.if-not-both_start_well.false _ c.numbers_finite.ensures c.if-not-numbers_finite.false _ (c.picked_from.ensures ∙ ap (picked_from _ _) scanned)
