use Rattle.draw_lines.proofs.Adding.{add_nothing}
use Rattle.draw_solids.proofs.Spacing.{uncounted, too_many, counted, step-one}
use native.Mathlib.Nat.{div-le_self}
use native.Mathlib.Omega.{arith}
use Rattle.draw_solids.proofs.round_striped.Goals as goal

pub returns-then-count-eq0 : goal.returns-then-count-eq0
returns-then-count-eq0 c =
    let args = c.args in let pre = c.requires in add_nothing args.out.now args.begins.now args.n args.m _ (uncounted _ _ c.if-count-eq0.true) pre.0 pre.1

pub returns-then-count-gt360 : goal.returns-then-count-gt360
returns-then-count-gt360 c =
    let args = c.args in let pre = c.requires in add_nothing args.out.now args.begins.now args.n args.m _ (too_many _ _ c.if-count-eq0.false c.if-count-gt360.true) pre.0 pre.1

pub overflow_cast-count : goal.overflow_cast-count
overflow_cast-count c =
    omega (arith, div-le_self 360 c.args.count)

pub spaced-requires : goal.spaced-requires
spaced-requires c =
    let args = c.args in let pre = c.requires in (c.floats-table.ensures, step-one _ c.if-count-eq0.false c.if-count-gt360.false, div-le_self 360 args.count, pre.0, pre.1)

pub returns : goal.returns
returns c =
    let args = c.args in rw (counted args.flank args.count c.if-count-eq0.false c.if-count-gt360.false) c.spaced.ensures
