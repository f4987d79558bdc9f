use Rattle.std.proofs.lemmas.Result.{err_from_is_err_and}
use Rattle.draw_lines.proofs.Adding.{adding-start, adding-turn, adding-refused, adding-end}
use Rattle.draw_solids.proofs.Spacing.{left-turns, stripes-end}
use mathlib.Core.Path.{refl, ◌∙◌}
use native.Mathlib.Omega.{arith}
use Rattle.draw_solids.proofs.spaced.Goals as goal

pub loop-a-init : goal.loop-a-init
loop-a-init c =
    adding-start _ _ _ _ _ _ refl c.requires.3 c.requires.4

pub overflow_mul-a : goal.overflow_mul-a
overflow_mul-a c =
    omega (arith, c.loop-a-test.true)

pub offset_bounds-table-a : goal.offset_bounds-table-a
offset_bounds-table-a c =
    omega (arith, c.loop-a-test.true)

pub overflow_mul-a-in-loop-a : goal.overflow_mul-a-in-loop-a
overflow_mul-a-in-loop-a c =
    omega (arith, c.loop-a-test.true)

pub overflow_add-a : goal.overflow_add-a
overflow_add-a c =
    omega (arith, c.loop-a-test.true)

pub offset_bounds-table-a-in-loop-a : goal.offset_bounds-table-a-in-loop-a
offset_bounds-table-a-in-loop-a c =
    omega (arith, c.loop-a-test.true)

pub stripe-requires : goal.stripe-requires
stripe-requires c =
    (c.loop-a.invariant.fits, c.loop-a.invariant.fits-starts)

pub shape_of-out-in_err-p : goal.shape_of-out-in_err-p
shape_of-out-in_err-p c =
    c.stripe.auto.out ∙ c.loop-a.invariant.same

pub shape_of-begins-in_err-p : goal.shape_of-begins-in_err-p
shape_of-begins-in_err-p c =
    c.stripe.auto.begins ∙ c.loop-a.invariant.same-starts

pub returns-in_err-p : goal.returns-in_err-p
returns-in_err-p c =
    let p = err_from_is_err_and c.from_residual.result c.from_residual.ensures.1 in rw (p.1, p.2) (let args = c.args in let pre = c.requires in adding-refused _ _ _ _ _ _ _ _ _ _ c.loop-a.invariant _ _
    (left-turns args.flank _ args.step pre.0 pre.1 c.loop-a.a c.loop-a-test.true) _ _ c.stripe.ensures c.in_err-p.was)

pub overflow_add-a-in-loop-a : goal.overflow_add-a-in-loop-a
overflow_add-a-in-loop-a c =
    let pre = c.requires in omega (arith, c.loop-a-test.true, pre.2)

pub loop-a-smaller : goal.loop-a-smaller
loop-a-smaller c =
    let pre = c.requires in omega (arith, c.loop-a-test.true, pre.1)

pub loop-a-preserved : goal.loop-a-preserved
loop-a-preserved c =
    let args = c.args in let pre = c.requires in adding-turn _ _ _ _ _ _ _ _ _ _ c.loop-a.invariant _ _
    (left-turns args.flank _ args.step pre.0 pre.1 c.loop-a.a c.loop-a-test.true) _ _ c.stripe.ensures c.stripe.auto.out c.stripe.auto.begins c.in_ok-p.was

pub shape_of-out : goal.shape_of-out
shape_of-out c =
    c.loop-a.invariant.same

pub shape_of-begins : goal.shape_of-begins
shape_of-begins c =
    c.loop-a.invariant.same-starts

pub returns : goal.returns
returns c =
    adding-end _ _ _ _ _ _ _ _ _ _ c.loop-a.invariant (stripes-end _ _ _ c.loop-a-test.false)
