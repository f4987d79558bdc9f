use mathlib.Core.Path.{sym, ap}
use native.Mathlib.Omega.{arith}
use lib.Seq.{length-take-le}
use Rattle.text_canonical.specs.Canonical.{form_text}
use Rattle.text_drawing.proofs.Adding.{writes_as}
use Rattle.text_entries.proofs.Forms.{round-form, cube-form, triangle-form, no-form}
use Rattle.text_entries.proofs.Puts.{none-put}
use borrow.Author.Rules.{rules}
use Rattle.text_entries.proofs.put_simple.Goals as goal

pub slice_bounds-put_round-end : goal.slice_bounds-put_round-end
slice_bounds-put_round-end c =
    let pre = c.requires in sym (length-take-le _ _ (omega (arith, c.measures-n.ensures.1, pre.1.0)))

pub put_round-requires : goal.put_round-requires
put_round-requires c =
    let pre = c.requires in pre.0

pub shape_of-text-then-is_round : goal.shape_of-text-then-is_round
shape_of-text-then-is_round c =
    c.put_round.auto.text

pub returns-then-is_round : goal.returns-then-is_round
returns-then-is_round c =
    let args = c.args in λ part. writes_as (ap form_text (round-form args.m args.xs.now _ part c.is_round.ensures c.if-is_round.true c.measures-n.ensures.0 c.stripe_count-count.ensures)) c.put_round.ensures

pub slice_bounds-put_cube-end : goal.slice_bounds-put_cube-end
slice_bounds-put_cube-end c =
    let args = c.args in let pre = c.requires in sym (length-take-le 6 args.xs.now (omega (arith, pre.1.0)))

pub put_cube-requires : goal.put_cube-requires
put_cube-requires c =
    let pre = c.requires in pre.0

pub shape_of-text-then-kind-eq4 : goal.shape_of-text-then-kind-eq4
shape_of-text-then-kind-eq4 c =
    c.put_cube.auto.text

pub returns-then-kind-eq4 : goal.returns-then-kind-eq4
returns-then-kind-eq4 c =
    let args = c.args in λ part. writes_as (ap form_text (cube-form args.m args.xs.now _ part c.is_round.ensures c.if-is_round.false c.if-kind-eq4.true)) c.put_cube.ensures

pub slice_bounds-put_triangle-end : goal.slice_bounds-put_triangle-end
slice_bounds-put_triangle-end c =
    let args = c.args in let pre = c.requires in sym (length-take-le 9 args.xs.now (omega (arith, pre.1.0)))

pub put_triangle-requires : goal.put_triangle-requires
put_triangle-requires c =
    let pre = c.requires in pre.0

pub shape_of-text-then-kind-eq5 : goal.shape_of-text-then-kind-eq5
shape_of-text-then-kind-eq5 c =
    c.put_triangle.auto.text

pub returns-then-kind-eq5 : goal.returns-then-kind-eq5
returns-then-kind-eq5 c =
    let args = c.args in λ part. writes_as (ap form_text (triangle-form args.m args.xs.now _ part c.is_round.ensures c.if-is_round.false c.if-kind-eq4.false c.if-kind-eq5.true)) c.put_triangle.ensures

pub returns : goal.returns
returns c =
    let args = c.args in let pre = c.requires in λ part. writes_as (ap form_text (no-form args.m args.xs.now _ part c.is_round.ensures c.if-is_round.false c.if-kind-eq4.false c.if-kind-eq5.false pre.1.1.0 pre.1.1.1)) (none-put pre.0)
