use Rattle.std.proofs.lemmas.Result.{err_from_is_err_and}
use Rattle.draw_lines.proofs.Adding.{adding-start, adding-turn, adding-refused, adding-last}
use Rattle.draw_lines.proofs.Stripes.{stripes-start, stripes-turn, stripes-last}
use mathlib.Core.Path.{◌∙◌}
use native.Mathlib.Omega.{arith}
use Rattle.draw_lines.proofs.paths_striped.Goals as goal

pub loop-i-init : goal.loop-i-init
loop-i-init c =
    (adding-start _ _ _ _ _ _ (stripes-start _ _ _) c.requires.0 c.requires.1, omega arith)

pub stripe-requires : goal.stripe-requires
stripe-requires c =
    (c.loop-i.invariant.0.fits, c.loop-i.invariant.0.fits-starts)

pub shape_of-out-in_err-p : goal.shape_of-out-in_err-p
shape_of-out-in_err-p c =
    c.stripe.auto.out ∙ c.loop-i.invariant.0.same

pub shape_of-begins-in_err-p : goal.shape_of-begins-in_err-p
shape_of-begins-in_err-p c =
    c.stripe.auto.begins ∙ c.loop-i.invariant.0.same-starts

pub returns-in_err-p : goal.returns-in_err-p
returns-in_err-p c =
    let p = err_from_is_err_and c.from_residual.result c.from_residual.ensures.1 in rw (p.1, p.2) (adding-refused _ _ _ _ _ _ _ _ _ _ c.loop-i.invariant.0 _ _ (stripes-turn _ _ _ _ c.loop-i-test.true) _ _ c.stripe.ensures c.in_err-p.was)

pub loop-i-preserved : goal.loop-i-preserved
loop-i-preserved c =
    (adding-turn _ _ _ _ _ _ _ _ _ _ c.loop-i.invariant.0 _ _ (stripes-turn _ _ _ _ c.loop-i-test.true) _ _ c.stripe.ensures c.stripe.auto.out c.stripe.auto.begins c.in_ok-p.was, omega (arith, c.loop-i-test.true))

pub stripe-requires-2 : goal.stripe-requires-2
stripe-requires-2 c =
    (c.loop-i.invariant.0.fits, c.loop-i.invariant.0.fits-starts)

pub shape_of-out : goal.shape_of-out
shape_of-out c =
    c.stripe-2.auto.out ∙ c.loop-i.invariant.0.same

pub shape_of-begins : goal.shape_of-begins
shape_of-begins c =
    c.stripe-2.auto.begins ∙ c.loop-i.invariant.0.same-starts

pub returns : goal.returns
returns c =
    adding-last _ _ _ _ _ _ _ _ _ _ c.loop-i.invariant.0 _ (stripes-last _ _ _ _ c.loop-i-test.false c.loop-i.invariant.1) _ _ c.stripe-2.ensures
