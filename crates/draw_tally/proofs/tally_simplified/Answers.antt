use Rattle.std.proofs.lemmas.Result.{err_from_is_err_and}
use mathlib.Core.Path.{refl, sym, ◌∙◌}
use native.Mathlib.Omega.{arith}
use Rattle.paths.proofs.Parts.{range-fits}
use Rattle.draw_tally.proofs.Telling.{simplified-told}
use Rattle.draw_tally.proofs.Turning.{counting-start, counting-turn, counting-refused, counting-end, added-points}
use Rattle.draw_tally.proofs.tally_simplified.Goals as goal

pub loop-i-init : goal.loop-i-init
loop-i-init c =
    (refl, counting-start _ _ _ _)

pub tally_kept-requires : goal.tally_kept-requires
tally_kept-requires c =
    let args = c.args in let pre = c.requires in let w = range-fits args.path.now args.starts.now c.loop-i.i c.range_of-p.result c.range_of-p.ensures in
    (w.0, w.1, omega (arith, pre.0, c.loop-i.invariant.0), pre.1, c.loop-i.invariant.1.fits)

pub returns-in_err-n : goal.returns-in_err-n
returns-in_err-n c =
    let p = err_from_is_err_and c.from_residual.result c.from_residual.ensures.1 in rw (p.1, p.2) (counting-refused _ _ _ _ _ _ _ c.loop-i.invariant.1 c.loop-i-test.true _ c.range_of-p.ensures c.tally_kept.ensures c.in_err-n.was ∙ sym (simplified-told _ _ _ _ _))

pub loop-i-preserved : goal.loop-i-preserved
loop-i-preserved c =
    (c.tally_kept.auto.spare ∙ c.loop-i.invariant.0, counting-turn _ _ _ _ _ _ _ c.loop-i.invariant.1 c.loop-i-test.true _ c.range_of-p.ensures c.tally_kept.ensures (λ e. added-points _ _ _ _ _ c.loop-i.invariant.1.fits e) c.in_ok-n.was)

pub returns : goal.returns
returns c =
    counting-end _ _ _ _ _ _ _ c.loop-i.invariant.1 c.loop-i-test.false ∙ sym (simplified-told _ _ _ _ _)
