use Rattle.std.proofs.lemmas.Result.{err_from_is_err_and}
use mathlib.Core.Path.{sym, ◌∙◌}
use Rattle.paths.proofs.Parts.{range-fits}
use Rattle.draw_tally.proofs.Telling.{filtered-told}
use Rattle.draw_tally.proofs.Turning.{counting-start, counting-turn, counting-refused, counting-end, filter-points}
use Rattle.draw_tally.proofs.tally_filtered.Goals as goal

pub loop-i-init : goal.loop-i-init
loop-i-init c =
    counting-start _ _ _ _

pub tally_path-requires : goal.tally_path-requires
tally_path-requires c =
    let args = c.args in let w = range-fits args.path.now args.starts.now c.loop-i.i c.range_of-p.result c.range_of-p.ensures in
    (w.0, w.1, c.loop-i.invariant.fits)

pub returns-in_err-n : goal.returns-in_err-n
returns-in_err-n c =
    let p = err_from_is_err_and c.from_residual.result c.from_residual.ensures.1 in rw (p.1, p.2) (counting-refused _ _ _ _ _ _ _ c.loop-i.invariant c.loop-i-test.true _ c.range_of-p.ensures c.tally_path.ensures c.in_err-n.was ∙ sym (filtered-told _ _ _ _ _))

pub loop-i-preserved : goal.loop-i-preserved
loop-i-preserved c =
    counting-turn _ _ _ _ _ _ _ c.loop-i.invariant c.loop-i-test.true _ c.range_of-p.ensures c.tally_path.ensures (λ e. filter-points _ _ _ _ _ _ c.loop-i.invariant.fits e) c.in_ok-n.was

pub returns : goal.returns
returns c =
    counting-end _ _ _ _ _ _ _ c.loop-i.invariant c.loop-i-test.false ∙ sym (filtered-told _ _ _ _ _)
