use Rattle.std.proofs.lemmas.Result.{err_from_is_err_and}
use Rattle.paths.proofs.Stages.{staging-start, staging-turn, staging-refused, staging-end}
use Rattle.paths.proofs.Parts.{range-fits}
use Rattle.floats.specs.Arith.{zero_f}
use Rattle.tree_trust.proofs.Answers.{is-uncut}
use Rattle.draw_memory.proofs.Memories.{known_start}
use Rattle.draw_clip.proofs.Clipping.{ready-start}
use mathlib.Core.Path.{sym, ◌∙◌}
use Rattle.draw_clip.proofs.filter_paths.Goals as goal

pub loop-i-init : goal.loop-i-init
loop-i-init c =
    (staging-start _ _ _ _ _, record { ends_told = known_start _ zero_f; prepared = ready-start _ _ _ _ _ _ _ _ _ c.trusts.ensures (λ e. is-uncut _ (sym c.uncut.ensures ∙ e) _ _) })

pub path_filter-requires : goal.path_filter-requires
path_filter-requires c =
    let args = c.args in let w = range-fits args.path.now args.starts.now c.loop-i.i c.range_of-p.result c.range_of-p.ensures in (w.0, w.1, c.loop-i.invariant.0.fits, c.loop-i.invariant.0.fits-starts, c.loop-i.invariant.1)

pub returns-in_err-n : goal.returns-in_err-n
returns-in_err-n c =
    let p = err_from_is_err_and c.from_residual.result c.from_residual.ensures.1 in rw (p.1, p.2) (staging-refused _ _ _ _ _ _ _ _ _ _ c.loop-i.invariant.0 c.loop-i-test.true _ c.range_of-p.ensures _ _ c.path_filter.ensures.0 c.in_err-n.was)

pub loop-i-preserved : goal.loop-i-preserved
loop-i-preserved c =
    (staging-turn _ _ _ _ _ _ _ _ _ _ c.loop-i.invariant.0 c.loop-i-test.true _ c.range_of-p.ensures _ _ c.path_filter.ensures.0 c.path_filter.auto.out c.path_filter.auto.begins c.in_ok-n.was, c.path_filter.ensures.1)

pub returns : goal.returns
returns c =
    staging-end _ _ _ _ _ _ _ _ _ _ c.loop-i.invariant.0 c.loop-i-test.false
