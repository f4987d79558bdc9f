use Rattle.scene_merge.proofs.Raising.{all-length}
use Rattle.scene_merge.proofs.Laying.{laid-start, laid-turn, laid_end}
use native.Mathlib.Omega.{arith}
use lib.ListN.{length}
use Rattle.scene_merge.proofs.put_marks.Goals as goal

pub loop-k-init : goal.loop-k-init
loop-k-init c =
    laid-start _ _ _

pub mark_at-requires : goal.mark_at-requires
mark_at-requires c =
    let pre = c.requires in pre.0

pub loop-k-preserved : goal.loop-k-preserved
loop-k-preserved c =
    let args = c.args in let pre = c.requires in laid-turn _ _ _ (all-length args.by args.second.now args.first.now (length args.out.now) pre.1) _ _ c.loop-k.invariant (omega arith) _ c.mark_at.ensures

pub returns : goal.returns
returns c =
    let args = c.args in let pre = c.requires in laid_end _ _ _ (all-length args.by args.second.now args.first.now (length args.out.now) pre.1) _ _ c.loop-k.invariant (omega arith)
