use Rattle.scene_merge.proofs.Laying.{laid-start, laid-turn, laid_end, first-length}
use native.Mathlib.Omega.{arith}
use Rattle.scene_merge.proofs.put_numbers.Goals as goal

pub loop-k-init : goal.loop-k-init
loop-k-init c =
    laid-start _ _ _

pub number_at-requires : goal.number_at-requires
number_at-requires c =
    let pre = c.requires in (pre.0, pre.1)

pub loop-k-preserved : goal.loop-k-preserved
loop-k-preserved c =
    let args = c.args in let pre = c.requires in laid-turn _ _ _ (omega (arith, first-length args.n args.m args.first.now args.second.now pre.0 pre.1, pre.2)) _ _ c.loop-k.invariant (omega arith) _ c.number_at.ensures

pub returns : goal.returns
returns c =
    let args = c.args in let pre = c.requires in laid_end _ _ _ (omega (arith, first-length args.n args.m args.first.now args.second.now pre.0 pre.1, pre.2)) _ _ c.loop-k.invariant (omega arith)
