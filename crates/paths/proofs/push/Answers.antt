use Rattle.paths.proofs.Verbs.{push_at, push-full}
use Rattle.paths.proofs.push.Goals as goal

pub returns-then-n-out : goal.returns-then-n-out
returns-then-n-out c =
    let args = c.args in let pre = c.requires in push_at args.out.now args.n args.v (pre) _ c.if-n-out.true c.write_point.ensures

pub returns : goal.returns
returns c =
    push-full c.args.out.now c.args.n c.args.v c.requires c.if-n-out.false
