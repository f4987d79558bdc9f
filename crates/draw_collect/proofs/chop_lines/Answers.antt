use Rattle.draw_collect.proofs.Sifting.{chop-far, chop-near}
use Rattle.draw_collect.proofs.chop_lines.Goals as goal

pub returns-then-not-points_ok : goal.returns-then-not-points_ok
returns-then-not-points_ok c =
    let args = c.args in chop-far args.args args.path.now args.starts.now _ _ c.points_ok.ensures c.if-not-points_ok.true _ _

pub returns : goal.returns
returns c =
    let args = c.args in chop-near args.args args.path.now args.starts.now _ _ c.points_ok.ensures c.if-not-points_ok.false _ _ c.chop_paths.ensures
