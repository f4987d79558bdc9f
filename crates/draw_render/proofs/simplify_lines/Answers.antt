use Rattle.draw_render.proofs.Staging.{simplify-far, simplify-near}
use Rattle.draw_render.proofs.simplify_lines.Goals as goal

pub returns-then-not-points_ok : goal.returns-then-not-points_ok
returns-then-not-points_ok c =
    let args = c.args in simplify-far args.threshold args.path.now args.starts.now _ _ c.points_ok.ensures c.if-not-points_ok.true _ _

pub simplify_paths-requires : goal.simplify_paths-requires
simplify_paths-requires c =
    let pre = c.requires in pre

pub returns : goal.returns
returns c =
    let args = c.args in simplify-near args.threshold args.path.now args.starts.now _ _ c.points_ok.ensures c.if-not-points_ok.false _ _ c.simplify_paths.ensures
