use Rattle.draw_arcs.specs.Stances.{placement_of}
use Rattle.draw_shown.proofs.Showing.{shows-own, shows-striped, shows-outline}
use Rattle.paths.specs.Paths.{paths_of}
use Rattle.paths.specs.Ends.{all_points}
use Rattle.draw_lines.specs.Lines.{own_paths}
use Rattle.draw_shown.proofs.shown_paths.Goals as goal

pub returns-then-owns_path : goal.returns-then-owns_path
returns-then-owns_path c =
    let args = c.args in shows-own (placement_of args.t) args.detail args.solid (own_paths args.i (paths_of (all_points args.points.now) args.starts.now) args.owners.now) args.out.now args.begins.now args.n args.m _ _ c.solid_paths-c.ensures (c.owns_path.ensures (all_points args.points.now)) c.if-owns_path.true

pub returns-then-stripeless : goal.returns-then-stripeless
returns-then-stripeless c =
    let args = c.args in shows-outline (placement_of args.t) args.detail args.solid (own_paths args.i (paths_of (all_points args.points.now) args.starts.now) args.owners.now) args.out.now args.begins.now args.n args.m _ _ c.solid_paths-c.ensures (c.owns_path.ensures (all_points args.points.now)) c.if-owns_path.false
    c.stripeless.ensures c.if-stripeless.true c.solid_paths-c.auto.out c.solid_paths-c.auto.begins _ _ c.outline.ensures

pub returns : goal.returns
returns c =
    let args = c.args in shows-striped (placement_of args.t) args.detail args.solid (own_paths args.i (paths_of (all_points args.points.now) args.starts.now) args.owners.now) args.out.now args.begins.now args.n args.m _ _ c.solid_paths-c.ensures (c.owns_path.ensures (all_points args.points.now)) c.stripeless.ensures c.if-stripeless.false
