use mathlib.Core.Path.{refl}
use Rattle.draw_render.proofs.Staging.{far-is, near-is}
use Rattle.draw_counts.proofs.Counted.{as-counted}
use Rattle.draw_counts.proofs.simplified_counts.Goals as goal

pub returns-then-not-points_ok : goal.returns-then-not-points_ok
returns-then-not-points_ok c =
    let args = c.args in as-counted (far-is args.threshold args.path.now args.starts.now args.room args.begins c.points_ok.ensures c.if-not-points_ok.true) refl

pub tally_simplified-requires : goal.tally_simplified-requires
tally_simplified-requires c =
    let pre = c.requires in (pre.0, pre.1)

pub returns : goal.returns
returns c =
    let args = c.args in as-counted (near-is args.threshold args.path.now args.starts.now args.room args.begins c.points_ok.ensures c.if-not-points_ok.false) c.tally_simplified.ensures
