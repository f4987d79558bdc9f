use Rattle.plotter_pens.proofs.Answers.{offered-drawn, offered-empty, offered-near, first-there}
use Rattle.plotter_pens.proofs.offered.Goals as goal

pub returns-then-marks-place-ne0 : goal.returns-then-marks-place-ne0
returns-then-marks-place-ne0 c =
    offered-drawn _ _ _ _ _ _ c.if-marks-place-ne0.true

pub returns-then-r : goal.returns-then-r
returns-then-r c =
    offered-empty _ _ _ _ _ _ c.if-marks-place-ne0.false _ c.range_of-r.ensures c.if-r.true

pub read_point-p-requires : goal.read_point-p-requires
read_point-p-requires c =
    let args = c.args in first-there args.points.now args.starts.now args.k c.range_of-r.result c.range_of-r.ensures c.if-r.false

pub returns : goal.returns
returns c =
    offered-near _ _ _ _ _ _ c.if-marks-place-ne0.false _ c.range_of-r.ensures c.if-r.false _ c.read_point-p.ensures _ c.distance_squared.ensures _ c.nearer_path.ensures
