use Rattle.draw_arcs.specs.Stances.{placement_of}
use Rattle.draw_arcs.proofs.Pushing.{ring-run}
use Rattle.draw_arcs.proofs.ring_points.Goals as goal

pub returns : goal.returns
returns c =
    let args = c.args in ring-run args.stepping (placement_of args.t) args.f args.radius _ c.ring_depth-depth.ensures _ _ _ _ c.new-east.ensures c.new-north.ensures c.new-west.ensures c.new-south.ensures args.out.now args.n _ c.ring_point.ensures _ c.push-c0.ensures c.push-c0.auto.out _ c.quarter-c1.ensures c.quarter-c1.auto.out _ c.quarter-c2.ensures c.quarter-c2.auto.out _ c.quarter-c3.ensures c.quarter-c3.auto.out _ c.quarter.ensures
