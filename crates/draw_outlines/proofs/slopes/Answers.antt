use Rattle.draw_lines.proofs.Adding.{adds_then, adds-as}
use Rattle.draw_outlines.specs.Outlines.{slopes}
use Rattle.draw_outlines.proofs.slopes.Goals as goal

pub returns : goal.returns
unfolding slopes
returns c =
    let args = c.args in adds-as _ (slopes args.r args.k args.e args.eye args.h) (adds_then _ _ _ _ _ _ _ _ _ c.line-c1.ensures c.line-c1.auto.out c.line-c1.auto.begins c.line.ensures) (rw (c.first_tangent.ensures, c.second_tangent.ensures, c.tangent_root-q.ensures, c.new-apex.ensures))
