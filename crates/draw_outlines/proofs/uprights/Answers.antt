use Rattle.draw_lines.proofs.Adding.{adds_then, adds-as}
use Rattle.draw_outlines.specs.Outlines.{uprights}
use Rattle.draw_outlines.proofs.uprights.Goals as goal

pub returns : goal.returns
unfolding uprights
returns c =
    let args = c.args in adds-as _ (uprights args.r args.e args.eye args.z0 args.z1) (adds_then _ _ _ _ _ _ _ _ _ c.line-c1.ensures c.line-c1.auto.out c.line-c1.auto.begins c.line.ensures) (rw (c.first_tangent.ensures, c.first_tangent-2.ensures, c.second_tangent.ensures, c.second_tangent-2.ensures, c.tangent_root-q.ensures))
