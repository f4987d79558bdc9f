use Rattle.plotter_pens.proofs.Answers.{part_slice}
use native.Mathlib.Omega.{arith}
use Prim.Native.Nat.{◌*◌}
use Rattle.plotter_pens.proofs.part.Goals as goal

pub returns : goal.returns
returns c =
    let args = c.args in part_slice (args.r.from * 3) (args.r.end * 3) args.points.now (omega (arith, c.requires))
