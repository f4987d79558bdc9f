use Rattle.draw_arcs.proofs.Moving.{one_more}
use mathlib.Core.Path.{◌≡◌, refl}
use lib.ListN.{length}
use native.Mathlib.Omega.{arith}
use Rattle.draw_arcs.proofs.Placings.with.Goals as goal

pub returns : goal.returns
returns c =
    let args = c.args in let pre = c.requires in let long : length args.self.held ≡ 8 = omega arith in
    (one_more args.self.held args.self.free args.m pre.0 (omega (arith, pre.1, long)), omega (arith, pre.0), refl)
