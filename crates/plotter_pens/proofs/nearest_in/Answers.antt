use Rattle.plotter_pens.proofs.Scans.{scan-start, scan-more, scan-done}
use Rattle.plotter_pens.specs.Pens.{nearest_in}
use native.Mathlib.Omega.{arith}
use mathlib.Core.Path.{sym, ap, ◌∙◌}
use Rattle.plotter_pens.proofs.nearest_in.Goals as goal

pub loop-k-init : goal.loop-k-init
loop-k-init c =
    (omega arith, scan-start _ _ _ _ _ _)

pub loop-k-preserved : goal.loop-k-preserved
loop-k-preserved c =
    (omega arith, c.loop-k.invariant.1 ∙ (scan-more _ _ _ _ _ _ _ c.loop-k-test.true ∙ ap (nearest_in _ _ _ _ _ _) (sym c.offered-so_far.ensures)))

pub returns : goal.returns
returns c =
    sym (c.loop-k.invariant.1 ∙ scan-done _ _ _ _ _ _ _ c.loop-k-test.false)
