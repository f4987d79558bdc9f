use Rattle.path_rdp.proofs.Scanning.{root-start}
use lib.Ieee.{Float, lt}
use mathlib.Core.Path.{◌∙◌, sym, ap}
use Rattle.path_simplify.proofs.low_square.Goals as goal

pub returns-then-threshold-root : goal.returns-then-threshold-root
returns-then-threshold-root c =
    ap (λ (x : Float). lt c.args.threshold x) (sym root-start) ∙ c.requires

pub returns : goal.returns
returns c =
    ap (λ (x : Float). lt c.args.threshold x) (sym c.root.ensures) ∙ c.if-threshold-root.false
