use mathlib.Core.Path.{refl, ap}
use lib.ListN.{replicate}
use Rattle.draw_arcs.proofs.Placings.none.Goals as goal

pub returns : goal.returns
returns c =
    (refl, refl, ap (replicate 8) c.identity-m.ensures)
