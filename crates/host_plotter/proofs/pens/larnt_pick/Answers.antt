use Rattle.host_plotter.proofs.PenLaws.{pick-told}
use Rattle.host_plotter.proofs.pens.larnt_pick.Goals as goal

pub returns : goal.returns
returns c =
    pick-told _ _ _ _ _ _ c.pick_and_mark-c.ensures _ c.range_told-r.ensures _ c.in_lines.ensures _ c.path_told.ensures _ c.pick_number.ensures
