use Rattle.draw_collect.proofs.Listing.{Collecting}
use Rattle.draw_collect.specs.Slices.{lined_at}
use lib.ListN.{take}
use Rattle.draw_collect.proofs.all_paths.Given as goal

abbrev pub invariant-loop-i : goal.invariant-loop-i
invariant-loop-i l = Collecting l.args l.wide l.many (lined_at 8 l.numbers l.inverses l.marks l.points l.starts l.owners) (take l.count l.listed) l.initial.work l.initial.begins l.initial.chopped l.initial.chopped_starts l.work l.begins l.chopped l.chopped_starts l.p l.q l.i
