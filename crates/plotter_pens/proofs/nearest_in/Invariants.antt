use Rattle.plotter_pens.specs.Pens.{lent_drawing, nearest_in}
use lib.ListN.{length}
use mathlib.Core.Path.{◌≡◌}
use Prim.Native.Nat.{◌≤◌, ◌-◌}
use Rattle.plotter_pens.proofs.nearest_in.Given as goal

-- what is left of the scan answers as the whole does
abbrev pub invariant-loop-k : goal.invariant-loop-k
invariant-loop-k l = (l.k ≤ length l.starts)
    × (nearest_in (lent_drawing l.points l.starts) l.marks l.first l.pen (length l.starts) 0 l.initial.so_far ≡ nearest_in (lent_drawing l.points l.starts) l.marks l.first l.pen (length l.starts - l.k) l.k l.so_far)
