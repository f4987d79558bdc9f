use Rattle.tree_build.specs.Slices.{Keyed}
use Rattle.tree_split.specs.Build.{box_at}
use lib.ListN.{length}
use Prim.Native.Nat.{◌≤◌}
use mathlib.Core.Path.{◌≡◌}
use Rattle.tree_build.proofs.fill_keys.Given as goal

abbrev pub invariant-loop-i : goal.invariant-loop-i
invariant-loop-i l = Keyed (box_at l.boxes) l.axis l.order l.keys l.i × (l.i ≤ length l.order) × (length l.keys ≡ length l.initial.keys)
