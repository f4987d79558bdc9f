use mathlib.Core.Path.{◌≡◌}
use Prim.Native.Nat.{◌-◌, ◌≤◌}
use Rattle.draw_memory.specs.Memory.{recalled_from, recalled}
use Rattle.draw_memory.proofs.recall.Given as goal

abbrev pub invariant-loop-k : goal.invariant-loop-k
invariant-loop-k l = (l.k ≤ 8) × (recalled_from l.ends l.known l.v (8 - l.k) l.k ≡ recalled l.ends l.known l.v)
