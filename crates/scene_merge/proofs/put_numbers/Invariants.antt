use Rattle.scene_merge.proofs.Laying.{Laid}
use Rattle.floats.specs.Arith.{zero_f}
use lib.ListN.{take}
use mathlib.Core.List.{◌++◌}
use Rattle.scene_merge.proofs.put_numbers.Given as goal

abbrev pub invariant-loop-k : goal.invariant-loop-k
invariant-loop-k l = Laid zero_f (take l.n l.first ++ take l.m l.second) l.initial.out l.out l.k
