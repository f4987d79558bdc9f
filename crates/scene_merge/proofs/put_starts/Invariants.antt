use Rattle.scene_merge.proofs.Laying.{Laid}
use Rattle.scene_merge.specs.MergedScenes.{raised_by}
use mathlib.Core.List.{◌++◌}
use Rattle.scene_merge.proofs.put_starts.Given as goal

abbrev pub invariant-loop-k : goal.invariant-loop-k
invariant-loop-k l = Laid 0 (l.first ++ raised_by l.by l.second) l.initial.out l.out l.k
