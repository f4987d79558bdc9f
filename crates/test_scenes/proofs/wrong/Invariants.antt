use mathlib.Core.Path.{◌≡◌, ◌∙◌}
use Prim.Native.Nat.{◌+◌, ◌-◌, ◌*◌}
use Rattle.test_words.proofs.Counting.{Counted}
use Rattle.rows.specs.Rows.{row}
use Rattle.test_scenes.specs.Records.{scene_right}
use Rattle.test_scenes.proofs.wrong.Given as goal

abbrev pub invariant-loop-i : goal.invariant-loop-i
invariant-loop-i l = Counted (λ k. scene_right (row 2048 k l.s)) l.count l.n l.i
