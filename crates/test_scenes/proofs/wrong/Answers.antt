use mathlib.Core.Path.{◌≡◌, ap, ◌∙◌}
use Prim.Native.Nat.{ℕ, ◌+◌, ◌-◌, ◌*◌}
use lib.ListN.{take, drop}
use native.Mathlib.Omega.{arith}
use Rattle.test_words.proofs.Counting.{counted_start, counted-turn, counted-end}
use Rattle.test_scenes.specs.Records.{scene_right}
use Rattle.test_scenes.proofs.wrong.Goals as goal

pub loop-i-preserved : goal.loop-i-preserved
loop-i-preserved c =
    let args = c.args in let at = c.loop-i.i * 2048 in
    let q : at + 2048 - at ≡ 2048 = omega arith in
    counted-turn _ _ _ _ c.loop-i.invariant c.loop-i-test.true (c.scene_right.ensures ∙ ap (λ (k : ℕ). scene_right (take k (drop at args.s.now))) q) c.miss-n.ensures

pub returns : goal.returns
returns c =
    counted-end _ _ _ _ c.loop-i.invariant c.loop-i-test.false

pub loop-i-init : goal.loop-i-init
loop-i-init c =
    counted_start _ _
