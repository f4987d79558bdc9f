use mathlib.Core.Path.{◌∙◌}
use native.Mathlib.Omega.{arith}
use native.Mathlib.Nat.{le_refl}
use lib.Seq.{take_all}
use Rattle.query_scene.proofs.Copies.{copied-start, copied-turn, copied-end}
use Rattle.path_copy.proofs.copy_starts.Goals as goal

pub loop-i-init : goal.loop-i-init
loop-i-init c =
    copied-start _ _ _

pub bounds-to-i : goal.bounds-to-i
bounds-to-i c =
    omega (arith, c.loop-i-test.true, c.requires, c.loop-i.invariant.same)

pub loop-i-preserved : goal.loop-i-preserved
loop-i-preserved c =
    copied-turn _ _ _ _ _ c.loop-i.invariant c.loop-i-test.true (le_refl _) c.requires

pub shape_of-to : goal.shape_of-to
shape_of-to c =
    c.loop-i.invariant.same

pub returns : goal.returns
returns c =
    copied-end _ _ _ _ _ c.loop-i.invariant c.loop-i-test.false ∙ take_all _ _ (le_refl _)
