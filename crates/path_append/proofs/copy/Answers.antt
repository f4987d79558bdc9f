use lib.Ieee.{Float, nan}
use Rattle.path_append.proofs.Copying.{copying-start, copying-turn, copied-end}
use Rattle.path_append.proofs.copy.Goals as goal

pub loop-j-init : goal.loop-j-init
loop-j-init c =
    copying-start (λ (x : Float). x) _ _ _ _ c.requires.0 c.requires.1

pub loop-j-preserved : goal.loop-j-preserved
loop-j-preserved c =
    copying-turn (λ (x : Float). x) _ _ _ _ _ _ c.loop-j.invariant nan c.loop-j-test.true

pub shape_of-xs : goal.shape_of-xs
shape_of-xs c =
    c.loop-j.invariant.same

pub returns : goal.returns
returns c =
    copied-end _ _ _ _ _ _ c.loop-j.invariant c.loop-j-test.false
