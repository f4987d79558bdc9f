use mathlib.Core.Path.{sym, ◌∙◌}
use native.Mathlib.Omega.{arith}
use Rattle.floats.proofs.Tests.{clash}
use Rattle.tree_glance.proofs.Spots.{enters-before}
use Rattle.tree_glance.proofs.Sighting.{covering, fits-else}
use Rattle.tree_glance.proofs.covered.Goals as goal

pub bounds-cover-0 : goal.bounds-cover-0
bounds-cover-0 c =
    let pre = c.requires in omega (arith, pre.0)

pub bounds-cover-1 : goal.bounds-cover-1
bounds-cover-1 c =
    let pre = c.requires in omega (arith, pre.0)

pub enters-requires : goal.enters-requires
enters-requires c =
    let args = c.args in let pre = c.requires in fits-else args.boxes.now _ pre.1 c.if-place-eq4294967295.false

pub returns-then-h-distance : goal.returns-then-h-distance
returns-then-h-distance c =
    λ h. covering _ _ _ _ _ c.if-place-eq4294967295.false (enters-before _ _ _ _ _ c.enters.ensures h) _ (sym c.entry_hit-a.ensures ∙ c.in-Ok.is) c.if-h-distance.true

pub returns-then-place-eq4294967295 : goal.returns-then-place-eq4294967295
returns-then-place-eq4294967295 c =
    λ h. clash h

pub returns-in-Err : goal.returns-in-Err
returns-in-Err c =
    λ h. clash h

pub returns-else-h-distance : goal.returns-else-h-distance
returns-else-h-distance c =
    λ h. clash h
