use Rattle.tree_build.proofs.Keys.{keyed-each, keyed-sorted}
use Rattle.tree_split.specs.Build.{box_at}
use mathlib.Core.Path.{◌∙◌}
use native.Mathlib.Omega.{arith}
use Rattle.tree_build.proofs.arrange.Goals as goal

pub fill_keys-requires : goal.fill_keys-requires
fill_keys-requires c =
    let pre = c.requires in (pre.0, pre.2)

pub sort-requires : goal.sort-requires
sort-requires c =
    let pre = c.requires in (omega (arith, pre.1, pre.3), keyed-each _ _ _ _ c.fill_keys.ensures pre.0)

pub returns : goal.returns
returns c =
    let args = c.args in c.sort.ensures ∙ keyed-sorted (box_at args.boxes.now) _ _ _ c.fill_keys.ensures
