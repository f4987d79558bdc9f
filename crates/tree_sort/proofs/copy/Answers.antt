use mathlib.Core.Path.{◌≡◌, refl}
use native.Mathlib.Omega.{arith}
use Rattle.tree_sort.proofs.Sorting.{copied-turn}
use borrow.Author.Rules.{rules}
use Rattle.tree_sort.proofs.copy.Goals as goal

pub loop-i-init : goal.loop-i-init
loop-i-init c =
    record { same = refl; upto = search rules; done = refl }

pub loop-i-preserved : goal.loop-i-preserved
loop-i-preserved c =
    copied-turn _ _ _ _ _ c.loop-i.invariant c.loop-i-test.true c.requires.0 c.requires.1

pub returns : goal.returns
returns c =
    let e : c.loop-i.i ≡ c.args.n = omega arith in
    rw e at c.loop-i.invariant.done
