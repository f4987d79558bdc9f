use Rattle.tree_sort.proofs.Inserting.{inserting-start, inserting-next, inserting-turn, inserting-here, inserting-end}
use Rattle.lists.proofs.Properties.{each_at}
use native.Mathlib.Omega.{arith}
use mathlib.Core.Path.{◌≡◌, sym, ◌∙◌}
use lib.ListN.{length}
use Rattle.tree_sort.proofs.insert.Goals as goal

pub loop-i-init : goal.loop-i-init
loop-i-init c =
    inserting-start _ _ _ c.requires.0

pub precedes-requires : goal.precedes-requires
precedes-requires c =
    let args = c.args in let pre = c.requires in (rw (inserting-next _ _ _ _ _ _ c.loop-i.invariant) (each_at _ args.order.now c.loop-i.i pre.1 (omega (arith, c.loop-i-test.true, c.loop-i.invariant.whole))).0, (each_at _ args.order.now 0 pre.1 pre.0).0)

pub loop-i-preserved : goal.loop-i-preserved
loop-i-preserved c =
    inserting-turn _ _ _ _ _ _ c.loop-i.invariant c.loop-i-test.true (sym c.precedes.ensures ∙ c.if-precedes.true)

pub returns-else-precedes : goal.returns-else-precedes
returns-else-precedes c =
    inserting-here _ _ _ _ _ _ c.loop-i.invariant c.loop-i-test.true (sym c.precedes.ensures ∙ c.if-precedes.false)

pub returns : goal.returns
returns c =
    let e : length c.args.order.now ≡ c.loop-i.i = omega (arith, c.loop-i.invariant.upto) in
    rw e (inserting-end _ _ _ _ _ _ c.loop-i.invariant c.loop-i-test.false)
