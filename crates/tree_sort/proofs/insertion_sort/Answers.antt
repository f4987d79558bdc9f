use mathlib.Core.List.{[]}
use Rattle.tree_sort.proofs.Inserting.{suffixed-start, suffixed-part, suffixed-each, suffixed-turn, suffixed-end}
use Rattle.tree_sort.specs.Sort.{HasKey}
use lib.ListN.{length, length-drop}
use native.Mathlib.Omega.{arith}
use Prim.Native.Nat.{◌-◌}
use mathlib.Core.Path.{ap, ◌∙◌}
use Rattle.tree_sort.proofs.insertion_sort.Goals as goal

pub loop-i-init : goal.loop-i-init
loop-i-init c =
    suffixed-start _ _

pub slice_bounds-insert-count : goal.slice_bounds-insert-count
slice_bounds-insert-count c =
    let h = c.loop-i.invariant in omega (arith, h.same, h.upto, c.loop-i-test.true)

pub slice_bounds-insert-start : goal.slice_bounds-insert-start
slice_bounds-insert-start c =
    let h = c.loop-i.invariant in omega (arith, h.same, h.upto, c.loop-i-test.true)

pub slice_bounds-insert-end : goal.slice_bounds-insert-end
slice_bounds-insert-end c =
    let h = c.loop-i.invariant in omega (arith, h.same, h.upto, c.loop-i-test.true)

pub insert-requires : goal.insert-requires
insert-requires c =
    let args = c.args in let pre = c.requires in let h = c.loop-i.invariant in let o = c.loop-i.order in let i = c.loop-i.i in (omega (arith, ap length (suffixed-part _ _ o i [] h c.loop-i-test.true) ∙ length-drop (i - 1) o, h.same, h.upto, c.loop-i-test.true), suffixed-each _ _ o i [] h c.loop-i-test.true (HasKey args.keys.now) (pre))

pub loop-i-preserved : goal.loop-i-preserved
loop-i-preserved c =
    suffixed-turn _ _ _ _ c.insert.new.order c.loop-i.invariant c.loop-i-test.true c.insert.ensures

pub shape_of-order : goal.shape_of-order
shape_of-order c =
    c.loop-i.invariant.same

pub returns : goal.returns
returns c =
    suffixed-end _ _ _ _ c.loop-i.invariant c.loop-i-test.false
