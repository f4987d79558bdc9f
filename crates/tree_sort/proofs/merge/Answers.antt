use native.Mathlib.Nat.{not-le_of_lt}
use mathlib.Core.Path.{sym, ◌∙◌}
use native.Mathlib.Omega.{arith}
use Rattle.tree_sort.proofs.Sorting.{merging-p, merging-q, merging-right, merging-left, merging-end}
use Rattle.lists.proofs.Properties.{each_at}
use Rattle.tree_sort.proofs.merge.Goals as goal
use Rattle.tree_sort.proofs.merge.Goals.{then-j-n+else-precedes, else-j-n}

pub precedes-requires : goal.precedes-requires
precedes-requires c =
    let args = c.args in let pre = c.requires in let o₀ = args.order.now in
    let b = pre.2 in (
      rw (merging-q _ _ _ _ _ _ _ _ _ c.loop-i.invariant) (each_at _ o₀ c.loop-i.j b (omega arith)).0,
      rw (merging-p _ _ _ _ _ _ _ _ _ c.loop-i.invariant c.loop-i-test.true) (each_at _ o₀ c.loop-i.i b (omega arith)).0,
    )

pub loop-i-preserved-then-precedes : goal.loop-i-preserved-then-precedes
loop-i-preserved-then-precedes c =
    merging-right _ _ _ _ _ _ _ _ _ c.loop-i.invariant c.loop-i-test.true c.if-j-n.true (sym c.precedes.ensures ∙ c.if-precedes.true)

pub loop-i-preserved : goal.loop-i-preserved
loop-i-preserved c =
    elim c.if-j-n.branch [
      | then-j-n+else-precedes w ↦ merging-left _ _ _ _ _ _ _ _ _ c.loop-i.invariant c.loop-i-test.true (λ jn. sym w.precedes.ensures ∙ w.if-precedes.false)
      | else-j-n w ↦ merging-left _ _ _ _ _ _ _ _ _ c.loop-i.invariant c.loop-i-test.true (λ jn. absurd (not-le_of_lt jn w.if-j-n.false))
    ]

pub returns : goal.returns
returns c =
    merging-end _ _ _ _ _ _ _ _ _ c.loop-i.invariant c.loop-i-test.false
