use mathlib.Core.Path.{refl}
use native.Mathlib.Omega.{arith}
use Rattle.tree_glance.proofs.Spots.{spotting-start, spotting-gone, spotting-end, spotting-unknown, spotting-short, spotting-on, spotting-clear}
use Rattle.tree_glance.proofs.spot.Goals as goal
use Rattle.tree_glance.proofs.spot.Goals.{in-Short+else-calm, in-Clear}

pub loop-k-init : goal.loop-k-init
loop-k-init c =
    (spotting-start _ _ _ _ _ _, refl)

pub returns-then-at-n : goal.returns-then-at-n
returns-then-at-n c =
    spotting-gone _ _ _ _ _ _ _ _ c.loop-k.invariant.0 (omega (arith, c.loop-k.invariant.1, c.if-at-n.true))

pub returns-in-Unknown : goal.returns-in-Unknown
returns-in-Unknown c =
    spotting-unknown _ _ _ _ _ _ _ _ c.loop-k.invariant.0 c.loop-k-test.true (omega (arith, c.loop-k.invariant.1, c.if-at-n.false)) _ _ _ _ refl c.index-w.ensures.0 c.entry_hit-a.ensures c.judged-found.ensures c.in-Unknown.is

pub returns-then-calm : goal.returns-then-calm
returns-then-calm c =
    spotting-short _ _ _ _ _ _ _ _ c.loop-k.invariant.0 c.loop-k-test.true (omega (arith, c.loop-k.invariant.1, c.if-at-n.false)) _ _ _ _ refl c.index-w.ensures.0 c.entry_hit-a.ensures c.judged-found.ensures _ c.in-Short.is c.if-calm.true

pub loop-k-preserved : goal.loop-k-preserved
loop-k-preserved c =
    elim c.match-found.branch [
      | in-Short+else-calm w ↦ (rw w.found-is (spotting-on _ _ _ _ _ _ _ _ c.loop-k.invariant.0 c.loop-k-test.true (omega (arith, c.loop-k.invariant.1, c.if-at-n.false)) _ _ _ _ refl c.index-w.ensures.0 c.entry_hit-a.ensures c.judged-found.ensures _ w.in-Short.is w.if-calm.false), c.loop-k.invariant.1)
      | in-Clear w ↦ (rw (w.found-is, w.in-Clear.is) (spotting-clear _ _ _ _ _ _ _ _ c.loop-k.invariant.0 c.loop-k-test.true (omega (arith, c.loop-k.invariant.1, c.if-at-n.false)) _ _ _ _ refl c.index-w.ensures.0 c.entry_hit-a.ensures c.judged-found.ensures w.in-Clear.is), c.loop-k.invariant.1)
    ]

pub returns : goal.returns
returns c =
    spotting-end _ _ _ _ _ _ _ _ c.loop-k.invariant.0 c.loop-k-test.false
