use native.Mathlib.Omega.{arith}
use mathlib.Core.Path.{refl, sym, ◌∙◌}
use Rattle.draw_memory.proofs.Memories.{recall-start, recall-found, recall-next, recall-none}
use Rattle.draw_memory.proofs.recall.Goals as goal

pub loop-k-init : goal.loop-k-init
loop-k-init c =
    (omega arith, recall-start _ _ _)

pub read_point-requires : goal.read_point-requires
read_point-requires c =
    let pre = c.requires in omega (arith, c.loop-k-test.true, pre.0)

pub returns-then-same_point : goal.returns-then-same_point
returns-then-same_point c =
    record { value = recall-found _ _ _ _ c.loop-k.invariant.1 c.loop-k-test.true _ c.read_point.ensures _ c.same_point.ensures.value c.if-same_point.true; recalled = λ h. record { place = c.loop-k.k; there = c.loop-k-test.true; same = sym c.read_point.ensures ∙ c.same_point.ensures.a_value c.if-same_point.true; is = refl } }

pub loop-k-preserved : goal.loop-k-preserved
loop-k-preserved c =
    (omega (arith, c.loop-k-test.true), recall-next _ _ _ _ c.loop-k.invariant.1 c.loop-k-test.true _ c.read_point.ensures _ c.same_point.ensures.value c.if-same_point.false)

pub returns : goal.returns
returns c =
    record { value = recall-none _ _ _ _ c.loop-k.invariant.1 c.loop-k-test.false; recalled = λ h. absurd (omega (arith, h)) }
