use mathlib.Core.Path.{ap, ◌∙◌}
use native.Mathlib.Omega.{arith}
use Rattle.draw_memory.specs.Memory.{outcome_of}
use Rattle.draw_memory.proofs.Memories.{known-told, known_more}
use Rattle.draw_clip.proofs.Clipping.{told-dropped, told-kept}
use Rattle.draw_clip.proofs.end_filter.Goals as goal

pub returns-then-c-eq0 : goal.returns-then-c-eq0
returns-then-c-eq0 c =
    let pre = c.requires in (told-dropped _ _ _ _ (known-told _ _ _ pre.ends_told _ _ (c.recall-c.ensures.recalled (omega (arith, c.if-c-eq0.true))) (omega (arith, c.if-c-eq0.true))) c.if-c-eq0.true, pre)

pub returns-then-c-eq1 : goal.returns-then-c-eq1
returns-then-c-eq1 c =
    let pre = c.requires in (told-kept _ _ _ _ (known-told _ _ _ pre.ends_told _ _ (c.recall-c.ensures.recalled (omega (arith, c.if-c-eq1.true))) (omega (arith, c.if-c-eq1.true))) c.if-c-eq1.true _ c.mul_position_w.ensures, pre)

pub returns : goal.returns
returns c =
    let after = c.quick_filter-t.ensures.1 in (c.quick_filter-t.ensures.0, record { ends_told = known_more _ _ _ after.ends_told _ _ (c.outcome.ensures ∙ ap outcome_of c.quick_filter-t.ensures.0) _ _ c.remember.ensures.0 c.remember.ensures.1; prepared = after.prepared })
