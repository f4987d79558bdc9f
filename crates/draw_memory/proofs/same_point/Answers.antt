use Rattle.draw_memory.specs.Memory.{same_point}
use Rattle.draw_memory.proofs.Memories.{one-point}
use Rattle.floats.proofs.Tests.{clash}
use Rattle.draw_memory.proofs.same_point.Goals as goal

pub returns-then-not-same_bits : goal.returns-then-not-same_bits
unfolding same_point
returns-then-not-same_bits c =
    record { value = rw (← c.same_bits.ensures.value, c.if-not-same_bits.true); a_value = λ h. clash h }

pub returns-then-not-same_bits-2 : goal.returns-then-not-same_bits-2
unfolding same_point
returns-then-not-same_bits-2 c =
    record { value = rw (← c.same_bits.ensures.value, c.if-not-same_bits.false, ← c.same_bits-2.ensures.value, c.if-not-same_bits-2.true); a_value = λ h. clash h }

pub returns : goal.returns
unfolding same_point
returns c =
    let p = c.if-not-same_bits.false in
    let q = c.if-not-same_bits-2.false in
    record { value = rw (← c.same_bits.ensures.value, p, ← c.same_bits-2.ensures.value, q, ← c.same_bits-3.ensures.value); a_value = λ h. one-point _ _ (c.same_bits.ensures.a_value p) (c.same_bits-2.ensures.a_value q) (c.same_bits-3.ensures.a_value h) }
