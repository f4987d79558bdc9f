use Rattle.path_append.proofs.Copying.{copying-start, copying-turn, copying-end, shift_fits}
use Prim.Native.Nat.{ℕ, ◌+◌}
use Rattle.path_append.proofs.shift.Goals as goal

pub loop-j-init : goal.loop-j-init
loop-j-init c =
    copying-start (λ (s : ℕ). s + c.args.by) _ _ _ _ c.requires.0 c.requires.1

pub overflow_add-ss-in-loop-j : goal.overflow_add-ss-in-loop-j
overflow_add-ss-in-loop-j c =
    record { fits = shift_fits _ _ _ _ _ _ _ c.loop-j.invariant c.requires.2 c.loop-j-test.true }

pub loop-j-preserved : goal.loop-j-preserved
loop-j-preserved c =
    copying-turn (λ (s : ℕ). s + c.args.by) _ _ _ _ _ _ c.loop-j.invariant 0 c.loop-j-test.true

pub shape_of-ss : goal.shape_of-ss
shape_of-ss c =
    c.loop-j.invariant.same

pub returns : goal.returns
returns c =
    copying-end (λ (s : ℕ). s + c.args.by) _ _ _ _ _ _ c.loop-j.invariant c.loop-j-test.false
