use Rattle.path_append.proofs.Copying.{Copying}
use Prim.Native.Nat.{ℕ, ◌+◌}
use Rattle.path_append.proofs.shift.Given as goal

abbrev pub invariant-loop-j : goal.invariant-loop-j
invariant-loop-j l = Copying (λ (s : ℕ). s + l.by) l.initial.ss l.from l.to l.count l.ss l.j
