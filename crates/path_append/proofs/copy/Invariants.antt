use lib.Ieee.{Float}
use Rattle.path_append.proofs.Copying.{Copying}
use Rattle.path_append.proofs.copy.Given as goal

abbrev pub invariant-loop-j : goal.invariant-loop-j
invariant-loop-j l = Copying (λ (x : Float). x) l.initial.xs l.from l.to l.count l.xs l.j
