-- Where no entry is drawn no point is hidden: by hidden_names alone. Assumes nothing.
use Prim.Native.Nat.{ℕ}
use mathlib.Core.Path.{subst}
use mathlib.Core.List.{List}
use Rattle.lists.specs.Lists.{Member}
use Rattle.theorem_demand3.specs.Witnesses.{NoneHidesNone}
use Rattle.theorem_demand3.proofs.Demand3.{demand-3}

pub none-hides-none : NoneHidesNone
none-hides-none s eye point none hidden =
    let n = demand-3.hidden_names s eye point hidden in
    absurd (subst (λ (l : List ℕ). Member n.entry l) none n.is_drawn)
