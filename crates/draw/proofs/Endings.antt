-- The last steps of a draw: the result and then zeros, and zeros in the work slices. Assumes nothing.
use mathlib.Core.Path.{◌≡◌, ap, ◌∙◌}
use mathlib.Core.List.{List}
use Prim.Native.Nat.{ℕ}
use lib.ListN.{length, replicate}
use lib.Ieee.{Float}
use Rattle.paths.specs.Paths.{Paths}
use Rattle.paths.specs.Ends.{told_both, EndsBoth, Finished}
use Rattle.paths.proofs.Closing.{finished_as}
use Rattle.refusals.specs.declared.Refusal.{Refusal}
use Rattle.std.specs.Prelude.{Result}

-- the slices xs and ss were ys and us before they were cleared
pub drawn-finished : {a : Result Paths Refusal} {n m : ℕ} {ys : List Float} {us : List ℕ} {c : Result (ℕ × ℕ) Refusal} → EndsBoth a ys us c → length ys ≡ n → length us ≡ m → {xs : List Float} {ss : List ℕ} {r : Result (ℕ × ℕ) Refusal}
    → Finished (told_both c ys us) (length ys) (length us) xs ss r → Finished a n m xs ss r
drawn-finished {n = n} {m = m} {ys = ys} {us = us} e f g d = finished_as (length ys) n (length us) m e.is f g d

pub zeros-as : {A : Type 0} (z : A) {n m : ℕ} {xs : List A} → n ≡ m → xs ≡ replicate n z → xs ≡ replicate m z
zeros-as z e h = h ∙ ap (λ (k : ℕ). replicate k z) e
