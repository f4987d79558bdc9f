-- Document 01's number for each case of the answer of many points: 0, or the number of the refusal.
use Rattle.std.specs.Prelude.{ℕ, ◌≡◌, List, Float, Err, Ok, Result, ⊤}
use Rattle.geometry.specs.declared.vector.Vector.{Vector}
use Rattle.refusals.specs.Refusals.{number_of, answer_number}
use Rattle.scene.specs.Scenes.{Scene}
use Rattle.query_cover.specs.Covered.{AllTold}
use Rattle.refusals.specs.declared.Refusal.{Refusal}

-- what a call on many points answers and leaves: the number of what the core answers, and the bytes that the core leaves
abbrev pub BatchTold : Scene → List Float → List ℕ → List ℕ → Vector → List Float → List ℕ → ℕ → List ℕ → Type 0
BatchTold s boxes marks order eye tested told₀ number told = (b : Result ⊤ Refusal) × AllTold s boxes marks order eye tested told₀ b told × (number ≡ answer_number b)
