-- What the host's calls for the account of a sheet answer.
use Rattle.std.specs.Prelude.{ℕ, ◌≡◌, List, Float, Result, ⊤}
use Rattle.scene.specs.Scenes.{Scene}
use Rattle.paths.specs.Paths.{Paths}
use Rattle.view.specs.declared.View.{View}
use Rattle.draw_fates.specs.Fates.{AllFates}
use Rattle.draw_entry_lines.specs.EntryLines.{entry_lines_in}
use Rattle.host.specs.StageCalls.{view_of_row}
use Rattle.refusals.specs.declared.Refusal.{Refusal}
use Rattle.refusals.specs.Refusals.{answer_number}

-- what the call on many points answers and leaves: the number of what the core answers, and the words that the core leaves
abbrev pub FatesTold : Scene → List Float → List ℕ → List ℕ → View → List Float → List ℕ → ℕ → List ℕ → Type 0
FatesTold s boxes marks order v tested told₀ number told = (b : Result ⊤ Refusal) × AllFates s boxes marks order v tested told₀ b told × (number ≡ answer_number b)

-- the lines of a range of the slices that are handed in, in the places of those that are lent
abbrev pub lines_call : ℕ → ℕ → List Float → List ℕ → List Float → List ℕ → List ℕ → List Float → List Float → List ℕ → List Float → List ℕ → Result Paths Refusal
lines_call first many numbers marks points starts owners view = entry_lines_in first many numbers marks points starts owners (view_of_row view)
