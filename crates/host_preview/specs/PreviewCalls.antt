-- What the host's preview answers and leaves.
use Rattle.std.specs.Prelude.{ℕ, ◌≡◌, List, Float, Result}
use Rattle.draw_preview.specs.Previews.{preview_in}
use Rattle.host.specs.StageCalls.{view_of_row, points_told, paths_told}
use Rattle.refusals.specs.declared.Refusal.{Refusal}
use Rattle.refusals.specs.Refusals.{answer_number}

-- document 02's preview of the slices that are handed in, for result slices of these lengths
abbrev pub preview_call : Float → List Float → List ℕ → List Float → List ℕ → List ℕ → List Float → ℕ → ℕ → List Float → List ℕ → List Float → List ℕ → List Float → List ℕ → List ℕ → Result (ℕ × ℕ) Refusal
preview_call t numbers marks points starts owners view = preview_in t numbers marks points starts owners (view_of_row view)

-- its number, and how many points and paths, where c is what it is to answer
abbrev pub PreviewTold : Result (ℕ × ℕ) Refusal → ℕ → ℕ → ℕ → Type 0
PreviewTold c number points paths = (number ≡ answer_number c) × ((points ≡ points_told c) × (paths ≡ paths_told c))
