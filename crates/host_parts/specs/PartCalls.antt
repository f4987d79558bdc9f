-- What the host's draw of some parts is asked.
use Rattle.std.specs.Prelude.{ℕ, List, Float, Result}
use Rattle.paths.specs.Paths.{Paths}
use Rattle.draw.specs.Draw.{draw_range_in}
use Rattle.host.specs.StageCalls.{view_of_row}
use Rattle.refusals.specs.declared.Refusal.{Refusal}

-- a draw of a range of the slices that are handed in, in the places of those that are lent
abbrev pub range_call : Float → ℕ → ℕ → List Float → List ℕ → List Float → List ℕ → List ℕ → List Float → List Float → List ℕ → List Float → List ℕ → List Float → List ℕ → List Float → List ℕ → List ℕ → Result Paths Refusal
range_call t first many numbers marks points starts owners view = draw_range_in t first many numbers marks points starts owners (view_of_row view)
