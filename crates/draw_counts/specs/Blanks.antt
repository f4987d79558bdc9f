-- Result slices that are known by their lengths alone.
use Rattle.std.specs.Prelude.{List, ℕ, replicate, Float}
use Rattle.floats.specs.Arith.{zero_f}
use Rattle.draw_render.specs.Render.{Places}
use Rattle.draw_render.specs.Slices.{places_in}

-- slices of n numbers and of m starts, whatever they hold
abbrev pub blank : ℕ → List Float
blank n = replicate n zero_f

abbrev pub blank_starts : ℕ → List ℕ
blank_starts m = replicate m 0

-- the places of a draw whose result slices have these lengths
abbrev pub places_for : ℕ → ℕ → List Float → List ℕ → List Float → List ℕ → List ℕ → ℕ → ℕ → Places
places_for wide many chopped choppedStarts nodeBoxes nodeMarks order out begins = places_in wide many chopped choppedStarts nodeBoxes nodeMarks order (blank out) (blank_starts begins)
