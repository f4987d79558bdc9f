-- Document 01's numbered refusals, 2 to 13, and document 02's 14, a stripe count above 360; number 1 is the program's alone. Number 10 is unused: no chop halves so deep (document 02's request (ix), crate theorem_halvings).
use Rattle.std.specs.Prelude.{ℕ, Result, Ok, Err}
use Rattle.refusals.specs.declared.Refusal.{Refusal}
use Rattle.refusals.specs.declared.Refusal.TheVariants.{Lengths, Values, Parts, Measures, Placing, Extent, View, Point, Restarts, Waiting, Room, Stripes}

unfoldable pub number_of : Refusal → ℕ
number_of Lengths = 2
number_of Values = 3
number_of Parts = 4
number_of Measures = 5
number_of Placing = 6
number_of Extent = 7
number_of View = 8
number_of Point = 9
number_of Restarts = 11
number_of Waiting = 12
number_of Room = 13
number_of Stripes = 14

-- the number of the refusal, or 0 where there is a value
unfoldable pub answer_number : {A : Type 0} → Result A Refusal → ℕ
answer_number (Ok x) = 0
answer_number (Err k) = number_of k
