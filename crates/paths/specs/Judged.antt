-- What is asked of paths that are handed to a call: document 01's numbers 2, 4, 8 and 9, in this order.
use Rattle.std.specs.Prelude.{Bool, true, cond, ◌&&◌, List, [], ◌∷◌, ℕ, ◌%◌, length, eqb, Float, Err, Ok, Result, ⊤}
use Rattle.geometry.specs.declared.vector.Vector.{Vector}
use Rattle.refusals.specs.declared.Refusal.TheVariants.{Lengths, Parts, View, Point}
use Rattle.limits.specs.Limits.{within_point}
use Rattle.rows.specs.Starts.{good_starts}
use Rattle.paths.specs.Ends.{places, all_points}
use Rattle.refusals.specs.declared.Refusal.{Refusal}

-- number 9: no point has a coordinate that is not finite or exceeds 1,000,000 in magnitude
unfoldable pub points_ok : List Vector → Bool
points_ok [] = true
points_ok (v ∷ vs) = within_point v && points_ok vs

-- with no starts nothing is handed over
unfoldable pub handed_over : List Float → List ℕ → List Vector
handed_over xs [] = []
handed_over xs (s ∷ ss) = all_points xs

-- the first of 2, 4, 8 and 9 that is met; `fair` says that the call's own number 8 is not
unfoldable pub paths_judged : List Float → List ℕ → Bool → Result ⊤ Refusal
paths_judged xs ss fair =
    cond (eqb (length xs % 3) 0)
    (cond (good_starts (places xs) ss)
    (cond fair
    (cond (points_ok (handed_over xs ss)) (Ok tt)
    (Err Point))
    (Err View))
    (Err Parts))
    (Err Lengths)

-- what a call answers, unless it is refused before
unfoldable pub unless : {A : Type 0} → Result ⊤ Refusal → Result A Refusal → Result A Refusal
unless (Ok tt) a = a
unless (Err k) a = Err k
