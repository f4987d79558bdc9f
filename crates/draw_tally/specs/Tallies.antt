-- The points and paths of a stage counted without being kept, in the order of its verbs. Room is how many places a slice has; n are points, m paths. While a path is open, b paths are before it, and it was opened after o points.
use Rattle.std.specs.Prelude.{cond, List, [], ◌∷◌, ℕ, ◌+◌, ◌-◌, length, ltb, leb, eqb, Float, Err, None, Ok, Option, Result, Some}
use Rattle.geometry.specs.declared.vector.Vector.{Vector}
use Rattle.refusals.specs.declared.Refusal.TheVariants.{Room}
use Rattle.path_rdp.specs.Rdp.{simplified}
use Rattle.refusals.specs.declared.Refusal.{Refusal}

-- the place after the first n is taken; document 01's number 13 where there is none
unfoldable pub taken : ℕ → ℕ → Result (ℕ × ℕ × ℕ) Refusal → Result (ℕ × ℕ × ℕ) Refusal
taken room n t = cond (ltb n room) t (Err Room)

-- how many paths there are once the open one is closed: without points it vanishes
unfoldable pub paths_left : ℕ → ℕ → ℕ → ℕ
paths_left n b o = cond (eqb o n) b (b + 1)

-- a point of the filter, by its test
unfoldable pub tallied : ℕ → ℕ → Result (Option Vector) Refusal → ℕ → ℕ → ℕ → Result (ℕ × ℕ × ℕ) Refusal
tallied room startRoom (Ok (Some v)) n b o = taken room n (Ok (n + 1, b, o))
tallied room startRoom (Ok None) n b o = taken startRoom (paths_left n b o) (Ok (n, paths_left n b o, n))
tallied room startRoom (Err k) n b o = Err k

abbrev pub tally_then : Result (ℕ × ℕ × ℕ) Refusal → (ℕ → ℕ → ℕ → Result (ℕ × ℕ × ℕ) Refusal) → Result (ℕ × ℕ × ℕ) Refusal
tally_then (Ok (n, b, o)) f = f n b o
tally_then (Err k) f = Err k

unfoldable pub tallied_from : (Vector → Result (Option Vector) Refusal) → ℕ → ℕ → List Vector → ℕ → ℕ → ℕ → Result (ℕ × ℕ × ℕ) Refusal
tallied_from test room startRoom [] n b o = Ok (n, b, o)
tallied_from test room startRoom (v ∷ vs) n b o = tally_then (tallied room startRoom (test v) n b o) (tallied_from test room startRoom vs)

-- k points more, one after the other
unfoldable pub more : ℕ → ℕ → ℕ → ℕ → ℕ → Result (ℕ × ℕ × ℕ) Refusal
more room k n b o = cond (leb k (room - n)) (Ok (n + k, b, o)) (Err Room)

-- a path that is opened, worked and closed
abbrev pub shut : Result (ℕ × ℕ × ℕ) Refusal → Result (ℕ × ℕ) Refusal
shut (Ok (n, b, o)) = Ok (n, paths_left n b o)
shut (Err k) = Err k

unfoldable pub path_tally : (ℕ → ℕ → ℕ → Result (ℕ × ℕ × ℕ) Refusal) → ℕ → ℕ → ℕ → Result (ℕ × ℕ) Refusal
path_tally work startRoom n m = shut (tally_then (taken startRoom m (Ok (n, m, n))) work)

abbrev pub filter_tally : (Vector → Result (Option Vector) Refusal) → ℕ → ℕ → List Vector → ℕ → ℕ → Result (ℕ × ℕ) Refusal
filter_tally test room startRoom p = path_tally (tallied_from test room startRoom p) startRoom

abbrev pub simplify_tally : Float → ℕ → ℕ → List Vector → ℕ → ℕ → Result (ℕ × ℕ) Refusal
simplify_tally t room startRoom p = path_tally (more room (length (simplified t p))) startRoom

-- each path in turn
abbrev pub counts_then : Result (ℕ × ℕ) Refusal → (ℕ → ℕ → Result (ℕ × ℕ) Refusal) → Result (ℕ × ℕ) Refusal
counts_then (Ok (n, m)) f = f n m
counts_then (Err k) f = Err k

unfoldable pub each_tally : (List Vector → ℕ → ℕ → Result (ℕ × ℕ) Refusal) → List (List Vector) → ℕ → ℕ → Result (ℕ × ℕ) Refusal
each_tally f [] n m = Ok (n, m)
each_tally f (p ∷ ps) n m = counts_then (f p n m) (each_tally f ps)
