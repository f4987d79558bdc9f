-- Simplification of paths, and the public call.
use Rattle.std.specs.Prelude.{cond, List, ℕ, ltb, length, Float, Result}
use Rattle.std.specs.Float.Ieee.{lt}
use Rattle.geometry.specs.declared.vector.Vector.{Vector}
use Rattle.paths.specs.Paths.{Paths, push_all, one_path, stage}
use Rattle.paths.specs.Ends.{all_points}
use Rattle.paths.specs.Judged.{paths_judged, unless}
use Rattle.path_rdp.specs.Rdp.{threshold_ok, farthest_of, simplified}
use Rattle.refusals.specs.declared.Refusal.{Refusal}

-- where a path is split; 0 if it is not
unfoldable pub split_place : Float → List Vector → ℕ
split_place t p = cond (ltb (length p) 3) 0 (cond (lt t (farthest_of p).distance) (farthest_of p).index 0)

-- what is pushed for a path p, after the points vs. The Rust pushes the two halves of a split path one after the other and pops the split vertex between
-- them; a slice is full there exactly where it is full for the joined halves.
abbrev pub path_simplify : Float → ℕ → List Vector → List Vector → Result (List Vector) Refusal
path_simplify t room p vs = push_all room vs (simplified t p)

abbrev pub simplify_paths : Float → List Vector → List ℕ → ℕ → ℕ → Result Paths Refusal
simplify_paths t vs ss room startRoom = stage (one_path (path_simplify t)) vs ss room startRoom

-- refusals 2, 4, 8 and 9, and then 13
unfoldable pub simplify_call : List Float → List ℕ → Float → ℕ → ℕ → Result Paths Refusal
simplify_call xs ss t room startRoom = unless (paths_judged xs ss (threshold_ok t)) (simplify_paths t (all_points xs) ss room startRoom)
