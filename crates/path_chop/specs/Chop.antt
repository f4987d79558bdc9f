-- The adaptive chop (path.rs): a segment is halved until its halves are near on the sheet or off it, and the end of each is pushed.
use Rattle.std.specs.Prelude.{Bool, true, false, ◌&&◌, ◌||◌, List, [], ◌∷◌, ℕ, zero, suc, Float, Ok, Result}
use Rattle.std.specs.Float.Ieee.{lt}
use Rattle.floats.specs.Arith.{◌⊗◌, zero_f, half_f, EPS}
use Rattle.geometry.specs.Vectors.{add_v, mul_scalar, distance_squared}
use Rattle.geometry.specs.declared.vector.Vector.{Vector}
use Rattle.matrix.specs.Matrices.{mul_position_w}
use Rattle.paths.specs.Answers.{next}
use Rattle.paths.specs.Paths.{Paths, push, one_path, stage}
use Rattle.paths.specs.Ends.{all_points}
use Rattle.paths.specs.Judged.{paths_judged, unless}
use Rattle.view.specs.Views.{view_ok, args_of}
use Rattle.view.specs.declared.View.{View}
use Rattle.view.specs.declared.RenderArgs.{RenderArgs}
use Rattle.path_chop.specs.declared.Screen.{Screen}
use Rattle.path_chop.specs.declared.Spot.{Spot}
use Rattle.refusals.specs.declared.Refusal.{Refusal}

-- the step is squared once
unfoldable pub screen_of : RenderArgs → Screen
screen_of a = record { matrix = a.screen; width = a.width; height = a.height; square = a.step ⊗ a.step }

-- a point with its projection
unfoldable pub spot_of : Screen → Vector → Spot
spot_of s v = record { at = v; seen = mul_position_w s.matrix v }

unfoldable pub middle_of : Screen → Spot → Spot → Spot
middle_of s a b = spot_of s (mul_scalar (add_v a.at b.at) half_f)

-- ---- the stop rule; a comparison with a NaN is false
unfoldable pub both_below : Float → Float → Bool
both_below x y = lt x zero_f && lt y zero_f

unfoldable pub both_beyond : Float → Float → Float → Bool
both_beyond limit x y = lt limit x && lt limit y

-- both ends lie off the same side of the sheet
unfoldable pub off_sheet : Screen → Vector → Vector → Bool
off_sheet s a b = both_below a.x b.x || (both_below a.y b.y || (both_beyond s.width a.x b.x || both_beyond s.height a.y b.y))

unfoldable pub stops : Screen → Spot → Spot → Bool
stops s a b = off_sheet s a.seen b.seen || (lt (distance_squared a.seen b.seen) s.square || lt (distance_squared a.at b.at) EPS)

-- ---- halving
unfoldable pub push_or : (List Vector → Result (List Vector) Refusal) → ℕ → Vector → List Vector → Bool → Result (List Vector) Refusal
push_or halve room v vs true = push room vs v
push_or halve room v vs false = halve vs

-- So many halvings, one inside another, are left; where none is, the segment is not halved. Of points that pass number 9 the stop rule holds there (crate theorem_halvings): document 01's number 10 is unused.
unfoldable pub subdivide : Screen → ℕ → ℕ → Spot → Spot → List Vector → Result (List Vector) Refusal
subdivide s room zero a b vs = push room vs b.at
subdivide s room (suc depth) a b vs =
    push_or (λ (us : List Vector). next (subdivide s room depth a (middle_of s a b) us) (subdivide s room depth (middle_of s a b) b)) room b.at vs (stops s a b)

-- a segment is not halved
unfoldable pub done : Screen → ℕ → Spot → Spot → Bool
done s zero a b = true
done s (suc depth) a b = stops s a b

-- how many are left at first: document 02's request (ix)
abbrev pub most_halvings : ℕ
most_halvings = 37

-- ---- a path: its first point, and then each segment, with at most n halvings one inside another
unfoldable pub chop_from : ℕ → Screen → ℕ → Spot → List Vector → List Vector → Result (List Vector) Refusal
chop_from n s room a [] vs = Ok vs
chop_from n s room a (p ∷ ps) vs = next (subdivide s room n a (spot_of s p) vs) (chop_from n s room (spot_of s p) ps)

unfoldable pub path_chop : ℕ → Screen → ℕ → List Vector → List Vector → Result (List Vector) Refusal
path_chop n s room [] vs = Ok vs
path_chop n s room (p ∷ ps) vs = next (push room vs p) (chop_from n s room (spot_of s p) ps)

abbrev pub chop_upto : ℕ → RenderArgs → List Vector → List ℕ → ℕ → ℕ → Result Paths Refusal
chop_upto n a vs ss room startRoom = stage (one_path (path_chop n (screen_of a))) vs ss room startRoom

-- refusals 2, 4, 8 and 9, and then 13
unfoldable pub call_upto : ℕ → View → List Float → List ℕ → ℕ → ℕ → Result Paths Refusal
call_upto n v xs ss room startRoom = unless (paths_judged xs ss (view_ok v)) (chop_upto n (args_of v) (all_points xs) ss room startRoom)

-- the chop, and the public call
abbrev pub chop_paths : RenderArgs → List Vector → List ℕ → ℕ → ℕ → Result Paths Refusal
chop_paths = chop_upto most_halvings

abbrev pub chop_call : View → List Float → List ℕ → ℕ → ℕ → Result Paths Refusal
chop_call = call_upto most_halvings
