-- A ring in space (document 02 (vii)): the points centre + u × first axis + v × second.
use Rattle.std.specs.Prelude.{Bool, cond, ◌&&◌, List, map, ℕ, Float}
use Rattle.std.specs.Float.Ieee.{lt}
use Rattle.floats.specs.Arith.{zero_f, one_f}
use Rattle.geometry.specs.Vectors.{vec, add_v, mul_scalar}
use Rattle.geometry.specs.declared.vector.Vector.{Vector}
use Rattle.path_chop.specs.Chop.{spot_of, stops}
use Rattle.path_chop.specs.declared.Spot.{Spot}
use Rattle.draw_rings.specs.Pieces.{ring_pairs}
use Rattle.draw_arcs.specs.declared.Frame.{Frame}
use Rattle.draw_arcs.specs.Stances.{Placement, moved_by}

abbrev pub frame_of : Vector → Vector → Vector → Frame
frame_of c u v = record { center = c; first = u; second = v }

-- around the own z axis, at height z: the own x and y axes
unfoldable pub level_at : Float → Frame
level_at z = frame_of (vec zero_f zero_f z) (vec one_f zero_f zero_f) (vec zero_f one_f zero_f)

unfoldable pub ring_point : Frame → Vector → Vector
ring_point f p = add_v (add_v f.center (mul_scalar f.first p.x)) (mul_scalar f.second p.y)

-- a point as placed, moved by one placing after the other, and where the view's own screen matrix shows it
unfoldable pub placed_spot : Placement → Vector → Spot
placed_spot t v = spot_of t.screen (moved_by t.placings v)

-- the chopping rule, put to the ends as placed; number 9 is not judged
unfoldable pub ring_stops : Placement → Frame → Vector → Vector → Bool
ring_stops t f p q = stops t.screen (placed_spot t (ring_point f p)) (placed_spot t (ring_point f q))

-- at step 0 no rule ends halving
unfoldable pub ends_halving : Bool → Placement → Frame → Vector → Vector → Bool
ends_halving stepping t f p q = stepping && ring_stops t f p q

-- at most 8 nested halvings; at step 0 it is 5 of them
unfoldable pub ring_depth : Bool → ℕ
ring_depth stepping = cond stepping 8 5

unfoldable pub ring_in : Bool → Placement → Frame → Float → List Vector
ring_in stepping t f r = map (ring_point f) (ring_pairs (ends_halving stepping t f) r (ring_depth stepping))

unfoldable pub ring_of : Placement → Frame → Float → List Vector
ring_of t f r = ring_in (lt zero_f t.args.step) t f r
