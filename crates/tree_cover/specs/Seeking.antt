-- Request (x), is it covered at all: a walk that stops inside a leaf at the first solid whose distance falls short of the eye.
use Rattle.std.specs.Prelude.{cond, List, [], ◌∷◌, ℕ, zero, suc, ◌+◌, length, ltb, Float, Err, Ok, Result}
use Rattle.std.specs.Float.Ieee.{eq, lt}
use Rattle.floats.specs.Arith.{zero_f}
use Rattle.geometry.specs.Vectors.{distance_of}
use Rattle.geometry.specs.Boxes.{box_test, skips}
use Rattle.geometry.specs.declared.vector.Vector.{Vector}
use Rattle.geometry.specs.declared.ray.Ray.{Ray}
use Rattle.tree_nodes.specs.Nodes.{node_at, places_of, is_leaf}
use Rattle.tree_nodes.specs.declared.Node.{Node}
use Rattle.refusals.specs.declared.Refusal.TheVariants.{Waiting}
use Rattle.tree_walk.specs.Walks.{nothing, nearer, backward, children_of, leaf_entries}
use Rattle.tree_walk.specs.declared.Nearest.{Nearest}
use Rattle.tree_sight.specs.Sights.{eye_ray}
use Rattle.tree_sight.specs.declared.Sight.{Sight}
use Rattle.tree_sight.specs.declared.Sight.TheVariants.{Visible, Hidden}
use Rattle.tree_cover.specs.declared.Sought.{Sought}
use Rattle.tree_cover.specs.declared.Sought.TheVariants.{Open, Covered}
use Rattle.geometry.specs.declared.hit.Hit.{Hit}
use Rattle.refusals.specs.declared.Refusal.{Refusal}

-- on from what entry i answers: the walk stops where its own distance falls short, t < far, which a NaN never does; else the best is that of the full walk
unfoldable pub sought_on : Float → ℕ → Result Hit Refusal → Nearest → (Nearest → Result Sought Refusal) → Result Sought Refusal
sought_on far i (Ok h) best next = cond (lt h.t far) (Ok Covered) (next (nearer i h best))
sought_on far i (Err n) best next = Err n

-- each solid of a leaf, in leaf order
unfoldable pub scan_to : Float → (ℕ → Result Hit Refusal) → List ℕ → Nearest → Result Sought Refusal
scan_to far hit [] best = Ok (Open best)
scan_to far hit (i ∷ is) best = sought_on far i (hit i) best (scan_to far hit is)

-- on from a leaf
abbrev pub go_on : Result Sought Refusal → (Nearest → Result Sought Refusal) → Result Sought Refusal
go_on (Ok (Open b)) next = next b
go_on (Ok Covered) next = Ok Covered
go_on (Err n) next = Err n

-- the full walk, `walk_on` of crate tree_walk, but for the leaves: it carries the same best, and passes the same boxes by
unfoldable pub seek_on : Float → (ℕ → Result Hit Refusal) → Ray → (ℕ → Node) → ℕ → List ℕ → ℕ → List ℕ → Nearest → Result Sought Refusal
seek_on far hit r node places order zero waiting best = Ok (Open best)
seek_on far hit r node places order (suc rounds) [] best = Ok (Open best)
seek_on far hit r node places order (suc rounds) (i ∷ waiting) best =
    let past = seek_on far hit r node places order rounds waiting best in
    let into = go_on (scan_to far hit (leaf_entries order (node i)) best) (seek_on far hit r node places order rounds waiting) in
    let c = children_of (node i).first (backward r (node i).axis) in
    let down = seek_on far hit r node places order rounds (c.near ∷ c.far ∷ waiting) best in
    cond (ltb i places)
    (cond (skips (box_test (node i).bx r) best.hit.t) past
    (cond (is_leaf (node i)) into
    (cond (ltb 64 (length waiting + 2)) (Err Waiting) down)))
    past

-- of node slices, from the root, as `walk_rows`
unfoldable pub seek_rows : Float → (ℕ → Result Hit Refusal) → Ray → List Float → List ℕ → List ℕ → Result Sought Refusal
seek_rows far hit r boxes marks order = seek_on far hit r (node_at boxes marks) (places_of boxes marks) order (places_of boxes marks) (0 ∷ []) nothing

-- where a leaf's entries end, as many as are there
unfoldable pub leaf_end : ℕ → ℕ → ℕ → ℕ
leaf_end first count size = cond (ltb (first + count) size) (first + count) size

-- yes or no: a solid that falls short says no
unfoldable pub by_sought : Result Sought Refusal → Result Sight Refusal
by_sought (Ok (Open b)) = Ok Visible
by_sought (Ok Covered) = Ok Hidden
by_sought (Err n) = Err n

-- The eye test by the walk that stops, where `seek` gives what a walk comes to by the computed length: ray, length and the answer at length 0 are those of `sees`.
unfoldable pub covered_by : (Float → Ray → Result Sought Refusal) → Vector → Vector → Result Sight Refusal
covered_by seek eye point = cond (eq (distance_of eye point) zero_f) (Ok Visible) (by_sought (seek (distance_of eye point) (eye_ray eye point)))
