-- The eye test by a glance: what is asked of a tree, of the solids and of what is kept, and what a glance's answer says of the full walk.
use Rattle.std.specs.Prelude.{◌≡◌, ◌⊎◌, Bool, true, false, not, cond, ◌&&◌, List, [], ◌∷◌, ℕ, zero, suc, ◌+◌, ◌*◌, ◌≤◌, length, get_or, T, ltb, Float, Err, None, Ok, Option, Result, Some}
use Rattle.std.specs.Float.Ieee.{lt, le}
use Rattle.geometry.specs.Boxes.{box_test, passes}
use Rattle.geometry.specs.declared.ray.Ray.{Ray}
use Rattle.geometry.specs.declared.hit.Hit.{Hit}
use Rattle.geometry.specs.declared.bounding_box.BBox.{BBox}
use Rattle.rows.specs.Rows.{row}
use Rattle.rows.specs.Points.{box_of_row}
use Rattle.lists.specs.Lists.{Member}
use Rattle.tree_nodes.specs.Trees.{Tree, leaf, split}
use Rattle.tree_trust.specs.Trust.{whole_tree}
use Rattle.tree_nodes.specs.Nodes.{node_at, is_leaf}
use Rattle.tree_nodes.specs.declared.Node.{Node}
use Rattle.tree_beams.specs.Beams.{misses_box}
use Rattle.tree_beams.specs.declared.Beam.{Beam}
use Rattle.tree_walk.specs.Walks.{leaf_entries, children_of, backward}
use Rattle.tree_walk.specs.declared.Nearest.{Nearest}
use Rattle.tree_sight.specs.declared.Sight.{Sight}
use Rattle.tree_sight.specs.declared.Sight.TheVariants.{Hidden, Visible}
use Rattle.tree_glance.specs.declared.Spotted.{Spotted}
use Rattle.tree_glance.specs.declared.Spotted.TheVariants.{Clear, Short, Unknown}
use Rattle.refusals.specs.declared.Refusal.{Refusal}

-- ---- leaves
-- a leaf with the box c that holds the entry s stands in the tree
abbrev pub LeafIn : BBox → ℕ → Tree ℕ → Type 0
LeafIn c s (leaf o a is) = (o ≡ c) × Member s is
LeafIn c s (split o a x y) = LeafIn c s x ⊎ LeafIn c s y

-- ---- what is kept from point to point
-- the number of no place
abbrev pub no_place : ℕ
no_place = 0xffff_ffff

-- the leaf and the entry in it that hid a point last, or no place; and room for places that wait
pub record LastCover (boxes : List Float) (links order cover stack : List ℕ) : Type 0 where
  pub wide : length cover ≡ 2
  pub wide_stack : length stack ≡ 64
  pub last : (get_or cover 0 0 ≡ no_place) ⊎ ((get_or cover 0 0 * 6 + 6 ≤ length boxes) × LeafIn (box_of_row (row 6 (get_or cover 0 0) boxes)) (get_or cover 1 0) (whole_tree boxes links order))

-- ---- what the entries of a leaf say of the distance
abbrev pub clear : Spotted
clear = Clear

-- once entry i has answered
unfoldable pub judged_of : Float → ℕ → Result Hit Refusal → Spotted → Spotted
judged_of distance i (Ok h) found = cond (lt h.t distance) (Short i) found
judged_of distance i (Err n) found = Unknown

-- on from there: a refusal ends it, and so does one that falls short, where every solid answers
unfoldable pub spot_on : Bool → Spotted → (Spotted → Spotted) → Spotted
spot_on calm Clear next = next Clear
spot_on calm (Short i) next = cond calm (Short i) (next (Short i))
spot_on calm Unknown next = Unknown

unfoldable pub spotted_of : Float → Bool → (ℕ → Result Hit Refusal) → List ℕ → Spotted → Spotted
spotted_of distance calm hit [] found = found
spotted_of distance calm hit (i ∷ is) found = spot_on calm (judged_of distance i (hit i) found) (spotted_of distance calm hit is)

-- the box in row i passes the test and is entered before the distance
pub record EnteredBefore (boxes : List Float) (i : ℕ) (r : Ray) (distance : Float) : Type 0 where
  pub passed : T (passes (box_test (box_of_row (row 6 i boxes)) r))
  pub before : T (lt (box_test (box_of_row (row 6 i boxes)) r).tmin distance)

-- every entry answers
abbrev pub AllAnswer : (ℕ → Result Hit Refusal) → List ℕ → Type 0
AllAnswer hit is = (i : ℕ) → Member i is → (h : Hit) × (hit i ≡ Ok h)

-- an entry that falls short, in a leaf whose box is entered before the distance
pub record Shorter (hit : ℕ → Result Hit Refusal) (r : Ray) (distance : Float) (calm : Bool) (boxes : List Float) (i : ℕ) (is : List ℕ) (cover : List ℕ) : Type 0 where
  pub entered : EnteredBefore boxes i r distance
  pub own : Hit
  pub among : Member (get_or cover 1 0) is
  pub returned : hit (get_or cover 1 0) ≡ Ok own
  pub short : T (lt own.t distance)
  pub answered : calm ≡ false → AllAnswer hit is
  pub place : get_or cover 0 0 ≡ i
  pub wide : length cover ≡ 2

-- the leaf and the entry that are kept hide the ray's origin
pub record Covering (hit : ℕ → Result Hit Refusal) (r : Ray) (distance : Float) (boxes : List Float) (cover : List ℕ) : Type 0 where
  pub held : get_or cover 0 0 ≡ no_place → ⊥
  pub entered : EnteredBefore boxes (get_or cover 0 0) r distance
  pub own : Hit
  pub returned : hit (get_or cover 1 0) ≡ Ok own
  pub short : T (lt own.t distance)

abbrev pub LeafTold : (ℕ → Result Hit Refusal) → Ray → Float → Bool → List Float → ℕ → List ℕ → List ℕ → List ℕ → Option Sight → Type 0
LeafTold hit r distance calm boxes i is cover cover' (Some Hidden) = Shorter hit r distance calm boxes i is cover'
LeafTold hit r distance calm boxes i is cover cover' (Some Visible) = (cover' ≡ cover) × ((s : ℕ) → Member s is → (h : Hit) × (hit s ≡ Ok h) × T (not (lt h.t distance)))
LeafTold hit r distance calm boxes i is cover cover' None = cover' ≡ cover

-- ---- what a glance says of the walk
abbrev pub Tells : Option Sight → Result Nearest Refusal → Float → Type 0
Tells (Some Hidden) f distance = (b : Nearest) × (f ≡ Ok b) × T (lt b.hit.t distance)
Tells (Some Visible) f distance = (b : Nearest) × (f ≡ Ok b) × T (le distance b.hit.t)
Tells None f distance = Unit

unfoldable pub ended_of : Bool → Option Sight
ended_of hid = cond hid (Some Hidden) (Some Visible)

-- ---- the glance itself
-- the test of `EnteredBefore`
unfoldable pub enters_before : List Float → ℕ → Ray → Float → Bool
enters_before boxes i r distance = passes (box_test (box_of_row (row 6 i boxes)) r) && lt (box_test (box_of_row (row 6 i boxes)) r).tmin distance

-- what a leaf says by its entries: one that falls short hides if the leaf's box is entered before the distance
unfoldable pub leaf_glance : Spotted → Bool → Option Sight
leaf_glance Clear entered = Some Visible
leaf_glance (Short i) entered = cond entered (Some Hidden) None
leaf_glance Unknown entered = None

-- on from a leaf; one that hides ends it where every solid answers
unfoldable pub past_leaf : Bool → Option Sight → Bool → (Bool → Option Sight) → Option Sight
past_leaf calm (Some Hidden) hid next = cond calm (Some Hidden) (next true)
past_leaf calm (Some Visible) hid next = next hid
past_leaf calm None hid next = None

-- In at most so many rounds, from the places that wait, the next one first: `says` is what the leaf at a place says, `misses` tells the places whose boxes the
-- ray misses, and `hid` that a leaf has hidden. A child that is missed is left out; where a 65th place would wait it is unsure.
unfoldable pub look_on : (ℕ → Option Sight) → (ℕ → Bool) → Ray → (ℕ → Node) → Bool → ℕ → List ℕ → Bool → Option Sight
look_on says misses r node calm zero [] hid = ended_of hid
look_on says misses r node calm zero (i ∷ waiting) hid = None
look_on says misses r node calm (suc rounds) [] hid = ended_of hid
look_on says misses r node calm (suc rounds) (i ∷ waiting) hid =
    let on = look_on says misses r node calm rounds in
    let c = children_of (node i).first (backward r (node i).axis) in
    cond (is_leaf (node i)) (past_leaf calm (says i) hid (on waiting))
    (cond (misses c.near)
    (cond (misses c.far) (on waiting hid) (on (c.far ∷ waiting) hid))
    (cond (misses c.far) (on (c.near ∷ waiting) hid)
    (cond (ltb 63 (length waiting)) None (on (c.near ∷ c.far ∷ waiting) hid))))

-- what the leaf at place i says
unfoldable pub leaf_says : (ℕ → Result Hit Refusal) → Beam → Float → Bool → List Float → List ℕ → List ℕ → ℕ → Option Sight
leaf_says hit b distance calm boxes links order i =
    leaf_glance (spotted_of distance calm hit (leaf_entries order (node_at boxes links i)) clear) (enters_before boxes i b.ray distance)

-- from the root, in at most 2,048 rounds
unfoldable pub look_rows : (ℕ → Result Hit Refusal) → Beam → Float → Bool → List Float → List ℕ → List ℕ → Option Sight
look_rows hit b distance calm boxes links order =
    cond (misses_box (box_of_row (row 6 0 boxes)) b) (Some Visible)
    (look_on (leaf_says hit b distance calm boxes links order) (λ i. misses_box (box_of_row (row 6 i boxes)) b) b.ray (node_at boxes links) calm 2048 (0 ∷ []) false)

-- what a glance says of the eye test
abbrev pub SeenAs : Option Sight → Result Sight Refusal → Type 0
SeenAs (Some Hidden) s = s ≡ Ok Hidden
SeenAs (Some Visible) s = s ≡ Ok Visible
SeenAs None s = Unit
