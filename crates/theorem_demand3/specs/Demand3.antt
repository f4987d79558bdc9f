-- Demand 3 of the request on one page, in its order of words. `demand-3` (proofs/Demand3.antt) is a value of the last record. Terms.antt has the terms.
use Rattle.std.specs.Prelude.{ℕ, ◌-◌, ◌<◌, ◌≡◌, true, not, List, ◌∷◌, map, length, take, T, Ok, Result, Some}
use Rattle.theorem_demand3.specs.Terms.{Float, eq, lt, le, zero_f, Vector, Hit, eye_ray, distance_of, NoMinusZero, box_test, passes}
use Rattle.theorem_demand3.specs.Terms.{Shape, shape_box, shape_hit, Refusal, Scene, drawn, solid_in, lengths_agree, SameSolid}
use Rattle.theorem_demand3.specs.Terms.{Sight, Hidden, Answered, TreeBuilt, visible_of, occluder_of}
use Rattle.theorem_demand3.specs.Terms.{View, Places, stepping, Paths, paths_of, with_points, Drawing, seen_in, Put, LeftAfterClipping}
use Rattle.theorem_demand3.specs.Terms.{clip_filter, by_sight, mul_position_w, simplify_call, Finished, all_points, points}
use Rattle.theorem_demand3.specs.Terms.{vertex, Chain, Near, Member, Pairwise}

-- ---- hiding
-- the solid's own returned distance, the t of its own hit on the ray from point to eye, a miss's t included, falls short of the eye
pub record FallsShort (solid : Shape) (eye point : Vector) : Type 0 where
  pub own : Hit
  pub returned : shape_hit solid (eye_ray eye point) ≡ Ok own
  pub short : T (lt own.t (distance_of eye point))

-- the solid covers the point: its own box passes the test, is entered no later than that distance, and the distance falls short
pub record Covers (solid : Shape) (eye point : Vector) : Type 0 where
  pub falls : FallsShort solid eye point
  pub passed : T (passes (box_test (shape_box solid) (eye_ray eye point)))
  pub no_later : T (le (box_test (shape_box solid) (eye_ray eye point)).tmin falls.own.t)

-- "the computed distance isn't 0, no direction component is −0"
pub record Premise (eye point : Vector) : Type 0 where
  pub apart : T (not (eq (distance_of eye point) zero_f))
  pub direction : NoMinusZero (eye_ray eye point).direction

-- the scene draws the solid: it is that of an entry which nobody names
abbrev pub Draws : Scene → Shape → Type 0
Draws s solid = (i : ℕ) × Member i (drawn s.marks) × (solid_in s i ≡ solid)

-- rows that the public build leaves of the scene, where it is answered: its `ensures`
abbrev pub RowsLeft : Scene → List Float → List ℕ → List ℕ → Type 0
RowsLeft s boxes marks order =
    (boxes₀ : List Float) × (marks₀ order₀ : List ℕ) × (nodes : ℕ) × TreeBuilt s boxes₀ marks₀ order₀ (Ok nodes) boxes marks order

-- the scene answers a at the point, "for the eye test alone and in a draw alike": the public visible on those rows; or step 4 of an answered draw with
-- this eye, of a point that it is handed and that is left after clipping, which it keeps or drops as a says
pub data Answers (s : Scene) (eye point : Vector) (a : Result Sight Refusal) : Type 0 where
  alone : (boxes : List Float) (marks order : List ℕ) → RowsLeft s boxes marks order → visible_of s boxes marks order eye point ≡ a → Answers s eye point a
  in-a-draw : (t : Float) (v : View) (w : Places) (q : Paths) (D : Drawing t s v w q) → v.eye ≡ eye
      → Put D point → LeftAfterClipping v.matrix point
      → clip_filter v.matrix (seen_in s v.eye) point ≡ by_sight (mul_position_w v.matrix point) a → Answers s eye point a

-- request (i)'s "solid named", by the public occluder on all such rows: the scene draws it, and its own returned distance falls short
pub record NamedShort (s : Scene) (eye point : Vector) : Type 0 where
  pub entry : ℕ
  pub named : (boxes : List Float) (marks order : List ℕ) → RowsLeft s boxes marks order → occluder_of s boxes marks order eye point ≡ Ok (Some entry)
  pub is_drawn : Member entry (drawn s.marks)
  pub falls : FallsShort (solid_in s entry) eye point

-- ---- simplification: p is a path, q what is left of it
-- "keeps its ends and hands on what it keeps in order, bit for bit; each dropped vertex has computed distance at most the threshold from the segment
-- replacing it": kept are place 0 and then the others, each after the one before, and the last of them is the path's last place
pub record Simplified (t : Float) (p q : List Vector) : Type 0 where
  pub others : List ℕ
  pub bit_for_bit : q ≡ map (vertex p) (0 ∷ others)
  pub in_order : Chain ◌<◌ 0 others (length p - 1)
  pub near : Chain (Near t p) 0 others (length p - 1)

-- ---- demand 3, of what build, visible, occluder, simplify and draw_with promise: theorem_demand1/specs/Demand1.antt has the theorems of these calls
pub record Demand3 : Type 0 where
  -- Two scenes that hold the same solid hold one value: so covering hangs on solid, point and eye alone.
  pub same_solid : (s s' : Scene) → lengths_agree s ≡ true → lengths_agree s' ≡ true
      → (i j : ℕ) → SameSolid s.numbers s.marks s'.numbers s'.marks i j → solid_in s i ≡ solid_in s' j
  -- Nobody who adds, removes or reorders solids can bring back a point that a remaining solid covers: whatever else the scene holds, it is hidden.
  pub covered_stays_hidden : (solid : Shape) (eye point : Vector) → Covers solid eye point → Premise eye point
      → (s : Scene) → Draws s solid → (a : Result Sight Refusal) → Answered a → Answers s eye point a → a ≡ Ok Hidden
  -- No point is hidden, or dropped as hidden, unless some solid's own returned distance falls short; the solid named is one.
  pub hidden_names : (s : Scene) (eye point : Vector) → Answers s eye point (Ok Hidden) → NamedShort s eye point
  -- Step 4 puts the question of the public visible for each point left after clipping, is answered, and passes the point exactly if that is yes.
  pub step_four : {t : Float} (s : Scene) (v : View) {w : Places} {q : Paths} (D : Drawing t s v w q) (point : Vector) → Put D point
      → LeftAfterClipping v.matrix point
      → (boxes : List Float) (marks order : List ℕ) → RowsLeft s boxes marks order → Answered (visible_of s boxes marks order v.eye point)
      × (clip_filter v.matrix (seen_in s v.eye) point ≡ by_sight (mul_position_w v.matrix point) (visible_of s boxes marks order v.eye point))
  -- A simplified path, whatever its threshold: of the public call, in the slices that it leaves; and in a draw with step > 0, from what step 4 leaves
  -- to what step 6 maps.
  pub simplified : (xs : List Float) (ss : List ℕ) (t : Float) (room startRoom n m : ℕ) (ys : List Float) (us : List ℕ) (i j : ℕ)
      → Finished (simplify_call xs ss t room startRoom) n m ys us (Ok (i, j))
      → Pairwise (Simplified t) (with_points (paths_of (all_points xs) ss)) (paths_of (points i ys) (take j us))
  pub simplified_in_a_draw : {t : Float} (s : Scene) (v : View) {w : Places} {q : Paths} (D : Drawing t s v w q) → stepping v ≡ true
      → Pairwise (Simplified t) (with_points (paths_of D.passed.vertices D.passed.starts)) (paths_of D.left.vertices D.left.starts)
