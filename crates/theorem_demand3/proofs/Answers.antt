-- Answers of the eye test on the rows that a build leaves, without zeros behind. Assumes nothing.
use Prim.Native.Nat.{ℕ, ◌-◌}
use mathlib.Core.Path.{◌≡◌, sym, ap}
use mathlib.Core.Logic.{◌⊎◌, inl, inr}
use mathlib.Core.List.{List, ◌++◌}
use native.Mathlib.Omega.{arith}
use lib.ListN.{length, replicate, length-append, length-replicate}
use lib.Ieee.{Float}
use Rattle.floats.specs.Arith.{zero_f}
use Rattle.geometry.specs.declared.vector.Vector.{Vector}
use Rattle.rows.specs.Rows.{padded}
use Rattle.scene.specs.Scenes.{Scene}
use Rattle.tree_nodes.specs.Nodes.{places_of, box_rows, mark_rows}
use Rattle.tree_sight.specs.Sights.{Answered}
use Rattle.tree_sight.specs.declared.Sight.{Sight}
use Rattle.tree_sight.specs.declared.Sight.TheVariants.{Visible, Hidden}
use Rattle.query_scene.specs.Queries.{scene_nodes, scene_order, if_built, build_of, visible_of, occluder_of}
use Rattle.theorem_demand3.specs.Demand3.{RowsLeft, Answers, alone}
use Rattle.std.specs.Prelude.{Ok, Option, Result}
use Rattle.refusals.specs.declared.Refusal.{Refusal}

-- the rows, and what the public visible and occluder answer on them
abbrev pub boxes_on : Scene → List Float
boxes_on s = padded zero_f 0 (box_rows (scene_nodes s))

abbrev pub marks_on : Scene → List ℕ
marks_on s = padded 0 0 (mark_rows (scene_nodes s))

abbrev pub order_on : Scene → List ℕ
order_on s = padded 0 0 (scene_order s)

abbrev pub seen_on_rows : Scene → Vector → Vector → Result Sight Refusal
seen_on_rows s = visible_of s (boxes_on s) (marks_on s) (order_on s)

abbrev pub named_on_rows : Scene → Vector → Vector → Result (Option ℕ) Refusal
named_on_rows s = occluder_of s (boxes_on s) (marks_on s) (order_on s)

-- as many places as there are rows leave no zeros
no-zeros : {A : Type 0} (z : A) (xs : List A) → padded z 0 xs ≡ padded z (length (padded z 0 xs)) xs
unfolding padded
no-zeros {A} z xs =
    let n : length (replicate (0 - length xs) z) ≡ 0 - length xs = length-replicate (0 - length xs) z in
    let k : 0 - length xs ≡ length (xs ++ replicate (0 - length xs) z) - length xs = omega (arith, length-append xs (replicate (0 - length xs) z), n) in
    ap (λ (m : ℕ). xs ++ replicate m z) k

pub rows_left : (s : Scene) (count : ℕ) → build_of s (places_of (boxes_on s) (marks_on s)) (length (order_on s)) ≡ Ok count → RowsLeft s (boxes_on s) (marks_on s) (order_on s)
unfolding if_built
rows_left s count is = (
  boxes_on s,
  marks_on s,
  order_on s,
  count,
  record { answer = sym is; boxes_are = no-zeros zero_f (box_rows (scene_nodes s)); marks_are = no-zeros 0 (mark_rows (scene_nodes s)); order_is = no-zeros 0 (scene_order s) },
)

-- yes and no are no refusals
pub yes_or_no : (a : Result Sight Refusal) → (a ≡ Ok Visible) ⊎ (a ≡ Ok Hidden) → Answered a
yes_or_no a (inl e) k h = let z : ◌≡◌ {A = ℕ} 0 1 = cc in omega arith
yes_or_no a (inr e) k h = let z : ◌≡◌ {A = ℕ} 0 1 = cc in omega arith

pub eye-test : (s : Scene) (count : ℕ) → build_of s (places_of (boxes_on s) (marks_on s)) (length (order_on s)) ≡ Ok count
    → (eye point : Vector) (a : Result Sight Refusal) → seen_on_rows s eye point ≡ a → Answers s eye point a
eye-test s count is eye point a seen = alone (boxes_on s) (marks_on s) (order_on s) (rows_left s count is) seen
