-- Document 02's request (xii), one yard from two files: what the call that merges two scenes answers, and how it leaves its slices.
use Rattle.std.specs.Prelude.{ℕ, ◌+◌, ◌/◌, ◌≡◌, Bool, ◌&&◌, cond, [], length, leb, Err, Ok, Result}
use Rattle.floats.specs.Arith.{zero_f}
use Rattle.rows.specs.Rows.{padded}
use Rattle.refusals.specs.Refusals.{answer_number}
use Rattle.refusals.specs.declared.Refusal.TheVariants.{Lengths, Room}
use Rattle.scene.specs.Scenes.{Scene, scene_of, entries_of}
use Rattle.scene_merge.specs.MergedScenes.{points_of, merged_scene}
use Rattle.check_scene.specs.Checks.{check_of}
use Rattle.query_merge.specs.declared.Sizes.{Sizes}
use Rattle.refusals.specs.declared.Refusal.{Refusal}

-- ---- the answer
unfoldable pub sizes_of : Scene → Sizes
sizes_of s = record { numbers = length s.numbers; marks = length s.marks; points = length s.points; starts = length s.starts; owners = length s.owners }

-- no list is longer than its slice
unfoldable pub fits : Sizes → Sizes → Bool
fits a room =
    leb a.numbers room.numbers
    && (leb a.marks room.marks
    && (leb a.points room.points
    && (leb a.starts room.starts
    && leb a.owners room.owners)))

-- the number of a scene that isn't accepted, or what is judged after it
unfoldable pub merged_after : Result ℕ Refusal → Result (ℕ × ℕ × ℕ) Refusal → Result (ℕ × ℕ × ℕ) Refusal
merged_after (Ok n) r = r
merged_after (Err k) r = Err k

-- of two accepted scenes: 2 for more than 1,024 entries together, then 13 for a result slice too short, or the merged scene's entries, points and paths
unfoldable pub merged_within : Scene → Sizes → Result (ℕ × ℕ × ℕ) Refusal
merged_within m room =
    cond (leb (entries_of m) 1024)
    (cond (fits (sizes_of m) room) (Ok (entries_of m, length m.points / 3, length m.starts)) (Err Room))
    (Err Lengths)

-- the first scene's number, then the second's, then what is judged of both
unfoldable pub merge_of : Scene → Scene → Sizes → Result (ℕ × ℕ × ℕ) Refusal
merge_of s u room = merged_after (check_of s) (merged_after (check_of u) (merged_within (merged_scene s u) room))

-- ---- how the result slices are left: the merged scene, nothing after a refusal, then zeros
unfoldable pub if_merged : Result (ℕ × ℕ × ℕ) Refusal → Scene → Scene
if_merged (Ok (n, p, q)) m = m
if_merged (Err k) m = scene_of [] [] [] [] []

unfoldable pub padded_scene : Sizes → Scene → Scene
padded_scene room m =
    scene_of
    (padded zero_f room.numbers m.numbers)
    (padded 0 room.marks m.marks)
    (padded zero_f room.points m.points)
    (padded 0 room.starts m.starts)
    (padded 0 room.owners m.owners)

-- what the call answers and leaves, by two scenes and the slices that are lent for a third
pub record Merges (s u lent : Scene) (r : Result (ℕ × ℕ × ℕ) Refusal) (left : Scene) : Type 0 where
  pub answer : r ≡ merge_of s u (sizes_of lent)
  pub slices_are : left ≡ padded_scene (sizes_of lent) (if_merged r (merged_scene s u))

-- ---- what the code counts: the elements that a scene gives to each list, and those of two scenes
unfoldable pub given_sizes : Scene → Sizes
given_sizes s = record { numbers = length s.numbers; marks = length s.marks; points = length (points_of s); starts = length s.starts; owners = length s.owners }

unfoldable pub both_sizes : Sizes → Sizes → Sizes
both_sizes a b = record { numbers = a.numbers + b.numbers; marks = a.marks + b.marks; points = a.points + b.points; starts = a.starts + b.starts; owners = a.owners + b.owners }

unfoldable pub merged_by : Sizes → Sizes → Sizes → Result (ℕ × ℕ × ℕ) Refusal
merged_by a b room =
    cond (leb (a.marks / 4 + b.marks / 4) 1024)
    (cond (fits (both_sizes a b) room) (Ok (a.marks / 4 + b.marks / 4, (a.points + b.points) / 3, a.starts + b.starts)) (Err Room))
    (Err Lengths)

-- the call merges the scenes
pub record Mergeable (s u lent : Scene) : Type 0 where
  pub many : ℕ
  pub points : ℕ
  pub paths : ℕ
  pub merges : merge_of s u (sizes_of lent) ≡ Ok (many, points, paths)
