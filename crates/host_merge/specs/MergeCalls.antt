-- What the call of a merge tells of each case of the core's answer.
use Rattle.std.specs.Prelude.{◌≡◌, ℕ, Err, Ok, Result}
use Rattle.scene.specs.Scenes.{Scene}
use Rattle.scene_merge.specs.MergedScenes.{merged_scene}
use Rattle.query_merge.specs.Merging.{sizes_of, merge_of, if_merged, padded_scene}
use Rattle.refusals.specs.declared.Refusal.{Refusal}
use Rattle.refusals.specs.Refusals.{answer_number}

-- how many entries, points and paths the merged scene has; 0 after a refusal
unfoldable pub merged_entries : Result (ℕ × ℕ × ℕ) Refusal → ℕ
merged_entries (Ok (n, p, q)) = n
merged_entries (Err k) = 0

unfoldable pub merged_points : Result (ℕ × ℕ × ℕ) Refusal → ℕ
merged_points (Ok (n, p, q)) = p
merged_points (Err k) = 0

unfoldable pub merged_paths : Result (ℕ × ℕ × ℕ) Refusal → ℕ
merged_paths (Ok (n, p, q)) = q
merged_paths (Err k) = 0

-- what the call answers and leaves
pub record MergeTold (s u lent : Scene) (number : ℕ) (left : Scene) (entries points paths : ℕ) : Type 0 where
  pub number_is : number ≡ answer_number (merge_of s u (sizes_of lent))
  pub slices_are : left ≡ padded_scene (sizes_of lent) (if_merged (merge_of s u (sizes_of lent)) (merged_scene s u))
  pub entries_is : entries ≡ merged_entries (merge_of s u (sizes_of lent))
  pub points_is : points ≡ merged_points (merge_of s u (sizes_of lent))
  pub paths_is : paths ≡ merged_paths (merge_of s u (sizes_of lent))
