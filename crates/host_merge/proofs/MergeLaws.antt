-- What the call of a merge tells. Assumes nothing.
use mathlib.Core.Path.{◌≡◌, ap, ◌∙◌}
use Prim.Native.Nat.{ℕ}
use Rattle.scene.specs.Scenes.{Scene}
use Rattle.scene_merge.specs.MergedScenes.{merged_scene}
use Rattle.query_merge.specs.Merging.{sizes_of, merge_of, if_merged, padded_scene, Merges}
use Rattle.host_merge.specs.MergeCalls.{merged_entries, merged_points, merged_paths, MergeTold}
use Rattle.refusals.specs.declared.Refusal.{Refusal}
use Rattle.std.specs.Prelude.{Result}
use Rattle.refusals.specs.Refusals.{answer_number}

pub merge-told : (s u lent : Scene) (r : Result (ℕ × ℕ × ℕ) Refusal) (left : Scene) → Merges s u lent r left → {n e p q : ℕ} → e ≡ merged_entries r → p ≡ merged_points r → q ≡ merged_paths r → n ≡ answer_number r
    → MergeTold s u lent n left e p q
merge-told s u lent r left h ee ep eq en = record {
  number_is = en ∙ ap answer_number h.answer;
  slices_are = h.slices_are ∙ ap (λ (x : Result (ℕ × ℕ × ℕ) Refusal). padded_scene (sizes_of lent) (if_merged x (merged_scene s u))) h.answer;
  entries_is = ee ∙ ap merged_entries h.answer;
  points_is = ep ∙ ap merged_points h.answer;
  paths_is = eq ∙ ap merged_paths h.answer;
}
