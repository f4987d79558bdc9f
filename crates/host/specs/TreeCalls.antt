-- Document 01's number and values for each case of an answer on a tree: 0, or the number of the refusal, with 0 and false.
use Rattle.std.specs.Prelude.{ℕ, ◌≡◌, Bool, true, false, List, length, Float, Err, None, Ok, Option, Result, Some}
use Rattle.floats.specs.Arith.{zero_f}
use Rattle.rows.specs.Rows.{padded}
use Rattle.scene.specs.Scenes.{Scene}
use Rattle.tree_nodes.specs.Nodes.{places_of, box_rows, mark_rows}
use Rattle.query_solid.specs.Answers.{distance, met}
use Rattle.query_scene.specs.Queries.{build_of, if_built, scene_nodes, scene_order}
use Rattle.refusals.specs.Refusals.{number_of, answer_number}
use Rattle.tree_sight.specs.declared.Sight.{Sight}
use Rattle.tree_sight.specs.declared.Sight.TheVariants.{Visible, Hidden}
use Rattle.geometry.specs.declared.hit.Hit.{Hit}
use Rattle.tree_walk.specs.declared.Nearest.{Nearest}
use Rattle.refusals.specs.declared.Refusal.{Refusal}

unfoldable pub node_count : Result ℕ Refusal → ℕ
node_count (Ok n) = n
node_count (Err k) = 0

-- yes, and neither no nor a refusal
unfoldable pub in_sight : Result Sight Refusal → Bool
in_sight (Ok Visible) = true
in_sight (Ok Hidden) = false
in_sight (Err k) = false

-- what a build answers and leaves: its number, the three slices by what they held before, and how many nodes there are
abbrev pub TreeTold : Scene → List Float → List ℕ → List ℕ → ℕ → List Float → List ℕ → List ℕ → ℕ → Type 0
TreeTold s boxes₀ marks₀ order₀ number boxes marks order count =
    let b = build_of s (places_of boxes₀ marks₀) (length order₀) in
    (number ≡ answer_number b)
    × ((boxes ≡ padded zero_f (length boxes₀) (box_rows (if_built b (scene_nodes s))))
    × ((marks ≡ padded 0 (length marks₀) (mark_rows (if_built b (scene_nodes s))))
    × ((order ≡ padded 0 (length order₀) (if_built b (scene_order s)))
    × (count ≡ node_count b))))

-- what a call tells of a hit, and of the eye test
abbrev pub HitTold : Result Hit Refusal → ℕ → Float → Bool → Type 0
HitTold h number t ok = (number ≡ answer_number h) × ((t ≡ distance h) × (ok ≡ met h))

abbrev pub SightTold : Result Sight Refusal → ℕ → Bool → Type 0
SightTold a number seen = (number ≡ answer_number a) × (seen ≡ in_sight a)

-- request (i): of the nearest hit with the entry that it names, and of who hides a point, FFFFFFFF (hexadecimal) where nobody does
unfoldable pub NearestTold : Result Nearest Refusal → ℕ → Float → Bool → ℕ → Type 0
NearestTold (Ok b) number t ok entry = (number ≡ 0) × ((t ≡ b.hit.t) × ((ok ≡ b.hit.ok) × (entry ≡ b.entry)))
NearestTold (Err k) number t ok entry = (number ≡ number_of k) × ((t ≡ zero_f) × ((ok ≡ false) × (entry ≡ 0)))

unfoldable pub NameTold : Result (Option ℕ) Refusal → ℕ → ℕ → Type 0
NameTold (Ok None) number entry = (number ≡ 0) × (entry ≡ 0xffff_ffff)
NameTold (Ok (Some i)) number entry = (number ≡ 0) × (entry ≡ i)
NameTold (Err k) number entry = (number ≡ number_of k) × (entry ≡ 0)
