-- Document 02's request (xii), of the merged scene: it is accepted, holds the solids of both scenes, and covers and hides what either does.
use Rattle.std.specs.Prelude.{ℕ, ◌+◌, ◌<◌, ◌≤◌, ◌≡◌, ◌⊎◌, ◌++◌, map, Ok, Result}
use Rattle.geometry.specs.declared.vector.Vector.{Vector}
use Rattle.scene.specs.Scenes.{Scene, entries_of}
use Rattle.scene_shape.specs.Shapes.{Shape}
use Rattle.check_parts.specs.Drawn.{drawn}
use Rattle.check_scene.specs.Checks.{check_of}
use Rattle.theorem_solids.specs.Same.{SameSolid}
use Rattle.scene_merge.specs.MergedScenes.{merged_scene}
use Rattle.tree_sight.specs.Sights.{Answered}
use Rattle.tree_sight.specs.declared.Sight.{Sight}
use Rattle.tree_sight.specs.declared.Sight.TheVariants.{Hidden}
use Rattle.theorem_demand3.specs.Demand3.{Covers, Draws, Premise, Answers}
use Rattle.refusals.specs.declared.Refusal.{Refusal}

-- two accepted scenes, of at most 1,024 entries together
pub record BothAccepted (s u : Scene) : Type 0 where
  pub first : ℕ
  pub second : ℕ
  pub first_accepted : check_of s ≡ Ok first
  pub second_accepted : check_of u ≡ Ok second
  pub few : entries_of s + entries_of u ≤ 1024

-- The merged scene is accepted, with as many drawn entries as both have.
abbrev pub MergedAccepted : Type 0
MergedAccepted = (s u : Scene) (B : BothAccepted s u) → check_of (merged_scene s u) ≡ Ok (B.first + B.second)

-- It draws the first's drawn entries, then the second's, raised.
abbrev pub MergedDrawn : Type 0
MergedDrawn = (s u : Scene) → BothAccepted s u → drawn (merged_scene s u).marks ≡ drawn s.marks ++ map (λ (j : ℕ). entries_of s + j) (drawn u.marks)

-- It holds each solid of the first at its index, and each of the second at its raised index.
pub record SameThere (s u m : Scene) : Type 0 where
  pub of_first : (i : ℕ) → i < entries_of s → SameSolid s.numbers s.marks m.numbers m.marks i i
  pub of_second : (j : ℕ) → j < entries_of u → SameSolid u.numbers u.marks m.numbers m.marks j (entries_of s + j)

abbrev pub MergedSame : Type 0
MergedSame = (s u : Scene) → BothAccepted s u → SameThere s u (merged_scene s u)

-- a solid that the scene draws covers the point
abbrev pub CoveredIn : Scene → Vector → Vector → Type 0
CoveredIn s eye point = (solid : Shape) × Draws s solid × Covers solid eye point

-- A point covered in either scene is covered in the merged one.
abbrev pub MergedCovers : Type 0
MergedCovers = (s u : Scene) → BothAccepted s u → (eye point : Vector) → CoveredIn s eye point ⊎ CoveredIn u eye point → CoveredIn (merged_scene s u) eye point

-- And hidden there on demand 3's premise, for the eye test alone and in a draw alike.
abbrev pub MergedHides : Type 0
MergedHides =
    (s u : Scene) → BothAccepted s u → (eye point : Vector) → CoveredIn s eye point ⊎ CoveredIn u eye point → Premise eye point
    → (a : Result Sight Refusal) → Answered a → Answers (merged_scene s u) eye point a → a ≡ Ok Hidden
