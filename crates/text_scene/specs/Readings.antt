-- What the code's answers stand for: a line's place stands for its tokens and the lines after it, counts with the five slices for a scene.
use Rattle.std.specs.Prelude.{ℕ, ◌+◌, ◌*◌, ◌≤◌, List, [], ◌∷◌, length, take, Float, None, Option, Some}
use Rattle.scene.specs.Scenes.{Scene, scene_of}
use Rattle.text_tokens.specs.Tokens.{Token, left, part, Got, no, got}
use Rattle.text_heads.specs.Cursors.{scene_upto}
use Rattle.text_scene.specs.Texts.{Yard, lines_left}
use Rattle.text_heads.specs.declared.Cursor.{Cursor}
use Rattle.view.specs.declared.View.{View}

unfoldable pub line_as : List ℕ → Option (ℕ × ℕ) → List (List Token)
line_as s (Some (a, e)) = left (part a e s) 0 ∷ lines_left s (e + 1)
line_as s None = []

-- the line lies from `at` on in a text of n bytes
unfoldable pub LineWithin : ℕ → ℕ → Option (ℕ × ℕ) → Type 0
LineWithin n at (Some (a, e)) = (at ≤ a) × ((a ≤ e) × (e ≤ n))
LineWithin n at None = Unit {0}

-- no token is left
unfoldable pub scene_as : Option Cursor → List Float → List ℕ → List Float → List ℕ → List ℕ → Got Scene
scene_as (Some c) ns ms ps ss os = got (scene_upto c ns ms ps ss os) []
scene_as None ns ms ps ss os = no

unfoldable pub reading_as : Option (View × ℕ × ℕ × ℕ) → List Float → List ℕ → List Float → List ℕ → List ℕ → Got Yard
reading_as (Some (v, e, p, l)) ns ms ps ss os = got (record { view = v; scene = scene_of (take (e * 16) ns) (take (e * 4) ms) (take (p * 3) ps) (take l ss) (take l os) }) []
reading_as None ns ms ps ss os = no

-- the counts are within the places of `yard`
unfoldable pub WithinReading : Option (View × ℕ × ℕ × ℕ) → Type 0
WithinReading (Some (v, e, p, l)) = (e ≤ 512) × ((p ≤ 2048) × (l ≤ 2048))
WithinReading None = Unit {0}

-- the slices hold as much
unfoldable pub ReadingFits : Option (View × ℕ × ℕ × ℕ) → List Float → List ℕ → List Float → List ℕ → List ℕ → Type 0
ReadingFits (Some (v, e, p, l)) ns ms ps ss os = (e * 16 ≤ length ns) × ((e * 4 ≤ length ms) × ((p * 3 ≤ length ps) × ((l ≤ length ss) × (l ≤ length os))))
ReadingFits None ns ms ps ss os = Unit {0}
