-- What the code's answers stand for: a cursor with the five slices stands for a scene and the tokens that are left.
use Rattle.std.specs.Prelude.{ℕ, ◌*◌, ◌≤◌, List, length, take, Float, None, Option, Some}
use Rattle.geometry.specs.declared.vector.Vector.{Vector}
use Rattle.view.specs.declared.View.{View}
use Rattle.scene.specs.Scenes.{Scene, scene_of}
use Rattle.text_tokens.specs.Tokens.{left, Got, no, got}
use Rattle.text_heads.specs.declared.Cursor.{Cursor}
use Rattle.text_heads.specs.declared.Head.{Head}

unfoldable pub opened_as : List ℕ → Option (Head × ℕ) → Got Head
opened_as s (Some (h, n)) = got h (left s n)
opened_as s None = no

unfoldable pub spot_as : List ℕ → Option (Vector × ℕ) → Got Vector
spot_as s (Some (p, n)) = got p (left s n)
spot_as s None = no

unfoldable pub viewed_as : List ℕ → Option (View × ℕ) → Got View
viewed_as s (Some (v, n)) = got v (left s n)
viewed_as s None = no

-- the first n numbers of a row
unfoldable pub numbers_as : List ℕ → ℕ → List Float → Option ℕ → Got (List Float)
numbers_as s n xs (Some e) = got (take n xs) (left s e)
numbers_as s n xs None = no

-- k points are held
unfoldable pub run_as : List ℕ → Option (ℕ × ℕ) → List Float → List ℕ → List Float → List ℕ → List ℕ → Got Scene
run_as s (Some (n, k)) ns ms ps ss os = got (scene_of ns ms (take (k * 3) ps) ss os) (left s n)
run_as s None ns ms ps ss os = no

unfoldable pub WithinRun : Option (ℕ × ℕ) → Type 0
WithinRun (Some (n, k)) = k ≤ 2048
WithinRun None = Unit {0}

-- the scene that the slices hold up to a cursor
unfoldable pub scene_upto : Cursor → List Float → List ℕ → List Float → List ℕ → List ℕ → Scene
scene_upto c ns ms ps ss os = scene_of (take (c.entries * 16) ns) (take (c.entries * 4) ms) (take (c.points * 3) ps) (take c.lines ss) (take c.lines os)

unfoldable pub next_as : List ℕ → Option Cursor → List Float → List ℕ → List Float → List ℕ → List ℕ → Got Scene
next_as s (Some c) ns ms ps ss os = got (scene_upto c ns ms ps ss os) (left s c.at)
next_as s None ns ms ps ss os = no

-- the cursor is within the places
pub record CursorWithin (c : Cursor) : Type 0 where
  pub entries : c.entries ≤ 512
  pub points : c.points ≤ 2048
  pub lines : c.lines ≤ 2048

unfoldable pub WithinNext : Option Cursor → Type 0
WithinNext (Some c) = CursorWithin c
WithinNext None = Unit {0}

-- the five slices have the places of `yard`
pub record Sized (ns : List Float) (ms : List ℕ) (ps : List Float) (ss os : List ℕ) : Type 0 where
  pub numbers : 8192 ≤ length ns
  pub marks : 2048 ≤ length ms
  pub points : 6144 ≤ length ps
  pub starts : 2048 ≤ length ss
  pub owners : 2048 ≤ length os
