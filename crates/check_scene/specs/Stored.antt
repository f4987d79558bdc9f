-- The places that the check of a scene needs, and what stands in them when the scene is accepted.
use Rattle.std.specs.Prelude.{ℕ, ◌*◌, ◌≤◌, ◌≡◌, List, length, take, Float}
use Rattle.rows.specs.Rows.{view}
use Rattle.rows.specs.Points.{box_of_row}
use Rattle.rows.specs.Entries.{numbers_of}
use Rattle.check_parts.specs.Drawn.{drawn}
use Rattle.lists.specs.Lists.{list_to}
use Rattle.check_scene.specs.Placings.{inverse_at}
use Rattle.check_scene.specs.Extents.{own_box}
use Rattle.scene.specs.Scenes.{entries, Scene, entries_of}

-- places for an inverse, a box and a number for each entry, unless there are more entries than a scene may have
abbrev pub RoomFor : List ℕ → List Float → List Float → List ℕ → Type 0
RoomFor marks inverses boxes listed = entries marks ≤ 1024 → (entries marks * 16 ≤ length inverses) × ((entries marks * 6 ≤ length boxes) × (entries marks ≤ length listed))

pub record Held (s : Scene) (n : ℕ) (inverses boxes : List Float) (listed : List ℕ) : Type 0 where
  pub inverted : view 16 numbers_of (entries_of s) inverses ≡ list_to (inverse_at s.numbers s.marks) (entries_of s)
  pub boxed : view 6 box_of_row (entries_of s) boxes ≡ list_to (own_box s.numbers s.marks) (entries_of s)
  pub few : entries_of s ≤ 1024
  pub count : n ≡ length (drawn s.marks)
  pub listed_is : take n listed ≡ drawn s.marks
