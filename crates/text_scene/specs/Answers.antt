-- What a text is answered with, and what the lent arrays hold then.
use Rattle.std.specs.Prelude.{ℕ, ◌/◌, length, None, Option, Some}
use Rattle.scene.specs.Scenes.{Scene, entries_of}
use Rattle.text_tokens.specs.Tokens.{Got, no, got}
use Rattle.text_scene.specs.Texts.{Yard, empty_scene}
use Rattle.view.specs.declared.View.{View}

-- document 01's number: 1 where the text is refused, 0 where it is not
unfoldable pub reading_number : Option (View × ℕ × ℕ × ℕ) → ℕ
reading_number (Some (v, e, p, l)) = 0
reading_number None = 1

-- the view, and how many entries, points and lines there are
unfoldable pub reading_of : Got Yard → Option (View × ℕ × ℕ × ℕ)
reading_of (got y ts) = Some (y.view, (entries_of y.scene), (length y.scene.points / 3), (length y.scene.starts))
reading_of no = None

-- what was read; nothing after a refusal
unfoldable pub scene_read : Got Yard → Scene
scene_read (got y ts) = y.scene
scene_read no = empty_scene
