-- What a record gives to its call from word k on.
use Rattle.std.specs.Prelude.{List, ℕ, ◌+◌, Option}
use Rattle.geometry.specs.Boxes.{box_of}
use Rattle.geometry.specs.declared.bounding_box.BBox.{BBox}
use Rattle.rows.specs.Entries.{numbers_of}
use Rattle.rows.specs.declared.Numbers.{Numbers}
use Rattle.scene.specs.Entries.{simple_of}
use Rattle.test_words.specs.Words.{word_at, point_at, floats_from}
use Rattle.solids.specs.declared.solid.Solid.{Solid}

unfoldable pub box_from : List ℕ → ℕ → BBox
box_from s k = box_of (point_at s k) (point_at s (k + 3))

-- 16 numbers
unfoldable pub numbers_from : List ℕ → ℕ → Numbers
numbers_from s k = numbers_of (floats_from s k 16 16)

-- a kind as a whole number, and 16 numbers
unfoldable pub solid_from : List ℕ → ℕ → Option Solid
solid_from s k = simple_of (word_at s k) (numbers_from s (k + 1))
