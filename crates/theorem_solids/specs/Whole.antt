-- A scene that passes numbers 3 and 4 is read without `none`.
use Rattle.std.specs.Prelude.{ℕ, ◌*◌, ◌<◌, ◌≤◌, ◌≡◌, List, Bool, true, false, ◌&&◌, length, Float}
use Rattle.scene.specs.Entries.{marks_at}
use Rattle.scene_shape.specs.Shapes.{Shape, none, simple, placed, cut, solid_of}
use Rattle.check_parts.specs.Parts.{parts_ok}
use Rattle.scene.specs.Scenes.{entries}
use Rattle.lists.specs.Lists.{all_of}
use Rattle.check_measures.specs.Values.{known}

-- no place of the solid is `none`
unfoldable pub without_none : Shape → Bool
without_none none = false
without_none (simple s) = true
without_none (placed m v s) = without_none s
without_none (cut o a b) = without_none a && without_none b

-- Each entry of a scene that passes numbers 3 and 4, with 16 numbers for each entry, is read without `none`.
abbrev pub ReadWhole : Type 0
ReadWhole =
    (ns : List Float) (ms : List ℕ) → entries ms * 16 ≤ length ns → all_of (λ i. known (marks_at ms i)) (entries ms) ≡ true → parts_ok ms (entries ms) ≡ true
    → (i : ℕ) → i < entries ms → without_none (solid_of ns ms i) ≡ true
