-- A drawing hangs on the drawn values in their order, not on the numbers that name them.
use Rattle.std.specs.Prelude.{ℕ, ◌≡◌, List, map, Float}
use Rattle.view.specs.declared.View.{View}
use Rattle.draw_collect.specs.Lined.{Lined}
use Rattle.draw_render.specs.Render.{Places}
use Rattle.draw.specs.Draw.{render}

-- Two lists of entries with the same drawn values in the same order have the same drawing: at any threshold and view, in any places.
abbrev pub SameDrawing : Type 0
SameDrawing =
    (t : Float) (v : View) (w : Places) (at at' : ℕ → Lined) (ids ids' : List ℕ)
    → map at ids ≡ map at' ids' → render t v w at ids ≡ render t v w at' ids'
