-- A drawn value: a solid with the lines of its simple parts.
use Rattle.std.specs.Prelude.{cond, List, ℕ, zero, suc, ◌/◌, length, ltb, Float, None, Option, Some}
use Rattle.geometry.specs.declared.vector.Vector.{Vector}
use Rattle.matrix.specs.declared.Matrix.{Matrix}
use Rattle.solids.specs.declared.solid.Solid.{Solid}
use Rattle.scene.specs.Entries.{marks_at}
use Rattle.scene.specs.declared.entry.Op.{Op}
use Rattle.scene.specs.declared.entry.Entry.{Entry}
use Rattle.scene.specs.declared.entry.Entry.TheVariants.{Simple, Placed, Cut}
use Rattle.scene_shape.specs.Shapes.{Shape, none, simple, placed, cut}
use Rattle.paths.specs.Paths.{paths_of}
use Rattle.paths.specs.Ends.{all_points}
use Rattle.draw_lines.specs.Lines.{own_paths}
use Rattle.draw_solids.specs.Lines.{solid_paths}

pub data Lined : Type 0 where
  no_lines : Lined
  lined : Solid → List (List Vector) → Lined
  placed_lines : Matrix → Matrix → Lined → Lined
  cut_lines : Op → Lined → Lined → Lined

-- the solid alone
unfoldable pub bare : Lined → Shape
bare no_lines = none
bare (lined s ps) = simple s
bare (placed_lines m v x) = placed m v (bare x)
bare (cut_lines o x y) = cut o (bare x) (bare y)

-- an entry whose parts are read by f; `own` gives the lines of a simple solid
unfoldable pub lined_of : (ℕ → Lined) → (Solid → List (List Vector)) → Option Entry → Lined
lined_of f own (Some (Simple s)) = lined s (own s)
lined_of f own (Some (Placed m v k)) = placed_lines m v (f k)
lined_of f own (Some (Cut o a b)) = cut_lines o (f a) (f b)
lined_of f own None = no_lines

-- the drawn value at entry i, nested at most so deep, where `at` gives the entries and `own` the lines of each
unfoldable pub read_lined : ℕ → (ℕ → Option Entry) → (ℕ → Solid → List (List Vector)) → ℕ → Lined
read_lined zero at own i = no_lines
read_lined (suc d) at own i = lined_of (read_lined d at own) (own i) (at i)

-- an entry's detail, 0 where there is no entry
unfoldable pub detail_at : List ℕ → ℕ → ℕ
detail_at marks i = cond (ltb i (length marks / 4)) (marks_at marks i).detail 0

-- the lines of entry i of a scene, if it is a simple solid: by its detail, and a round one's as they were handed in
unfoldable pub own_lines : List ℕ → List Float → List ℕ → List ℕ → ℕ → Solid → List (List Vector)
own_lines marks points starts owners i s = solid_paths s (detail_at marks i) (own_paths i (paths_of (all_points points) starts) owners)
