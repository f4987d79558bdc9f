-- The account of a sheet: the lines that are put to step 4 of a draw, drawn entry by drawn entry.
use Rattle.std.specs.Prelude.{◌≡◌, cond, List, [], ◌∷◌, ◌++◌, ℕ, Float, Err, Ok, Result}
use Rattle.geometry.specs.declared.vector.Vector.{Vector}
use Rattle.lists.specs.Lists.{Member}
use Rattle.refusals.specs.declared.Refusal.TheVariants.{View as BadView}
use Rattle.check_parts.specs.Drawn.{drawn}
use Rattle.check_scene.specs.Checks.{check_of}
use Rattle.scene.specs.Scenes.{Scene}
use Rattle.paths.specs.Answers.{next}
use Rattle.paths.specs.Paths.{Paths, no_paths}
use Rattle.view.specs.Views.{view_ok, args_of}
use Rattle.view.specs.declared.View.{View}
use Rattle.draw_collect.specs.Lined.{Lined}
use Rattle.draw_collect.specs.Collect.{chopped_lines, collected_all}
use Rattle.draw_render.specs.Render.{Places, stepping}
use Rattle.draw_entry_lines.specs.EntryLines.{entry_lines}
use Rattle.draw.specs.Draw.{lined_in, drawn_after}
use Rattle.draw.specs.Drawing.{Drawing}
use Rattle.theorem_draws.specs.Draws.{paths_in}
use Rattle.theorem_parts.specs.Following.{followed}
use Rattle.refusals.specs.declared.Refusal.{Refusal}

-- steps 1 and 2 on the lines of some solids
unfoldable pub put_lines : View → Places → (ℕ → Lined) → List ℕ → Result Paths Refusal
put_lines v w lined part =
    next (collected_all (args_of v) w.lines lined part no_paths) (λ (p : Paths). cond (stepping v) (chopped_lines (args_of v) w.lines.chopped w.lines.begins p) (Ok p))

-- the call: numbers 2 to 8 and 14 are the whole scene's, and then the lines that are put to step 4 for some entries
unfoldable pub lines_part : Scene → View → Places → List ℕ → Result Paths Refusal
lines_part s v w part = drawn_after (check_of s) (cond (view_ok v) (put_lines v w (lined_in s) part) (Err BadView))

-- Of a draw that is answered, the lines that are put to step 4 are those that the call answers of all drawn entries.
abbrev pub LinesOfDraw : Type 0
LinesOfDraw = (t : Float) (s : Scene) (v : View) (w : Places) (q : Paths) (D : Drawing t s v w q) → lines_part s v w (drawn s.marks) ≡ Ok D.lines

-- The lines of some entries fall into those of any two parts, one after the other, each answered in the same places; so do their paths.
abbrev pub LinesSplit : Type 0
LinesSplit =
    (s : Scene) (v : View) (w : Places) (xs ys : List ℕ) (l : Paths) → lines_part s v w (xs ++ ys) ≡ Ok l
    → (a b : Paths) × (lines_part s v w xs ≡ Ok a) × (lines_part s v w ys ≡ Ok b) × (l ≡ followed a b) × (paths_in l ≡ paths_in a ++ paths_in b)

-- Places change no lines.
abbrev pub LinesAlike : Type 0
LinesAlike = (s : Scene) (v : View) (w u : Places) (part : List ℕ) (a b : Paths) → lines_part s v w part ≡ Ok a → lines_part s v u part ≡ Ok b → a ≡ b

-- a path of the lines of entry i
pub record PathOf (s : Scene) (v : View) (w : Places) (i : ℕ) (path : List Vector) : Type 0 where
  pub lines : Paths
  pub are : lines_part s v w (i ∷ []) ≡ Ok lines
  pub among : Member path (paths_in lines)

-- No line without its part: each path that is put to step 4 of a draw that is answered is one of the lines of a drawn entry, and each of those is put, in whatever places they are asked for.
pub record LinesAccounted : Type 0 where
  pub owned : (t : Float) (s : Scene) (v : View) (w : Places) (q : Paths) (D : Drawing t s v w q) (path : List Vector) → Member path (paths_in D.lines) → (i : ℕ) × Member i (drawn s.marks) × PathOf s v w i path
  pub put : (t : Float) (s : Scene) (v : View) (w : Places) (q : Paths) (D : Drawing t s v w q) (path : List Vector) (u : Places) (i : ℕ) → Member i (drawn s.marks) → PathOf s v u i path → Member path (paths_in D.lines)

-- The public call `draw_entry_lines::entry_lines` answers these lines: at step 0 it copies them, which changes none.
abbrev pub LinesCalled : Type 0
LinesCalled = (s : Scene) (v : View) (w : Places) (part : List ℕ) (q : Paths) → entry_lines s v w.lines part ≡ Ok q → lines_part s v w part ≡ Ok q
