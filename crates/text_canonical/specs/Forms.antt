-- A form as a value: what its text says, without indices. And the forms of a scene (document 02, xii).
use Rattle.std.specs.Prelude.{ℕ, zero, suc, cond, List, map, eqb, take, Float}
use Rattle.geometry.specs.declared.vector.Vector.{Vector}
use Rattle.rows.specs.Rows.{row}
use Rattle.rows.specs.declared.Marks.{Marks}
use Rattle.scene.specs.Entries.{marks_at, stripe_count}
use Rattle.scene.specs.Scenes.{Scene}
use Rattle.check_parts.specs.Owners.{is_round}
use Rattle.check_parts.specs.Drawn.{drawn}
use Rattle.paths.specs.Paths.{paths_of}
use Rattle.paths.specs.Ends.{all_points}
use Rattle.draw_lines.specs.Lines.{own_paths}
use Rattle.text_heads.specs.Heads.{measures}

-- A sphere, cylinder or cone, open or closed: its kind, stripe count, numbers and lines. A cube: its stripes and numbers. A triangle. A placed part. A cut: its operation and parts. Nothing.
pub data Form : Type 0 where
  round_form : ℕ → ℕ → List Float → List (List Vector) → Form
  cube_form : ℕ → List Float → Form
  triangle_form : List Float → Form
  placed_form : List Float → Form → Form
  cut_form : ℕ → Form → Form → Form
  no_form : Form

-- the handed-in lines of entry i
abbrev pub lines_at : Scene → ℕ → List (List Vector)
lines_at s i = own_paths i (paths_of (all_points s.points) s.starts) s.owners

-- what an entry stands for, by its marks, its 16 numbers and its lines; `sub` gives the forms of its parts. Unused marks and numbers are left out.
unfoldable pub form_of : Marks → List Float → List (List Vector) → (ℕ → Form) → Form
form_of m xs ls sub =
    cond (is_round m.kind) (round_form m.kind (stripe_count m) (take (measures m.kind) xs) ls)
    (cond (eqb m.kind 4) (cube_form m.detail (take 6 xs))
    (cond (eqb m.kind 5) (triangle_form (take 9 xs))
    (cond (eqb m.kind 6) (placed_form (take 16 xs) (sub m.first))
    (cond (eqb m.kind 7) (cut_form m.detail (sub m.first) (sub m.second))
    no_form))))

-- the form of entry i of a scene, with parts nested at most d deep
unfoldable pub form_at : ℕ → Scene → ℕ → Form
form_at zero s i = no_form
form_at (suc d) s i = form_of (marks_at s.marks i) (row 16 i s.numbers) (lines_at s i) (form_at d s)

-- the drawn entries in order, each as a form: an accepted scene nests at most 8 deep
abbrev pub forms_of : Scene → List Form
forms_of s = map (form_at 8 s) (drawn s.marks)
