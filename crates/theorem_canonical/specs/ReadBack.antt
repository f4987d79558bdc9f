-- Request (xii): if the canonical text of an accepted scene fits what `yard` takes, the scene read back draws to the same bits at the same threshold and slice lengths.
use Rattle.std.specs.Prelude.{ℕ, ◌≡◌, [], Float, Ok}
use Rattle.view.specs.declared.View.{View}
use Rattle.scene.specs.Scenes.{Scene}
use Rattle.check_scene.specs.Checks.{check_of}
use Rattle.draw_render.specs.Render.{Places}
use Rattle.draw.specs.Draw.{draw_with}
use Rattle.text_tokens.specs.Tokens.{got}
use Rattle.text_scene.specs.Texts.{yard_of}
use Rattle.text_canonical.specs.Forms.{forms_of}
use Rattle.text_canonical.specs.Canonical.{view_numbers, canonical_text}
use Rattle.text_canonical.specs.Writable.{F64s, FitsYard}

-- each number is one that an f64 can be, as those that a program is handed are
pub record InF64 (v : View) (s : Scene) : Type 0 where
  pub view : F64s (view_numbers v)
  pub numbers : F64s s.numbers
  pub points : F64s s.points

-- u is judged as s is, has the same canonical text, and draws to the same answer, point by point: at every threshold, and in slices of every length, which w holds
pub record DrawsAlike (v : View) (s u : Scene) : Type 0 where
  pub judged : check_of u ≡ check_of s
  pub printed : canonical_text v u ≡ canonical_text v s
  pub drawn : (t : Float) (w : Places) → draw_with t u v w ≡ draw_with t s v w

-- what is read back of the canonical text of an accepted scene: the same view, and a scene that draws alike
abbrev pub ReadBackAlike : Type 0
ReadBackAlike =
    (v : View) (s : Scene) (n : ℕ) → check_of s ≡ Ok n → InF64 v s → FitsYard v (forms_of s)
    → (u : Scene) × (yard_of (canonical_text v s) ≡ got (record { view = v; scene = u }) []) × DrawsAlike v s u
