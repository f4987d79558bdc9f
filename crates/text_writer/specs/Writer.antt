-- Document 02's canonical writer: the text of a view and an accepted scene, or why there is none.
use Rattle.std.specs.Prelude.{ℕ, cond, List, Err, Ok, Result}
use Rattle.scene.specs.Scenes.{Scene}
use Rattle.refusals.specs.declared.Refusal.TheVariants.{View as BadView}
use Rattle.check_scene.specs.Checks.{check_of}
use Rattle.view.specs.Views.{view_ok}
use Rattle.view.specs.declared.View.{View}
use Rattle.text_drawing.specs.Drawings.{fitting}
use Rattle.text_canonical.specs.Canonical.{canonical_text}
use Rattle.refusals.specs.declared.Refusal.{Refusal}

unfoldable pub written_after : Result ℕ Refusal → Result (List ℕ) Refusal → Result (List ℕ) Refusal
written_after (Ok n) a = a
written_after (Err k) a = Err k

-- the scene's own number, then 8 of the view, then 13 where so many bytes are too few for the text
unfoldable pub written_of : ℕ → Scene → View → Result (List ℕ) Refusal
written_of room s v = written_after (check_of s) (cond (view_ok v) (fitting room (canonical_text v s)) (Err BadView))
