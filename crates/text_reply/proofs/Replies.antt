-- A text is answered by what it stands for. Assumes nothing.
use Prim.Native.Nat.{ℕ, ◌*◌}
use mathlib.Core.Path.{◌≡◌, sym}
use mathlib.Core.List.{List}
use lib.ListN.{take}
use lib.Ieee.{Float}
use Rattle.view.specs.declared.View.{View}
use Rattle.scene.specs.Scenes.{scene_of}
use Rattle.text_scene.specs.Texts.{yard_of}
use Rattle.text_scene.specs.Readings.{reading_as}
use Rattle.text_drawing.specs.Drawings.{refused_text}
use Rattle.text_reply.specs.Reply.{drawn_text, read_text, reply_of}
use Rattle.std.specs.Prelude.{None, Option, Some}

-- what was read, and what the arrays hold then
module _ (text : List ℕ) (r : Option (View × ℕ × ℕ × ℕ)) (ns : List Float) (ms : List ℕ) (ps : List Float) (ss os : List ℕ) (is : reading_as r ns ms ps ss os ≡ yard_of text) where
  pub reply-refused : r ≡ None → refused_text 1 ≡ reply_of text
  unfolding reply_of read_text reading_as
  reply-refused f = sym (rw (← is, f))

  pub reply-drawn : (v : View) (e p l : ℕ) → r ≡ Some (v, e, p, l) → drawn_text (scene_of (take (e * 16) ns) (take (e * 4) ms) (take (p * 3) ps) (take l ss) (take l os)) v ≡ reply_of text
  unfolding reply_of read_text reading_as
  reply-drawn v e p l f = sym (rw (← is, f))
