-- Request (xii): an accepted text already in canonical form is printed as it came.
use Rattle.std.specs.Prelude.{ℕ, ◌≡◌, List, [], Ok}
use Rattle.view.specs.declared.View.{View}
use Rattle.check_scene.specs.Checks.{check_of}
use Rattle.lists.specs.Lists.{Each}
use Rattle.text_tokens.specs.Tokens.{got}
use Rattle.text_scene.specs.Texts.{Yard, yard_of}
use Rattle.text_canonical.specs.Forms.{Form}
use Rattle.text_canonical.specs.Canonical.{view_numbers, forms_text, canonical_text}
use Rattle.text_canonical.specs.Writable.{F64s, Writable}

-- a text in canonical form: the text of some view and some forms that can be written, however deep
pub record InForm (text : List ℕ) : Type 0 where
  pub view : View
  pub forms : List Form
  pub numbers : F64s (view_numbers view)
  pub writable : Each Writable forms
  pub is : text ≡ forms_text view forms

-- `yard` reads the text, and the scene that it reads is accepted: then the writer prints the text as it came
abbrev pub PrintedAsItCame : Type 0
PrintedAsItCame =
    (text : List ℕ) (y : Yard) (n : ℕ) → InForm text → yard_of text ≡ got y [] → check_of y.scene ≡ Ok n
    → canonical_text y.view y.scene ≡ text
