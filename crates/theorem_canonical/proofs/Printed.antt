-- An accepted text already in canonical form is printed as it came: the proof. Assumes nothing.
use Prim.Native.Nat.{ℕ}
use mathlib.Core.Path.{◌≡◌, refl, sym, ap, ◌∙◌, subst}
use mathlib.Core.Bool.{true}
use mathlib.Core.List.{List, []}
use Rattle.view.specs.declared.View.{View}
use Rattle.scene.specs.Scenes.{Scene, entries_of}
use Rattle.check_parts.specs.Parts.{parts_ok}
use Rattle.check_sound.specs.Passing.{Passing}
use Rattle.check_sound.proofs.Passing.{accepted-passes}
use Rattle.lists.specs.Lists.{Each}
use Rattle.text_tokens.specs.Tokens.{got}
use Rattle.text_scene.specs.Texts.{Yard, empty_scene, yard_of}
use Rattle.text_canonical.specs.Forms.{Form, forms_of}
use Rattle.text_canonical.specs.Canonical.{forms_text, canonical_text}
use Rattle.text_canonical.specs.Writable.{Writable}
use Rattle.text_canonical.proofs.Added.{added_all}
use Rattle.text_canonical.proofs.Again.{empty-sane, forms-again, low-all}
use Rattle.text_canonical.proofs.Places.{text-read}
use Rattle.theorem_canonical.specs.Printed.{InForm, PrintedAsItCame}

pub printed-as-it-came : PrintedAsItCame
printed-as-it-came text y n F e is =
    let v = F.view in
    let fs = F.forms in
    let q : y ≡ record { view = v; scene = added_all fs empty_scene } = text-read v fs y F.numbers F.writable (ap yard_of (sym F.is) ∙ e) in
    let ok : parts_ok (added_all fs empty_scene).marks (entries_of (added_all fs empty_scene)) ≡ true = subst (λ (z : Yard). parts_ok z.scene.marks (entries_of z.scene) ≡ true) q (accepted-passes y.scene n is).names in
    ap (λ (z : Yard). canonical_text z.view z.scene) q ∙ ap (forms_text v) (forms-again fs F.writable (low-all fs empty_scene empty-sane F.writable ok)) ∙ sym F.is
