-- The scene that is read of the text of forms: its drawn entries are these forms, in order. Assumes empty_scene.
use Prim.Native.Nat.{ℕ, ◌≤◌, ◌<◌}
use mathlib.Core.Path.{◌≡◌, refl, sym, ap, ap₂, ◌∙◌}
use mathlib.Core.Bool.{true}
use mathlib.Core.List.{List, [], ◌∷◌, ◌++◌, map, append_assoc, append-nil}
use native.Mathlib.Omega.{arith}
use Rattle.check_parts.specs.Parts.{parts_ok}
use Rattle.check_parts.specs.Drawn.{unnamed, drawn}
use Rattle.scene.specs.Scenes.{Scene, entries_of}
use Rattle.lists.specs.Lists.{Each}
use Rattle.text_forms.specs.Forms.{last}
use Rattle.text_scene.specs.Texts.{empty_scene}
use Rattle.text_canonical.specs.Forms.{Form, form_at, forms_of}
use Rattle.text_canonical.specs.Writable.{Writable}
use Rattle.text_canonical.proofs.Added.{added, added_all, deep_of}
use Rattle.text_canonical.proofs.Readback.{Sane, Extends, extends-refl, extends-trans, back, form-kept, some-entries}
use Rattle.text_canonical.proofs.Naming.{grouped, drawn-more, ok-back, low_of}

-- nested at most 8 deep
abbrev pub AllLow : List Form → Type 0
AllLow fs = Each (λ (f : Form). deep_of f ≤ 8) fs

-- the last entry of each
unfoldable pub roots : List Form → Scene → List ℕ
roots [] s = []
roots (f ∷ fs) s = last (added f s) ∷ roots fs (added f s)

pub record After (fs : List Form) (s : Scene) : Type 0 where
  pub sane : Sane (added_all fs s)
  pub ok : parts_ok (added_all fs s).marks (entries_of (added_all fs s)) ≡ true
  pub extends : Extends s (added_all fs s)
  pub drawn_are : drawn (added_all fs s).marks ≡ drawn s.marks ++ roots fs s
  pub forms-are : map (form_at 8 (added_all fs s)) (roots fs s) ≡ fs

pub after : (fs : List Form) (s : Scene) → Sane s → Each Writable fs → AllLow fs → parts_ok s.marks (entries_of s) ≡ true → After fs s
unfolding added_all Each roots
after [] s S g l ok = record { sane = S; ok = ok; extends = extends-refl s; drawn_are = sym (append-nil (drawn s.marks)); forms-are = refl }
after (f ∷ fs) s S g l ok =
    let a = added f s in
    let b = back f 8 s S g.0 l.0 in
    let G = grouped f s S g.0 ok l.0 in
    let r = after fs a b.sane g.1 l.1 G.ok in
    let m : entries_of s < entries_of a = omega (arith, b.count, some-entries f g.0) in
    record {
      sane = r.sane;
      ok = r.ok;
      extends = extends-trans s a (added_all fs a) b.extends r.extends;
      drawn_are = r.drawn_are ∙ ap (λ (x : List ℕ). x ++ roots fs a) (drawn-more (deep_of f) s a m G) ∙ append_assoc (drawn s.marks) (last a ∷ []) (roots fs a);
      forms-are = ap₂ (λ (x : Form) (xs : List Form). x ∷ xs) (form-kept 8 a (added_all fs a) b.sane r.extends (last a) (omega (arith, m)) ∙ b.is) r.forms-are;
    }

-- ---- from nothing
pub empty-sane : Sane empty_scene
empty-sane = record { marks = refl; numbers = refl; points = refl; owners = refl; low = omega arith; owned = tt; parts = λ i l. absurd (omega (arith, l)) }

pub empty-ok : parts_ok [] 0 ≡ true
unfolding parts_ok
empty-ok = refl

none-drawn : drawn [] ≡ []
unfolding unnamed
none-drawn = refl

pub forms-again : (fs : List Form) → Each Writable fs → AllLow fs → forms_of (added_all fs empty_scene) ≡ fs
forms-again fs g l = let r = after fs empty_scene empty-sane g l empty-ok in ap (map (form_at 8 (added_all fs empty_scene))) (r.drawn_are ∙ ap (λ (x : List ℕ). x ++ roots fs empty_scene) none-drawn) ∙ r.forms-are

-- ---- forms that were added to a scene which names its parts well are at most 8 deep
extends-all : (fs : List Form) (s : Scene) → Sane s → Each Writable fs → Extends s (added_all fs s)
unfolding added_all Each
extends-all [] s S g = extends-refl s
extends-all (f ∷ fs) s S g =
    let b = back f (deep_of f) s S g.0 (omega arith) in
    extends-trans s (added f s) (added_all fs (added f s)) b.extends (extends-all fs (added f s) b.sane g.1)

pub low-all : (fs : List Form) (s : Scene) → Sane s → Each Writable fs → parts_ok (added_all fs s).marks (entries_of (added_all fs s)) ≡ true → AllLow fs
unfolding added_all Each
low-all [] s S g ok = tt
low-all (f ∷ fs) s S g ok =
    let a = added f s in
    let b = back f (deep_of f) s S g.0 (omega arith) in
    (low_of f s S g.0 (ok-back a (added_all fs a) (extends-all fs a b.sane g.1) ok), low-all fs a b.sane g.1 ok)
