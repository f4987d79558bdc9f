-- The scene read back of the canonical text of an accepted scene draws alike: the proof. Assumes nothing.
use Prim.Native.Nat.{ℕ, zero, suc, ◌+◌, ◌*◌, ◌<◌, ◌≤◌}
use mathlib.Core.Path.{◌≡◌, refl, sym, ap, ap₂, ◌∙◌, subst}
use mathlib.Core.List.{List, [], ◌∷◌, map}
use mathlib.Core.Bool.{Bool, true, cond, ◌&&◌}
use native.Mathlib.Omega.{arith}
use lib.ListN.{length, length-map}
use lib.Ieee.{Float}
use Rattle.scene.specs.Scenes.{Scene, entries_of}
use Rattle.check_parts.specs.Parts.{named_before, parts_ok}
use Rattle.check_parts.specs.Drawn.{drawn}
use Rattle.check_scene.specs.Checks.{check_of}
use Rattle.check_sound.specs.Passing.{Passing}
use Rattle.check_sound.proofs.Passing.{accepted-passes}
use Rattle.refusals.specs.declared.Refusal.TheVariants.{View as BadView}
use Rattle.query_scene.proofs.Plants.{each-unnamed, accepted-count}
use Rattle.lists.specs.Lists.{Each}
use Rattle.paths.specs.Paths.{Paths}
use Rattle.path_rdp.specs.Rdp.{threshold_ok}
use Rattle.view.specs.Views.{view_ok}
use Rattle.view.specs.declared.View.{View}
use Rattle.draw_collect.specs.Lined.{Lined}
use Rattle.draw_render.specs.Render.{Places}
use Rattle.draw.specs.Draw.{lined_in, render, drawn_after, draw_with}
use Rattle.text_scene.specs.Texts.{empty_scene}
use Rattle.text_canonical.specs.Forms.{Form, form_at, forms_of}
use Rattle.text_canonical.specs.Canonical.{forms_text}
use Rattle.text_canonical.specs.Writable.{Writable, FitsYard}
use Rattle.text_canonical.proofs.Added.{added_all, deep_of}
use Rattle.text_canonical.proofs.Again.{AllLow, After, after, forms-again, empty-sane, empty-ok}
use Rattle.text_canonical.proofs.Owning.{added-all-lawful, empty-lawful}
use Rattle.text_canonical.proofs.Yards.{forms-taken}
use Rattle.theorem_renaming.proofs.Drawings.{same-drawing}
use Rattle.theorem_canonical.specs.ReadBack.{InF64, DrawsAlike, ReadBackAlike}
use Rattle.theorem_canonical.proofs.Opened.{deep-at}
use Rattle.theorem_canonical.proofs.Values.{lined_form, lined-is}
use Rattle.theorem_canonical.proofs.Judging.{AllPass, all_pass}
use Rattle.theorem_canonical.proofs.Writing.{writable-at}
use Rattle.theorem_canonical.proofs.Passing.{EachPasses, passing-each, each-passing, passing-accepted, added-all-pass, count-all, lengths-are}
use Rattle.std.specs.Prelude.{Err, Ok, Result}
use Rattle.refusals.specs.declared.Refusal.{Refusal}

-- ---- the forms of a scene
each-of-map : (P : Form → Type 0) (f : ℕ → Form) (l : List ℕ) → Each (λ (i : ℕ). P (f i)) l → Each P (map f l)
unfolding Each
each-of-map P f [] h = tt
each-of-map P f (i ∷ l) h = (h.0, each-of-map P f l h.1)

each-form : (P : Form → Type 0) (s : Scene) → ((i : ℕ) → i < entries_of s → P (form_at 8 s i)) → Each P (forms_of s)
each-form P s h = each-of-map P (form_at 8 s) (drawn s.marks) (each-unnamed (λ (i : ℕ). P (form_at 8 s i)) (named_before s.marks (entries_of s)) (entries_of s) h)

map-through : (s : Scene) → ((i : ℕ) → lined_in s i ≡ lined_form (form_at 8 s i)) → (l : List ℕ) → map (lined_in s) l ≡ map lined_form (map (form_at 8 s) l)
map-through s h [] = refl
map-through s h (i ∷ l) = ap₂ (λ (x : Lined) (xs : List Lined). x ∷ xs) (h i) (map-through s h l)

-- what is drawn of a scene are its forms, in order
drawn-values : (s : Scene) → Passing s → map (lined_in s) (drawn s.marks) ≡ map lined_form (forms_of s)
drawn-values s P = let n = lengths-are s P.lengths in map-through s (λ i. lined-is s n.2 n.1 8 i) (drawn s.marks)

module _ (v : View) (s : Scene) (n : ℕ) (is : check_of s ≡ Ok n) (F : InF64 v s) (Y : FitsYard v (forms_of s)) where
  P : Passing s
  P = accepted-passes s n is

  abbrev fs : List Form
  fs = forms_of s

  abbrev u : Scene
  u = added_all fs empty_scene

  each : EachPasses s
  each = passing-each s P

  writable : Each Writable fs
  writable = each-form Writable s (λ i l. writable-at s (lengths-are s P.lengths).2 P.names each F.numbers F.points i l)

  low : AllLow fs
  low = each-form (λ (f : Form). deep_of f ≤ 8) s (λ i l. deep-at 8 s i)

  passed : Each AllPass fs
  passed = each-form AllPass s (λ i l. all_pass s P.names each i l)

  A : After fs empty_scene
  A = after fs empty_scene empty-sane writable low empty-ok

  again : forms_of u ≡ fs
  again = forms-again fs writable low

  Q : Passing u
  Q = each-passing u A.sane (omega (arith, count-all fs empty_scene, Y.entries)) A.ok (added-all-lawful fs empty_scene empty-sane writable empty-lawful)
      (added-all-pass fs empty_scene empty-sane writable low passed (λ i l. absurd (omega (arith, l))))

  same-values : map (lined_in u) (drawn u.marks) ≡ map (lined_in s) (drawn s.marks)
  same-values = drawn-values u Q ∙ ap (map lined_form) again ∙ sym (drawn-values s P)

  same_count : length (drawn u.marks) ≡ n
  same_count = sym (length-map (drawn u.marks) (form_at 8 u)) ∙ ap length again ∙ length-map (drawn s.marks) (form_at 8 s) ∙ sym (accepted-count s n is)

  same-judged : check_of u ≡ check_of s
  same-judged = passing-accepted u Q ∙ ap Ok same_count ∙ sym is

  same-drawn : (t : Float) (w : Places) → draw_with t u v w ≡ draw_with t s v w
  unfolding draw_with
  same-drawn t w =
      ap₂ (λ (x : Result ℕ Refusal) (a : Result Paths Refusal). drawn_after x (cond (view_ok v && threshold_ok t) a (Err BadView))) same-judged
      (same-drawing t v w (lined_in u) (lined_in s) (drawn u.marks) (drawn s.marks) same-values)

  alike : DrawsAlike v s u
  alike = record { judged = same-judged; printed = ap (forms_text v) again; drawn = same-drawn }

pub read-back-alike : ReadBackAlike
read-back-alike v s n is F Y = (u v s n is F Y, forms-taken v (forms_of s) F.view (writable v s n is F Y) Y, alike v s n is F Y)
