-- What the writer answers after its check of the scene and of the view. Assumes nothing.
use Prim.Native.Nat.{ℕ, ◌≤◌}
use mathlib.Core.Path.{◌≡◌, sym, ap, ap₂, ◌∙◌, subst}
use mathlib.Core.Bool.{Bool, true, false}
use mathlib.Core.List.{List, map}
use native.Mathlib.Omega.{arith}
use lib.ListN.{length, take}
use lib.Ieee.{Float}
use Rattle.rows.specs.Rows.{padded}
use Rattle.scene.specs.Scenes.{Scene, entries_of}
use Rattle.refusals.specs.declared.Refusal.{Refusal}
use Rattle.refusals.specs.declared.Refusal.TheVariants.{View as BadView}
use Rattle.check_parts.specs.Parts.{named_before}
use Rattle.check_parts.specs.Drawn.{drawn}
use Rattle.check_scene.specs.Checks.{check_of, if_accepted}
use Rattle.check_scene.proofs.Accepted.{left_is, accepted-numbers, own-drawn}
use Rattle.check_sound.proofs.Passing.{accepted-passes}
use Rattle.query_scene.proofs.Plants.{each-unnamed, accepted-count, accepted-many}
use Rattle.lists.specs.Lists.{Each}
use Rattle.view.specs.Views.{view_ok}
use Rattle.view.specs.declared.View.{View}
use Rattle.text_drawing.specs.Drawings.{fitting, written, laid}
use Rattle.text_drawing.specs.Writing.{CountWithin, Writes, sofar}
use Rattle.text_drawing.proofs.Ends.{all-written}
use Rattle.text_canonical.specs.Forms.{form_at}
use Rattle.text_canonical.specs.Canonical.{forms_text}
use Rattle.text_entries.specs.Entries.{Formed}
use Rattle.text_writer.specs.Writer.{written_after, written_of}
use Rattle.std.specs.Prelude.{Err, Ok, Result}

-- a refusal has no count
pub within-refused : (k : Refusal) (room : ℕ) → CountWithin (Err k) room
within-refused k room n e = let z : ◌≡◌ {A = ℕ} 0 1 = cc in absurd (omega arith)

-- ---- what an accepted scene has
module _ (s : Scene) (n : ℕ) (is : check_of s ≡ Ok n) where
  drawn-formed : Each (Formed s.numbers s.marks) (drawn s.marks)
  drawn-formed =
      each-unnamed (Formed s.numbers s.marks) (named_before s.marks (entries_of s)) (entries_of s)
      (λ i h. record { there = h; numbers = omega (arith, accepted-numbers s n is); parts = (accepted-passes s n is).names })

pub formed-as : (ns : List Float) (ms : List ℕ) {i j : ℕ} → i ≡ j → Formed ns ms j → Formed ns ms i
formed-as ns ms e F = subst (Formed ns ms) (sym e) F

-- ---- after the check: d is the verdict, and ds what stands in the slice of the drawn entries
module _ (s : Scene) (v : View) (room : ℕ) {d : Result ℕ Refusal} (judged : d ≡ check_of s) where
  pub scene-refused : {k : Refusal} → d ≡ Err k → (xs : List ℕ) → sofar (Err k) xs ≡ written_of room s v
  unfolding written_of written_after
  scene-refused e xs = sym (rw (← judged, e))

  module _ {n : ℕ} (h : d ≡ Ok n) where
    is : check_of s ≡ Ok n
    is = sym judged ∙ h

    pub view-refused : {b : Bool} → b ≡ view_ok v → b ≡ false → (xs : List ℕ) → sofar (Err BadView) xs ≡ written_of room s v
    unfolding written_of written_after
    view-refused e f xs = sym (rw (is, ← e, f))

    module _ (L : ℕ) (ds : List ℕ) (left : ds ≡ padded 0 L (if_accepted d (drawn s.marks))) where
      listed : take n ds ≡ drawn s.marks
      listed = own-drawn s n is L ds (left_is 0 n h L (drawn s.marks) left) (accepted-count s n is)

      pub listed-formed : Each (Formed s.numbers s.marks) (take n ds)
      listed-formed = subst (Each (Formed s.numbers s.marks)) (sym listed) (drawn-formed s n is)

      pub few-listed : n ≤ 1024
      few-listed = accepted-many s n is

      pub all-put : {b : Bool} → b ≡ view_ok v → b ≡ true → {xs ys : List ℕ} {r : Result ℕ Refusal} → length xs ≡ room → Writes (forms_text v (map (form_at 8 s) (take n ds))) xs (Ok 0) ys r → sofar r ys ≡ written_of room s v
      unfolding written_of written_after
      all-put e f {xs} l w =
          all-written w ∙ ap₂ (λ (m : ℕ) (ids : List ℕ). fitting m (forms_text v (map (form_at 8 s) ids))) l listed ∙ sym (rw (is, ← e, f))

-- ---- at the end
pub ends_so : {a : Result (List ℕ) Refusal} (c : Result ℕ Refusal) (ys : List ℕ) {room : ℕ} {r : Result ℕ Refusal} {zs : List ℕ} → sofar c ys ≡ a → length ys ≡ room → r ≡ written (sofar c ys) → zs ≡ laid (sofar c ys) (length ys)
    → (r ≡ written a) × (zs ≡ laid a room)
ends_so c ys e l h k = (h ∙ ap written e, k ∙ ap₂ laid e l)
