-- A text is answered by what it stands for, in canonical form. Assumes nothing.
use Prim.Native.Nat.{ℕ, ◌*◌}
use mathlib.Core.Path.{◌≡◌, refl, sym, ap, ◌∙◌, subst}
use mathlib.Core.List.{List}
use native.Mathlib.Omega.{arith}
use borrow.Author.Tests.{le-leb}
use lib.ListN.{length, take}
use lib.Ieee.{Float}
use Rattle.refusals.specs.Refusals.{number_of}
use Rattle.refusals.specs.declared.Refusal.{Refusal}
use Rattle.scene.specs.Scenes.{Scene, scene_of}
use Rattle.view.specs.declared.View.{View}
use Rattle.text_scene.specs.Texts.{yard_of}
use Rattle.text_scene.specs.Readings.{reading_as}
use Rattle.text_drawing.specs.Drawings.{refused_text, fitting, written, laid}
use Rattle.text_reply.proofs.Places.{Wrote, wrote_as}
use Rattle.text_writer.specs.Writer.{written_of}
use Rattle.text_writer.proofs.Fits.{written-fits}
use Rattle.text_restate.specs.Restating.{writer_text, restated_in, restate_of}
use Rattle.std.specs.Prelude.{Err, None, Ok, Option, Result, Some}

-- ---- what the writer left is the answer, or its refusal is written
module _ (s : Scene) (v : View) (room : ℕ) {r : Result ℕ Refusal} (e : r ≡ written (written_of room s v)) where
  whole : (a : Result (List ℕ) Refusal) → written_of room s v ≡ a → {n : ℕ} → r ≡ Ok n → {ys : List ℕ} → ys ≡ laid (written_of room s v) room
      → (Ok n ≡ written (fitting room (writer_text (written_of room s v)))) × (ys ≡ laid (fitting room (writer_text (written_of room s v))) room)
  unfolding writer_text written fitting laid
  whole (Ok t) q {n} h l =
      let z : ◌≡◌ {A = Result ℕ Refusal} (Ok n) (Ok (length t)) = sym h ∙ e ∙ ap written q in
      rw (q, le-leb (length t) room (written-fits s v room t q)) (z, l ∙ ap (λ (a : Result (List ℕ) Refusal). laid a room) q)
  whole (Err k) q h l = let z : ◌≡◌ {A = ℕ} 0 1 = clash (sym h ∙ e ∙ ap written q) in absurd (omega (arith, z))
    where
      clash : {m : ℕ} {j : Refusal} → Ok m ≡ Err j → ◌≡◌ {A = ℕ} 0 1
      clash p = cc

  pub wrote-whole : {n : ℕ} → r ≡ Ok n → {ys : List ℕ} → ys ≡ laid (written_of room s v) room → (Ok n ≡ written (fitting room (writer_text (written_of room s v)))) × (ys ≡ laid (fitting room (writer_text (written_of room s v))) room)
  wrote-whole h l = whole (written_of room s v) refl h l

  not-whole : (a : Result (List ℕ) Refusal) → written_of room s v ≡ a → {k : Refusal} → r ≡ Err k → refused_text (number_of k) ≡ writer_text (written_of room s v)
  unfolding writer_text written
  not-whole (Ok t) q h = let z : ◌≡◌ {A = ℕ} 0 1 = clash (sym h ∙ e ∙ ap written q) in absurd (omega (arith, z))
    where
      clash : {m : ℕ} {j : Refusal} → Err j ≡ Ok m → ◌≡◌ {A = ℕ} 0 1
      clash p = cc
  not-whole (Err j) q {k} h = let z : k ≡ j = same (sym h ∙ e ∙ ap written q) in sym (rw q (ap (λ (i : Refusal). refused_text (number_of i)) (sym z)))
    where
      same : {i j : Refusal} → ◌≡◌ {A = Result ℕ Refusal} (Err i) (Err j) → i ≡ j
      same p = cc

  pub number_put : {k : Refusal} → r ≡ Err k → {n : ℕ} → n ≡ number_of k → refused_text n ≡ writer_text (written_of room s v)
  number_put h q = ap refused_text q ∙ not-whole (written_of room s v) refl h

-- what is written of a text into a slice of the same length is what is written of an equal one
pub wrote-there : {m room : ℕ} → m ≡ room → {t u : List ℕ} → t ≡ u → {r : Result ℕ Refusal} {ys : List ℕ} → Wrote t m r ys → Wrote u room r ys
wrote-there {m} {room} e {t} {u} q {r} {ys} w = wrote_as room r ys q (subst (λ (n : ℕ). Wrote t n r ys) e w)

-- ---- what was read, and what the arrays hold then
module _ (room : ℕ) (text : List ℕ) (r : Option (View × ℕ × ℕ × ℕ)) (ns : List Float) (ms : List ℕ) (ps : List Float) (ss os : List ℕ) (is : reading_as r ns ms ps ss os ≡ yard_of text) where
  pub restated-refused : r ≡ None → refused_text 1 ≡ restate_of room text
  unfolding restate_of restated_in reading_as
  restated-refused f = sym (rw (← is, f))

  pub restated-read : (v : View) (e p l : ℕ) → r ≡ Some (v, e, p, l) → writer_text (written_of room (scene_of (take (e * 16) ns) (take (e * 4) ms) (take (p * 3) ps) (take l ss) (take l os)) v) ≡ restate_of room text
  unfolding restate_of restated_in reading_as
  restated-read v e p l f = sym (rw (← is, f))
