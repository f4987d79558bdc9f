-- A text that is written fits its slice. Assumes nothing.
use Prim.Native.Nat.{ℕ, ◌≤◌}
use mathlib.Core.Path.{◌≡◌, refl, subst}
use mathlib.Core.Bool.{Bool, true, false, cond}
use mathlib.Core.List.{List}
use native.Mathlib.Omega.{arith}
use borrow.Author.Tests.{leb-true}
use lib.Dec.{leb}
use lib.ListN.{length}
use Rattle.scene.specs.Scenes.{Scene}
use Rattle.refusals.specs.declared.Refusal.{Refusal}
use Rattle.refusals.specs.declared.Refusal.TheVariants.{View as BadView, Room}
use Rattle.check_scene.specs.Checks.{check_of}
use Rattle.view.specs.Views.{view_ok}
use Rattle.view.specs.declared.View.{View}
use Rattle.text_drawing.specs.Drawings.{fitting}
use Rattle.text_canonical.specs.Canonical.{canonical_text}
use Rattle.text_writer.specs.Writer.{written_after, written_of}
use Rattle.std.specs.Prelude.{Err, Ok, Result}

no_text : {k : Refusal} {t : List ℕ} → Err k ≡ Ok t → ◌≡◌ {A = ℕ} 0 1
no_text p = cc

fits-so : (room : ℕ) (u t : List ℕ) → fitting room u ≡ Ok t → length t ≤ room
unfolding fitting
fits-so room u t = by (leb (length u) room) (leb-true (length u) room)
  where
    by : (b : Bool) → (b ≡ true → length u ≤ room) → cond b (Ok u) (Err Room) ≡ Ok t → length t ≤ room
    by true h e = let z : u ≡ t = cc in subst (λ (x : List ℕ). length x ≤ room) z (h refl)
    by false h e = let z = no_text e in absurd (omega (arith, z))

pub written-fits : (s : Scene) (v : View) (room : ℕ) (t : List ℕ) → written_of room s v ≡ Ok t → length t ≤ room
unfolding written_of written_after
written-fits s v room t = by (check_of s) (view_ok v)
  where
    by : (d : Result ℕ Refusal) (b : Bool) → written_after d (cond b (fitting room (canonical_text v s)) (Err BadView)) ≡ Ok t → length t ≤ room
    by (Ok n) true e = fits-so room (canonical_text v s) t e
    by (Ok n) false e = let z = no_text e in absurd (omega (arith, z))
    by (Err k) b e = let z = no_text e in absurd (omega (arith, z))
