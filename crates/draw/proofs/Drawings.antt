-- How a draw ends, by the verdict on the scene and by what the check left. Assumes nothing.
use Prim.Native.Nat.{ℕ}
use mathlib.Core.Path.{◌≡◌, sym, ◌∙◌, subst}
use mathlib.Core.List.{List}
use mathlib.Core.Bool.{Bool, true, false}
use native.Mathlib.Omega.{arith}
use lib.Dec.{T}
use lib.ListN.{take}
use lib.Ieee.{Float, lt}
use Rattle.floats.specs.Arith.{zero_f}
use Rattle.rows.specs.Rows.{padded}
use Rattle.refusals.specs.declared.Refusal.{Refusal}
use Rattle.refusals.specs.declared.Refusal.TheVariants.{View as BadView}
use Rattle.tree_split.specs.Build.{box_at}
use Rattle.check_parts.specs.Drawn.{drawn}
use Rattle.check_scene.specs.Checks.{check_of, inverses_of, boxes_of, if_accepted}
use Rattle.scene.specs.Scenes.{Scene}
use Rattle.check_scene.proofs.Accepted.{left_is, padded-room, own-drawn}
use Rattle.query_scene.proofs.Plants.{accepted-count}
use Rattle.paths.specs.Ends.{EndsBoth}
use Rattle.paths.proofs.Ending.{refuses-both}
use Rattle.path_rdp.specs.Rdp.{threshold_ok}
use Rattle.path_rdp.proofs.Splitting.{not_low}
use Rattle.view.specs.Views.{view_ok}
use Rattle.view.specs.declared.View.{View}
use Rattle.draw_collect.specs.Slices.{lined_at}
use Rattle.draw_render.specs.Render.{Places, rendered}
use Rattle.draw_render.specs.Slices.{Listed}
use Rattle.draw.specs.Draw.{lined_in, render, drawn_after, draw_with}
use Rattle.draw.proofs.Bridge.{accepted-listed, rendered-is-render}
use Rattle.std.specs.Prelude.{Err, Ok, Result}

pub threshold-fine : (t : Float) {c : Bool} → c ≡ threshold_ok t → c ≡ true → lt t zero_f ≡ false
threshold-fine t e h = not_low t (subst T (sym h ∙ e) tt)

-- the verdict, and what the check left
module _ (t : Float) (s : Scene) (d : Result ℕ Refusal) (judged : d ≡ check_of s) (v : View) (w : Places) where
  pub scene-refused : {k : Refusal} → d ≡ Err k → (xs : List Float) (ss : List ℕ) → EndsBoth (draw_with t s v w) xs ss (Err k)
  unfolding draw_with drawn_after
  scene-refused h xs ss = refuses-both xs ss (rw (← judged, h))

  module _ {n : ℕ} (h : d ≡ Ok n) where
    pub view-refused : {b : Bool} → b ≡ view_ok v → b ≡ false → (xs : List Float) (ss : List ℕ) → EndsBoth (draw_with t s v w) xs ss (Err BadView)
    unfolding draw_with drawn_after
    view-refused e f xs ss = refuses-both xs ss (rw (← judged, h, ← e, f))

    pub threshold-refused : {b c : Bool} → b ≡ view_ok v → b ≡ true → c ≡ threshold_ok t → c ≡ false → (xs : List Float) (ss : List ℕ) → EndsBoth (draw_with t s v w) xs ss (Err BadView)
    unfolding draw_with drawn_after
    threshold-refused e f g k xs ss = refuses-both xs ss (rw (← judged, h, ← e, f, ← g, k))

    draw-as : {b c : Bool} → b ≡ view_ok v → b ≡ true → c ≡ threshold_ok t → c ≡ true → draw_with t s v w ≡ render t v w (lined_in s) (drawn s.marks)
    unfolding draw_with drawn_after
    draw-as e f g k = rw (← judged, h, ← e, f, ← g, k)

    module _ (M O : ℕ) (bs : List Float) (lb : bs ≡ padded zero_f M (if_accepted d (boxes_of s))) (ds : List ℕ) (ld : ds ≡ padded 0 O (if_accepted d (drawn s.marks))) where
      is : check_of s ≡ Ok n
      is = sym judged ∙ h

      listed : take n ds ≡ drawn s.marks
      listed = own-drawn s n is O ds (left_is 0 n h O (drawn s.marks) ld) (accepted-count s n is)

      pub scene-listed : Listed bs ds n
      scene-listed =
          let left = left_is 0 n h O (drawn s.marks) ld in
          accepted-listed s n is M bs (left_is zero_f n h M (boxes_of s) lb) ds (omega (arith, accepted-count s n is, padded-room 0 O (drawn s.marks) left)) listed

      pub drawn-as : (L : ℕ) (vs : List Float) → vs ≡ padded zero_f L (if_accepted d (inverses_of s)) → {b c : Bool} → b ≡ view_ok v → b ≡ true → c ≡ threshold_ok t → c ≡ true
          → draw_with t s v w ≡ rendered t v w (lined_at 8 s.numbers vs s.marks s.points s.starts s.owners) (box_at bs) (take n ds)
      drawn-as L vs lv e f g k =
          draw-as e f g k
          ∙ sym (rendered-is-render s n is t v w L vs (left_is zero_f n h L (inverses_of s) lv) M bs (left_is zero_f n h M (boxes_of s) lb) ds listed)
