-- How a draw of some entries' lines ends, by the verdict on the scene and by what the check left; and the draw of all. Assumes nothing.
use Prim.Native.Nat.{ℕ, ◌+◌, ◌≤◌}
use mathlib.Core.Path.{◌≡◌, refl, sym, ap, subst, ◌∙◌}
use mathlib.Core.List.{List}
use mathlib.Core.Bool.{Bool, true, false}
use native.Mathlib.Omega.{arith}
use lib.ListN.{length, take, drop}
use lib.Seq.{take_all, take-take, length-take-le}
use lib.Ieee.{Float}
use Rattle.floats.specs.Arith.{zero_f}
use Rattle.rows.specs.Rows.{padded}
use Rattle.rows.proofs.Rows.{take-drop}
use Rattle.refusals.specs.declared.Refusal.{Refusal}
use Rattle.refusals.specs.declared.Refusal.TheVariants.{View as BadView}
use Rattle.scene_shape.specs.Shapes.{shape_box}
use Rattle.tree_split.specs.Build.{box_at}
use Rattle.check_parts.specs.Drawn.{drawn}
use Rattle.check_scene.specs.Checks.{check_of, inverses_of, boxes_of, if_accepted}
use Rattle.scene.specs.Scenes.{Scene}
use Rattle.check_scene.proofs.Accepted.{left_is, padded-room, own-drawn}
use Rattle.query_scene.proofs.Plants.{accepted-count, accepted-many}
use Rattle.paths.specs.Paths.{Paths}
use Rattle.paths.specs.Ends.{EndsBoth, Finished}
use Rattle.paths.proofs.Ending.{refuses-both}
use Rattle.draw_lines.proofs.Adding.{ends-both-as}
use Rattle.path_rdp.specs.Rdp.{threshold_ok}
use Rattle.view.specs.Views.{view_ok}
use Rattle.view.specs.declared.View.{View}
use Rattle.draw_ranges.specs.Ranges.{range_within}
use Rattle.draw_ranges.specs.declared.EntryRange.{EntryRange}
use Rattle.draw_ranges.proofs.Ranges.{range-low, range_same}
use Rattle.draw_collect.specs.Lined.{bare}
use Rattle.draw_collect.specs.Slices.{lined_at}
use Rattle.draw_render.specs.Render.{Places, rendered, rendered_part}
use Rattle.draw.specs.Draw.{lined_in, render, drawn_after, draw_with, draw_part, draw_range}
use Rattle.draw.proofs.Bridge.{part-as-scene}
use Rattle.std.specs.Prelude.{Err, Ok, Result}

-- ---- the verdict, and what the check left
module _ (t : Float) (s : Scene) (d : Result ℕ Refusal) (judged : d ≡ check_of s) (v : View) (w : Places) (part : List ℕ) where
  pub part-refused : {k : Refusal} → d ≡ Err k → (xs : List Float) (ss : List ℕ) → EndsBoth (draw_part t s v w part) xs ss (Err k)
  unfolding draw_part drawn_after
  part-refused h xs ss = refuses-both xs ss (rw (← judged, h))

  module _ {n : ℕ} (h : d ≡ Ok n) where
    pub part-unseen : {b : Bool} → b ≡ view_ok v → b ≡ false → (xs : List Float) (ss : List ℕ) → EndsBoth (draw_part t s v w part) xs ss (Err BadView)
    unfolding draw_part drawn_after
    part-unseen e f xs ss = refuses-both xs ss (rw (← judged, h, ← e, f))

    pub part-unsimplified : {b c : Bool} → b ≡ view_ok v → b ≡ true → c ≡ threshold_ok t → c ≡ false → (xs : List Float) (ss : List ℕ) → EndsBoth (draw_part t s v w part) xs ss (Err BadView)
    unfolding draw_part drawn_after
    part-unsimplified e f g k xs ss = refuses-both xs ss (rw (← judged, h, ← e, f, ← g, k))

    part-as : {b c : Bool} → b ≡ view_ok v → b ≡ true → c ≡ threshold_ok t → c ≡ true → draw_part t s v w part ≡ rendered_part t v w (lined_in s) (λ (i : ℕ). shape_box (bare (lined_in s i))) (drawn s.marks) part
    unfolding draw_part drawn_after
    part-as e f g k = rw (← judged, h, ← e, f, ← g, k)

-- ---- a range of the first n listed entries
pub range_listed : (first many n : ℕ) {p : EntryRange} → p ≡ range_within first many n → (ds : List ℕ) → n ≤ length ds → take p.many (drop p.first ds) ≡ take many (drop first (take n ds))
range_listed first many n {p} h ds upto =
    take-drop p.many p.first ds
    ∙ ap (drop p.first) (sym (take-take (p.first + p.many) n ds (range-low first many n h)))
    ∙ sym (take-drop p.many p.first (take n ds))
    ∙ range_same first many n h (take n ds) (length-take-le n ds upto)

-- ---- the lines of a range, drawn by what the check left
module _ (t : Float) (s : Scene) (d : Result ℕ Refusal) (judged : d ≡ check_of s) (v : View) (w : Places) (first many : ℕ) {n : ℕ} (h : d ≡ Ok n)
    (M O : ℕ) (bs : List Float) (lb : bs ≡ padded zero_f M (if_accepted d (boxes_of s))) (ds : List ℕ) (ld : ds ≡ padded 0 O (if_accepted d (drawn s.marks))) where
  is : check_of s ≡ Ok n
  is = sym judged ∙ h

  left : ds ≡ padded 0 O (drawn s.marks)
  left = left_is 0 n h O (drawn s.marks) ld

  listed : take n ds ≡ drawn s.marks
  listed = own-drawn s n is O ds left (accepted-count s n is)

  pub listed-upto : n ≤ length ds
  listed-upto = omega (arith, accepted-count s n is, padded-room 0 O (drawn s.marks) left)

  pub range-rendered : (L : ℕ) (vs : List Float) → vs ≡ padded zero_f L (if_accepted d (inverses_of s)) → {b c : Bool} → b ≡ view_ok v → b ≡ true → c ≡ threshold_ok t → c ≡ true → {p : EntryRange} → p ≡ range_within first many n
      → (xs : List Float) (ss : List ℕ) {r : Result (ℕ × ℕ) Refusal}
      → EndsBoth (rendered_part t v w (lined_at 8 s.numbers vs s.marks s.points s.starts s.owners) (box_at bs) (take n ds) (take p.many (drop p.first ds))) xs ss r
      → EndsBoth (draw_range t s v w first many) xs ss r
  range-rendered L vs lv e f g k {p} within xs ss r =
      ends-both-as
      (part-as t s d judged v w (take many (drop first (drawn s.marks))) h e f g k
      ∙ ap (rendered_part t v w (lined_in s) (λ (i : ℕ). shape_box (bare (lined_in s i))) (drawn s.marks)) (sym (range_listed first many n within ds listed-upto ∙ ap (λ (l : List ℕ). take many (drop first l)) listed))
      ∙ sym (part-as-scene s n is t v w L vs (left_is zero_f n h L (inverses_of s) lv) M bs (left_is zero_f n h M (boxes_of s) lb) ds listed (take p.many (drop p.first ds))))
      r

-- ---- the range of all
whole-as : (t : Float) (s : Scene) (v : View) (w : Places) → draw_part t s v w (drawn s.marks) ≡ draw_with t s v w
unfolding draw_part draw_with render rendered rendered_part
whole-as t s v w = refl

pub range-of-all : (t : Float) (s : Scene) (v : View) (w : Places) → draw_range t s v w 0 1024 ≡ draw_with t s v w
unfolding draw_part draw_with drawn_after
range-of-all t s v w = by (check_of s) refl
  where
    by : (d : Result ℕ Refusal) → check_of s ≡ d → draw_range t s v w 0 1024 ≡ draw_with t s v w
    by (Ok n) e = ap (draw_part t s v w) (take_all 1024 (drawn s.marks) (omega (arith, accepted-count s n e, accepted-many s n e))) ∙ whole-as t s v w
    by (Err k) e = rw e

pub all_finished : (t : Float) (s : Scene) (v : View) (w : Places) {n m : ℕ} {xs : List Float} {ss : List ℕ} {r : Result (ℕ × ℕ) Refusal} → Finished (draw_range t s v w 0 1024) n m xs ss r → Finished (draw_with t s v w) n m xs ss r
all_finished t s v w {n} {m} {xs} {ss} {r} f = subst (λ (a : Result Paths Refusal). Finished a n m xs ss r) (range-of-all t s v w) f
