-- The lines of a range: each way out. Assumes nothing.
use mathlib.Core.Path.{◌≡◌, sym, ap, ap₂, ◌∙◌}
use mathlib.Core.Bool.{Bool, true, false}
use mathlib.Core.List.{List}
use Prim.Native.Nat.{ℕ, ◌*◌, ◌≤◌}
use native.Mathlib.Omega.{arith}
use lib.ListN.{length, take, drop}
use lib.Ieee.{Float}
use Rattle.floats.specs.Arith.{zero_f}
use Rattle.rows.specs.Rows.{padded}
use Rattle.refusals.specs.declared.Refusal.{Refusal}
use Rattle.refusals.specs.declared.Refusal.TheVariants.{View as BadView}
use Rattle.check_parts.specs.Drawn.{drawn}
use Rattle.check_scene.specs.Checks.{check_of, inverses_of, if_accepted}
use Rattle.check_scene.proofs.Accepted.{left_is, padded-room, own-drawn}
use Rattle.query_scene.proofs.Plants.{accepted-count}
use Rattle.scene.specs.Scenes.{Scene}
use Rattle.paths.specs.Paths.{paths_with, no_paths}
use Rattle.paths.specs.Ends.{all_points, held, places, EndsBoth}
use Rattle.paths.proofs.Ending.{both_at, both-refused, refuses-both}
use Rattle.paths.proofs.Parts.{part-all}
use Rattle.path_copy.specs.Copies.{copied_paths}
use Rattle.view.specs.Views.{view_ok, args_of}
use Rattle.view.specs.declared.View.{View}
use Rattle.view.specs.declared.RenderArgs.{RenderArgs}
use Rattle.draw_lines.proofs.Adding.{ends-both-as}
use Rattle.draw_collect.specs.Lined.{Lined}
use Rattle.draw_collect.specs.Collect.{LineRoom, chopped_lines, collected_all}
use Rattle.draw_collect.specs.Slices.{room_of, lined_at}
use Rattle.draw_render.specs.Render.{stepping}
use Rattle.draw_ranges.specs.Ranges.{range_within}
use Rattle.draw_ranges.specs.declared.EntryRange.{EntryRange}
use Rattle.draw.specs.Draw.{lined_in, drawn_after}
use Rattle.draw.proofs.Bridge.{own-lined}
use Rattle.draw.proofs.Ranges.{range_listed}
use Rattle.draw_entry_lines.specs.EntryLines.{chopped_or_copied, lines_in_room, entry_lines}
use Rattle.std.specs.Prelude.{Err, Ok, Result}

-- ---- step 2
given : (work : List Float) (ws : List ℕ) (n m : ℕ) → n * 3 ≤ length work → paths_with (all_points (take (n * 3) work)) (take m ws) ≡ held n work m ws
given work ws n m fit = rw (part-all work n fit)

module _ (v : View) (room startRoom : ℕ) (work : List Float) (ws : List ℕ) (n m : ℕ) (fit : n * 3 ≤ length work) {b : Bool} (e : b ≡ stepping v) (ys : List Float) (us : List ℕ) {r : Result (ℕ × ℕ) Refusal} where
  pub copied-lines : b ≡ false → EndsBoth (copied_paths room startRoom (paths_with (all_points (take (n * 3) work)) (take m ws))) ys us r → EndsBoth (chopped_or_copied v room startRoom (held n work m ws)) ys us r
  unfolding chopped_or_copied
  copied-lines f h = ends-both-as (rw (← e, f, ← given work ws n m fit)) h

  pub chopped-lines : b ≡ true → {a : RenderArgs} → a ≡ args_of v → EndsBoth (chopped_lines a room startRoom (paths_with (all_points (take (n * 3) work)) (take m ws))) ys us r → EndsBoth (chopped_or_copied v room startRoom (held n work m ws)) ys us r
  unfolding chopped_or_copied
  chopped-lines t args h = ends-both-as (rw (← e, t, ← args, ← given work ws n m fit)) h

-- ---- steps 1 and 2
module _ (v : View) (wide many : ℕ) (out : List Float) (begins : List ℕ) (lined : ℕ → Lined) (part : List ℕ) {a : RenderArgs} (args : a ≡ args_of v) (xs : List Float) (ss : List ℕ) {c : Result (ℕ × ℕ) Refusal}
    (lines : EndsBoth (collected_all a (room_of wide many out begins) lined part no_paths) (take wide xs) (take many ss) c) where
  pub lines-refused : {k : Refusal} → c ≡ Err k → (ys : List Float) (us : List ℕ) → EndsBoth (lines_in_room v (room_of wide many out begins) lined part) ys us (Err k)
  unfolding lines_in_room
  lines-refused h ys us = refuses-both ys us (rw (← args, both-refused lines h))

  pub lines-put : {n m : ℕ} → c ≡ Ok (n, m) → (out' : List Float) (begins' : List ℕ) → length out' ≡ length out → length begins' ≡ length begins → (ys : List Float) (us : List ℕ) {r : Result (ℕ × ℕ) Refusal}
      → EndsBoth (chopped_or_copied v (places out') (length begins') (held n (take wide xs) m (take many ss))) ys us r → EndsBoth (lines_in_room v (room_of wide many out begins) lined part) ys us r
  unfolding lines_in_room
  lines-put h out' begins' lo lb ys us f = ends-both-as (rw (← args, both_at lines h, lo, lb)) f

-- ---- after the verdict
module _ (s : Scene) (d : Result ℕ Refusal) (judged : d ≡ check_of s) (v : View) (w : LineRoom) where
  pub scene-refused : (part : List ℕ) {k : Refusal} → d ≡ Err k → (xs : List Float) (ss : List ℕ) → EndsBoth (entry_lines s v w part) xs ss (Err k)
  unfolding entry_lines drawn_after
  scene-refused part h xs ss = refuses-both xs ss (rw (← judged, h))

  module _ {n : ℕ} (h : d ≡ Ok n) where
    pub view-refused : (part : List ℕ) {b : Bool} → b ≡ view_ok v → b ≡ false → (xs : List Float) (ss : List ℕ) → EndsBoth (entry_lines s v w part) xs ss (Err BadView)
    unfolding entry_lines drawn_after
    view-refused part e f xs ss = refuses-both xs ss (rw (← judged, h, ← e, f))

    lines-as : (part : List ℕ) {b : Bool} → b ≡ view_ok v → b ≡ true → entry_lines s v w part ≡ lines_in_room v w (lined_in s) part
    unfolding entry_lines drawn_after
    lines-as part e f = rw (← judged, h, ← e, f)

    is : check_of s ≡ Ok n
    is = sym judged ∙ h

    module _ (O : ℕ) (ds : List ℕ) (ld : ds ≡ padded 0 O (if_accepted d (drawn s.marks))) where
      left : ds ≡ padded 0 O (drawn s.marks)
      left = left_is 0 n h O (drawn s.marks) ld

      pub listed-upto : n ≤ length ds
      listed-upto = omega (arith, accepted-count s n is, padded-room 0 O (drawn s.marks) left)

      pub range-lines : (first many L : ℕ) (vs : List Float) → vs ≡ padded zero_f L (if_accepted d (inverses_of s)) → {b : Bool} → b ≡ view_ok v → b ≡ true → {p : EntryRange} → p ≡ range_within first many n
          → (xs : List Float) (ss : List ℕ) {r : Result (ℕ × ℕ) Refusal} → EndsBoth (lines_in_room v w (lined_at 8 s.numbers vs s.marks s.points s.starts s.owners) (take p.many (drop p.first ds))) xs ss r
          → EndsBoth (entry_lines s v w (take many (drop first (drawn s.marks)))) xs ss r
      range-lines first many L vs lv e f {p} within xs ss r =
          ends-both-as
          (lines-as (take many (drop first (drawn s.marks))) e f
          ∙ ap₂ (lines_in_room v w) (sym (own-lined s n is L vs (left_is zero_f n h L (inverses_of s) lv)))
          (sym (range_listed first many n within ds listed-upto ∙ ap (λ (l : List ℕ). take many (drop first l)) (own-drawn s n is O ds left (accepted-count s n is)))))
          r
