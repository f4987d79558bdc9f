-- The stages of a drawing one after the other: each way out. Assumes nothing.
use mathlib.Core.Path.{◌≡◌, sym, ap, ◌∙◌, fun_ext}
use mathlib.Core.Bool.{Bool, true, false}
use mathlib.Core.List.{List, map}
use Prim.Native.Nat.{ℕ, ◌+◌, ◌-◌, ◌*◌, ◌≤◌}
use native.Mathlib.Omega.{arith}
use lib.ListN.{length, take, drop, length-drop}
use lib.Seq.{length-take-le, take_all}
use lib.Ieee.{Float}
use Rattle.geometry.specs.declared.bounding_box.BBox.{BBox}
use Rattle.matrix.specs.Matrices.{mul_position}
use Rattle.matrix.specs.declared.Matrix.{Matrix}
use Rattle.rows.specs.Points.{points}
use Rattle.scene.specs.Entries.{entry_at}
use Rattle.refusals.specs.declared.Refusal.{Refusal}
use Rattle.refusals.specs.declared.Refusal.TheVariants.{Point}
use Rattle.scene_shape.specs.Shapes.{Shape, decode}
use Rattle.paths.specs.Answers.{next}
use Rattle.paths.specs.Paths.{Paths, paths_with, no_paths}
use Rattle.paths.specs.Ends.{all_points, held, EndsBoth}
use Rattle.paths.specs.Judged.{points_ok}
use Rattle.paths.proofs.Ending.{both_at, both-refused, refuses-both, answers-both}
use Rattle.paths.proofs.Parts.{part-all}
use Rattle.draw_lines.proofs.Adding.{ends-both-as}
use Rattle.view.specs.Views.{viewport, args_of}
use Rattle.view.specs.declared.View.{View}
use Rattle.view.specs.declared.RenderArgs.{RenderArgs}
use Rattle.path_transform.specs.Transform.{transformed}
use Rattle.path_simplify.specs.Simplify.{simplify_paths}
use Rattle.draw_collect.specs.Lined.{Lined, bare, own_lines}
use Rattle.draw_collect.specs.Collect.{LineRoom, chopped_lines, collected_all}
use Rattle.draw_collect.specs.Slices.{room_of, lined_at}
use Rattle.draw_collect.proofs.Sifting.{handed-on, handed-far}
use Rattle.draw_collect.proofs.Moved.{transformed-points}
use Rattle.draw_collect.proofs.Nesting.{bare-read}
use Rattle.draw_render.specs.Render.{Places, stepping, seen_lines, simplified_lines, mapped, staged, rendered_part}
use Rattle.draw_render.specs.Slices.{places_in}
use Rattle.std.specs.Prelude.{Err, Ok, Result}

-- ---- simplification
module _ (t : Float) (path : List Float) (starts : List ℕ) (room startRoom : ℕ) {b : Bool} (e : b ≡ points_ok (all_points path)) where
  pub far-is : b ≡ false → simplified_lines t room startRoom (paths_with (all_points path) starts) ≡ Err Point
  unfolding simplified_lines
  far-is h = rw (handed-far (paths_with (all_points path) starts) (sym e ∙ h))

  pub simplify-far : b ≡ false → (ys : List Float) (us : List ℕ) → EndsBoth (simplified_lines t room startRoom (paths_with (all_points path) starts)) ys us (Err Point)
  simplify-far h ys us = refuses-both ys us (far-is h)

  pub near-is : b ≡ true → simplified_lines t room startRoom (paths_with (all_points path) starts) ≡ simplify_paths t (all_points path) starts room startRoom
  unfolding simplified_lines
  near-is h = rw (handed-on (paths_with (all_points path) starts) (sym e ∙ h))

  pub simplify-near : b ≡ true → (ys : List Float) (us : List ℕ) {r : Result (ℕ × ℕ) Refusal} → EndsBoth (simplify_paths t (all_points path) starts room startRoom) ys us r
      → EndsBoth (simplified_lines t room startRoom (paths_with (all_points path) starts)) ys us r
  simplify-near h ys us f = ends-both-as (near-is h) f

-- ---- steps 2 to 5
module _ (t : Float) (v : View) (w : Places) (solid : ℕ → Shape) (box : ℕ → BBox) (ids : List ℕ) (work : List Float) (ws : List ℕ) (n m : ℕ) (fit : n * 3 ≤ length work) where
  abbrev value : Result Paths Refusal
  value = staged t v w solid box ids (held n work m ws)

  given : paths_with (all_points (take (n * 3) work)) (take m ws) ≡ held n work m ws
  given = rw (part-all work n fit)

  module _ {b : Bool} (e : b ≡ stepping v) where
    pub plain-is : b ≡ false → value ≡ seen_lines v w.nodes w.order solid box ids w.points w.starts (paths_with (all_points (take (n * 3) work)) (take m ws))
    unfolding staged
    plain-is h = rw (← e, h, ← given)

    pub plain : b ≡ false → (ys : List Float) (us : List ℕ) {r : Result (ℕ × ℕ) Refusal}
        → EndsBoth (seen_lines v w.nodes w.order solid box ids w.points w.starts (paths_with (all_points (take (n * 3) work)) (take m ws))) ys us r → EndsBoth value ys us r
    plain h ys us f = ends-both-as (plain-is h) f

    module _ (steps : b ≡ true) {a : RenderArgs} (args : a ≡ args_of v) (ys : List Float) (us : List ℕ) {c : Result (ℕ × ℕ) Refusal}
        (chop : EndsBoth (chopped_lines a w.lines.chopped w.lines.begins (paths_with (all_points (take (n * 3) work)) (take m ws))) ys us c) where
      chop-as : chopped_lines (args_of v) w.lines.chopped w.lines.begins (held n work m ws) ≡ chopped_lines a w.lines.chopped w.lines.begins (paths_with (all_points (take (n * 3) work)) (take m ws))
      chop-as = rw (args, given)

      pub chop-refused : {k : Refusal} → c ≡ Err k → (zs : List Float) (vs : List ℕ) → EndsBoth value zs vs (Err k)
      unfolding staged
      chop-refused h zs vs = refuses-both zs vs (rw (← e, steps, chop-as, both-refused chop h))

      module _ {p q : ℕ} (h : c ≡ Ok (p, q)) (zs : List Float) (vs : List ℕ) {d : Result (ℕ × ℕ) Refusal}
          (seen : EndsBoth (seen_lines v w.nodes w.order solid box ids w.lines.points w.lines.starts (paths_with (all_points (take (p * 3) ys)) (take q us))) zs vs d) where
        seen_as : seen_lines v w.nodes w.order solid box ids w.lines.points w.lines.starts (held p ys q us)
            ≡ seen_lines v w.nodes w.order solid box ids w.lines.points w.lines.starts (paths_with (all_points (take (p * 3) ys)) (take q us))
        seen_as = rw (part-all ys p (chop.fits p q h).0)

        pub seen-refused : {k : Refusal} → d ≡ Err k → (xs : List Float) (ss : List ℕ) → EndsBoth value xs ss (Err k)
        unfolding staged
        seen-refused g xs ss = refuses-both xs ss (rw (← e, steps, chop-as, both_at chop h, seen_as, both-refused seen g))

        pub simplified-is : {x y : ℕ} → d ≡ Ok (x, y) → value ≡ simplified_lines t w.points w.starts (paths_with (all_points (take (x * 3) zs)) (take y vs))
        unfolding staged
        simplified-is {x} {y} g =
            let i : paths_with (all_points (take (x * 3) zs)) (take y vs) ≡ held x zs y vs = rw (part-all zs x (seen.fits x y g).0) in
            rw (← e, steps, chop-as, both_at chop h, seen_as, both_at seen g, ← i)

        pub simplified : {x y : ℕ} → d ≡ Ok (x, y) → (xs : List Float) (ss : List ℕ) {r : Result (ℕ × ℕ) Refusal}
            → EndsBoth (simplified_lines t w.points w.starts (paths_with (all_points (take (x * 3) zs)) (take y vs))) xs ss r → EndsBoth value xs ss r
        simplified g xs ss f = ends-both-as (simplified-is g) f

-- ---- the lines of the listed solids from place i on, j of them, as code lends their list
pub tail-long : (i j n : ℕ) (ds : List ℕ) → n ≤ length ds → i + j ≤ n → j ≤ length (take (length ds - i) (drop i ds))
tail-long i j n ds h k = omega (arith, length-take-le (length ds - i) (drop i ds) (omega (arith, length-drop i ds)))

pub tail-lines : (a : RenderArgs) (w : LineRoom) (at : ℕ → Lined) (i j : ℕ) (ds : List ℕ) (xs : List Float) (ss : List ℕ) {c : Result (ℕ × ℕ) Refusal}
    → EndsBoth (collected_all a w at (take j (take (length ds - i) (drop i ds))) no_paths) xs ss c → EndsBoth (collected_all a w at (take j (drop i ds)) no_paths) xs ss c
tail-lines a w at i j ds xs ss f =
    ends-both-as (ap (λ (l : List ℕ). collected_all a w at (take j l) no_paths) (sym (take_all (length ds - i) (drop i ds) (omega (arith, length-drop i ds))))) f

-- ---- all six
module _ (t : Float) (v : View) (wide many : ℕ) (chopped : List Float) (choppedStarts : List ℕ) (nodeBoxes : List Float) (nodeMarks order : List ℕ) (out : List Float) (begins : List ℕ)
    (ns vs : List Float) (ms : List ℕ) (ps : List Float) (starts owners : List ℕ) (box : ℕ → BBox) (ids part : List ℕ) where
  abbrev drawing : Result Paths Refusal
  drawing = rendered_part t v (places_in wide many chopped choppedStarts nodeBoxes nodeMarks order out begins) (lined_at 8 ns vs ms ps starts owners) box ids part

  module _ {a : RenderArgs} (args : a ≡ args_of v) (xs : List Float) (ss : List ℕ) {c : Result (ℕ × ℕ) Refusal}
      (lines : EndsBoth (collected_all a (room_of wide many chopped choppedStarts) (lined_at 8 ns vs ms ps starts owners) part no_paths) (take wide xs) (take many ss) c) where
    pub lines-refused : {k : Refusal} → c ≡ Err k → (ys : List Float) (us : List ℕ) → EndsBoth drawing ys us (Err k)
    unfolding rendered_part
    lines-refused h ys us = refuses-both ys us (rw (← args, both-refused lines h))

    module _ {n m : ℕ} (h : c ≡ Ok (n, m)) (lx : wide ≤ length xs) (ls : many ≤ length ss) (chopped' : List Float) (choppedStarts' : List ℕ) (lc : length chopped' ≡ length chopped) (lu : length choppedStarts' ≡ length choppedStarts) where
      solids : decode 8 ns vs ms ≡ (λ (i : ℕ). bare (lined_at 8 ns vs ms ps starts owners i))
      solids = fun_ext (λ (i : ℕ). sym (bare-read (entry_at ns vs ms) (own_lines ms ps starts owners) 8 i))

      room_as : places_in (length (take wide xs)) (length (take many ss)) chopped' choppedStarts' nodeBoxes nodeMarks order out begins ≡ places_in wide many chopped choppedStarts nodeBoxes nodeMarks order out begins
      room_as = rw (length-take-le wide xs lx, length-take-le many ss ls, lc, lu)

      staged-as : staged t v (places_in wide many chopped choppedStarts nodeBoxes nodeMarks order out begins) (λ (i : ℕ). bare (lined_at 8 ns vs ms ps starts owners i)) box ids (held n (take wide xs) m (take many ss))
          ≡ staged t v (places_in (length (take wide xs)) (length (take many ss)) chopped' choppedStarts' nodeBoxes nodeMarks order out begins) (decode 8 ns vs ms) box ids (held n (take wide xs) m (take many ss))
      staged-as = rw (room_as, ← solids)

      -- the lines go through the other steps
      pub on-is : drawing ≡ next (staged t v (places_in (length (take wide xs)) (length (take many ss)) chopped' choppedStarts' nodeBoxes nodeMarks order out begins) (decode 8 ns vs ms) box ids (held n (take wide xs) m (take many ss)))
          (λ (p : Paths). Ok (mapped (viewport v.width v.height) p))
      unfolding rendered_part
      on-is = rw (← args, both_at lines h, staged-as)

      module _ (ys : List Float) (us : List ℕ) {r : Result (ℕ × ℕ) Refusal}
          (stages : EndsBoth (staged t v (places_in (length (take wide xs)) (length (take many ss)) chopped' choppedStarts' nodeBoxes nodeMarks order out begins) (decode 8 ns vs ms) box ids (held n (take wide xs) m (take many ss))) ys us r) where
        pub stages-refused : {k : Refusal} → r ≡ Err k → (zs : List Float) (ws : List ℕ) → EndsBoth drawing zs ws (Err k)
        stages-refused g zs ws = refuses-both zs ws (on-is ∙ rw (both-refused stages g))

        pub on-sheet : {p q : ℕ} → r ≡ Ok (p, q) → {M : Matrix} → M ≡ viewport v.width v.height → (zs : List Float) → zs ≡ transformed M p ys → length zs ≡ length ys → EndsBoth drawing zs us (Ok (p, q))
        unfolding mapped
        on-sheet {p} {q} g {M} eM zs ez lz =
            let f = stages.fits p q g in
            let e : points p zs ≡ map (mul_position (viewport v.width v.height)) (points p ys) = ap (points p) ez ∙ transformed-points M p ys ∙ rw eM in
            answers-both p q zs us (on-is ∙ rw (both_at stages g, e)) (omega (arith, f.0, lz)) f.1
