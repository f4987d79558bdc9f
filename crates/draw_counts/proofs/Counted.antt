-- The counts of a draw from those of its steps. Assumes nothing.
use mathlib.Core.Path.{◌≡◌, refl, sym, ap, ap₂, subst, ◌∙◌}
use mathlib.Core.Bool.{Bool, true, false}
use mathlib.Core.List.{List}
use Prim.Native.Nat.{ℕ, ◌*◌, ◌/◌, ◌≤◌}
use native.Mathlib.Omega.{arith}
use lib.ListN.{length, take, length-map, length-replicate}
use lib.Seq.{length-take-le}
use lib.Ieee.{Float}
use Rattle.floats.specs.Arith.{zero_f}
use Rattle.geometry.specs.declared.bounding_box.BBox.{BBox}
use Rattle.matrix.specs.Matrices.{mul_position}
use Rattle.matrix.specs.declared.Matrix.{Matrix}
use Rattle.refusals.specs.declared.Refusal.{Refusal}
use Rattle.scene_shape.specs.Shapes.{Shape, decode}
use Rattle.paths.specs.Answers.{next}
use Rattle.paths.specs.Paths.{Paths, paths_with, no_paths}
use Rattle.paths.specs.Ends.{places, all_points, held, EndsBoth, counted}
use Rattle.view.specs.Views.{viewport, args_of}
use Rattle.view.specs.declared.View.{View}
use Rattle.view.specs.declared.RenderArgs.{RenderArgs}
use Rattle.draw_collect.specs.Lined.{Lined}
use Rattle.draw_collect.specs.Collect.{chopped_lines, collected_all}
use Rattle.draw_collect.specs.Slices.{room_of, lined_at}
use Rattle.draw_render.specs.Render.{Places, stepping, seen_lines, simplified_lines, mapped, staged, rendered, rendered_part}
use Rattle.draw_render.specs.Slices.{places_in}
use Rattle.draw_render.proofs.Staging.{plain-is, simplified-is, on-is}
use Rattle.draw_counts.specs.Blanks.{blank, blank_starts}
use Rattle.draw_counts.proofs.Passing.{seen_few}
use Rattle.std.specs.Prelude.{Err, Ok, Result}

-- the drawing of all has the lines of all
whole_part : (t : Float) (v : View) (w : Places) (lined : ℕ → Lined) (box : ℕ → BBox) (ids : List ℕ) → rendered t v w lined box ids ≡ rendered_part t v w lined box ids ids
unfolding rendered rendered_part
whole_part t v w lined box ids = refl

pub whole-ends : (t : Float) (v : View) (w : Places) (lined : ℕ → Lined) (box : ℕ → BBox) (ids : List ℕ) {xs : List Float} {ss : List ℕ} {r : Result (ℕ × ℕ) Refusal}
    → EndsBoth (rendered_part t v w lined box ids ids) xs ss r → EndsBoth (rendered t v w lined box ids) xs ss r
whole-ends t v w lined box ids {xs} {ss} {r} e = subst (λ (a : Result Paths Refusal). EndsBoth a xs ss r) (sym (whole_part t v w lined box ids)) e

pub as-counted : {a b : Result Paths Refusal} {r : Result (ℕ × ℕ) Refusal} → a ≡ b → r ≡ counted b → r ≡ counted a
as-counted e h = h ∙ sym (ap counted e)

pub refusal-counted : {a : Result Paths Refusal} {k : Refusal} {xs : List Float} {ss : List ℕ} → EndsBoth a xs ss (Err k) → Err k ≡ counted a
refusal-counted h = ap counted h.is

-- result slices of so many places
pub blank-places : (n : ℕ) → places (blank n) ≡ n / 3
blank-places n = ap (λ (i : ℕ). i / 3) (length-replicate n zero_f)

pub blank-starts : (m : ℕ) → length (blank_starts m) ≡ m
blank-starts m = length-replicate m 0

-- ---- steps 2 to 5, where the last stage has places for `room` points and `begins` starts
module _ (t : Float) (v : View) (w : Places) {room begins : ℕ} (few : w.points ≡ room) (some : w.starts ≡ begins) (solid : ℕ → Shape) (box : ℕ → BBox) (ids : List ℕ) (work : List Float) (ws : List ℕ) (n m : ℕ) (fit : n * 3 ≤ length work)
    {b : Bool} (e : b ≡ stepping v) where
  pub plain-counted : b ≡ false → {r : Result (ℕ × ℕ) Refusal}
      → r ≡ counted (seen_lines v w.nodes w.order solid box ids room begins (paths_with (all_points (take (n * 3) work)) (take m ws))) → r ≡ counted (staged t v w solid box ids (held n work m ws))
  plain-counted h c =
      as-counted (plain-is t v w solid box ids work ws n m fit e h)
      (c ∙ ap₂ (λ (i j : ℕ). counted (seen_lines v w.nodes w.order solid box ids i j (paths_with (all_points (take (n * 3) work)) (take m ws)))) (sym few) (sym some))

  module _ (steps : b ≡ true) {a : RenderArgs} (args : a ≡ args_of v) (ys : List Float) (us : List ℕ) {c : Result (ℕ × ℕ) Refusal}
      (chop : EndsBoth (chopped_lines a w.lines.chopped w.lines.begins (paths_with (all_points (take (n * 3) work)) (take m ws))) ys us c) {p q : ℕ} (h : c ≡ Ok (p, q)) (zs : List Float) (vs : List ℕ) {d : Result (ℕ × ℕ) Refusal}
      (seen : EndsBoth (seen_lines v w.nodes w.order solid box ids w.lines.points w.lines.starts (paths_with (all_points (take (p * 3) ys)) (take q us))) zs vs d) where
    -- the slice that held the chopped lines has places for what is seen of them
    pub spare-long : {x y : ℕ} → d ≡ Ok (x, y) → length (take (x * 3) zs) ≤ length ys
    spare-long {x} {y} g =
        omega (
          arith,
          length-take-le (x * 3) zs (seen.fits x y g).0,
          seen_few a w.lines.chopped w.lines.begins (paths_with (all_points (take (n * 3) work)) (take m ws)) chop h v w.nodes w.order solid box ids w.lines.points w.lines.starts seen g,
          (chop.fits p q h).0,
        )

    pub simplified-counted : {x y : ℕ} → d ≡ Ok (x, y) → {r : Result (ℕ × ℕ) Refusal} → r ≡ counted (simplified_lines t room begins (paths_with (all_points (take (x * 3) zs)) (take y vs))) → r ≡ counted (staged t v w solid box ids (held n work m ws))
    simplified-counted {x} {y} g k =
        as-counted (simplified-is t v w solid box ids work ws n m fit e steps args ys us chop h zs vs seen g)
        (k ∙ ap₂ (λ (i j : ℕ). counted (simplified_lines t i j (paths_with (all_points (take (x * 3) zs)) (take y vs)))) (sym few) (sym some))

-- step 6 changes no count
mapped-counted : (m : Matrix) (a : Result Paths Refusal) → counted (next a (λ (p : Paths). Ok (mapped m p))) ≡ counted a
unfolding mapped
mapped-counted m (Ok p) = ap (λ (i : ℕ). Ok (i, (length p.starts))) (length-map p.vertices (mul_position m))
mapped-counted m (Err k) = refl

module _ (t : Float) (v : View) (wide many : ℕ) (chopped : List Float) (choppedStarts : List ℕ) (nodeBoxes : List Float) (nodeMarks order : List ℕ) (out : List Float) (begins : List ℕ)
    (ns vs : List Float) (ms : List ℕ) (ps : List Float) (starts owners : List ℕ) (box : ℕ → BBox) (ids : List ℕ) {a : RenderArgs} (args : a ≡ args_of v) (xs : List Float) (ss : List ℕ) {c : Result (ℕ × ℕ) Refusal}
    (lines : EndsBoth (collected_all a (room_of wide many chopped choppedStarts) (lined_at 8 ns vs ms ps starts owners) ids no_paths) (take wide xs) (take many ss) c) {n m : ℕ} (h : c ≡ Ok (n, m))
    (lx : wide ≤ length xs) (ls : many ≤ length ss) (chopped' : List Float) (choppedStarts' : List ℕ) (lc : length chopped' ≡ length chopped) (lu : length choppedStarts' ≡ length choppedStarts) where
  pub sheet-counted : {r : Result (ℕ × ℕ) Refusal} → r ≡ counted (staged t v (places_in (length (take wide xs)) (length (take many ss)) chopped' choppedStarts' nodeBoxes nodeMarks order out begins) (decode 8 ns vs ms) box ids (held n (take wide xs) m (take many ss)))
      → r ≡ counted (rendered t v (places_in wide many chopped choppedStarts nodeBoxes nodeMarks order out begins) (lined_at 8 ns vs ms ps starts owners) box ids)
  sheet-counted k =
      as-counted (whole_part t v (places_in wide many chopped choppedStarts nodeBoxes nodeMarks order out begins) (lined_at 8 ns vs ms ps starts owners) box ids
      ∙ on-is t v wide many chopped choppedStarts nodeBoxes nodeMarks order out begins ns vs ms ps starts owners box ids ids args xs ss lines h lx ls chopped' choppedStarts' lc lu)
      (k ∙ sym (mapped-counted (viewport v.width v.height)
      (staged t v (places_in (length (take wide xs)) (length (take many ss)) chopped' choppedStarts' nodeBoxes nodeMarks order out begins) (decode 8 ns vs ms) box ids (held n (take wide xs) m (take many ss)))))
