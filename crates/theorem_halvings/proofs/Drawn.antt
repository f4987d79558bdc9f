-- A draw with any larger limit on halvings is the draw. Assumes nothing.
use mathlib.Core.Path.{◌≡◌, refl, ap, fun_ext, ◌∙◌}
use mathlib.Core.Bool.{Bool, true, false, cond, ◌&&◌}
use mathlib.Core.List.{List, [], ◌∷◌}
use Prim.Native.Nat.{ℕ, ◌+◌}
use lib.ListN.{length}
use lib.Ieee.{Float}
use Rattle.geometry.specs.declared.bounding_box.BBox.{BBox}
use Rattle.refusals.specs.declared.Refusal.TheVariants.{Point, View as BadView}
use Rattle.scene.specs.Scenes.{Scene}
use Rattle.scene_shape.specs.Shapes.{shape_box}
use Rattle.check_parts.specs.Drawn.{drawn}
use Rattle.check_scene.specs.Checks.{check_of}
use Rattle.paths.specs.Answers.{next}
use Rattle.paths.specs.Paths.{Paths, no_paths}
use Rattle.paths.specs.Judged.{points_ok}
use Rattle.view.specs.Views.{view_ok, viewport, args_of}
use Rattle.view.specs.declared.View.{View}
use Rattle.view.specs.declared.RenderArgs.{RenderArgs}
use Rattle.path_rdp.specs.Rdp.{threshold_ok}
use Rattle.path_append.specs.Append.{appended}
use Rattle.path_chop.specs.Chop.{most_halvings, chop_upto}
use Rattle.draw_arcs.specs.Stances.{Placement, unplaced, placed_part}
use Rattle.draw_collect.specs.Lined.{Lined, no_lines, lined, placed_lines, cut_lines, bare}
use Rattle.draw_collect.specs.Collect.{LineRoom, moved_from, handed, chopped_lines, sifted, collected, collected_all}
use Rattle.draw_render.specs.Render.{Places, mapped, staged, rendered, rendered_part}
use Rattle.draw.specs.Draw.{lined_in, render, drawn_after, draw_with}
use Rattle.theorem_halvings.specs.Unlimited.{Chopper, collected_by, collected_all_by, rendered_by, draw_by, chopped_upto, DrawUnlimited}
use Rattle.theorem_halvings.proofs.Alike.{next-same, chop-unlimited}
use Rattle.std.specs.Prelude.{Err, Ok, Result}
use Rattle.refusals.specs.declared.Refusal.{Refusal}

-- ---- with its own chop in place of its own, a draw is itself
own-collected : (a : Placement) (w : LineRoom) (x : Lined) (p : Paths) → collected_by chopped_lines a w x p ≡ collected a w x p
unfolding collected_by collected sifted
own-collected a w no_lines p = refl
own-collected a w (lined s ps) p = refl
own-collected a w (placed_lines m v x) p = ap (λ (r : Result Paths Refusal). next r (λ (q : Paths). Ok (moved_from m (length p.vertices) q))) (own-collected (placed_part m v a) w x p)
own-collected a w (cut_lines o x y) p =
    let onward : Paths → Result Paths Refusal = λ (q : Paths). next (sifted a.args w (bare (cut_lines o x y)) q) (appended w.points w.starts p) in
    ap (λ (r : Result Paths Refusal). next (next r (collected_by chopped_lines a w y)) onward) (own-collected a w x no_paths)
    ∙ ap (λ (r : Result Paths Refusal). next r onward) (next-same (collected a w x no_paths) (collected_by chopped_lines a w y) (collected a w y) (own-collected a w y))

own-all : (a : RenderArgs) (w : LineRoom) (at : ℕ → Lined) (is : List ℕ) (p : Paths) → collected_all_by chopped_lines a w at is p ≡ collected_all a w at is p
unfolding collected_all_by collected_all
own-all a w at [] p = refl
own-all a w at (i ∷ is) p =
    ap (λ (r : Result Paths Refusal). next r (collected_all_by chopped_lines a w at is)) (own-collected (unplaced a) w (at i) p)
    ∙ next-same (collected (unplaced a) w (at i) p) (collected_all_by chopped_lines a w at is) (collected_all a w at is) (own-all a w at is)

own-rendered : (t : Float) (v : View) (w : Places) (at : ℕ → Lined) (box : ℕ → BBox) (ids : List ℕ) → rendered_by chopped_lines t v w at box ids ≡ rendered t v w at box ids
unfolding rendered_by rendered rendered_part staged
own-rendered t v w at box ids =
    ap (λ (r : Result Paths Refusal). next r (λ (p : Paths). next (staged t v w (λ (i : ℕ). bare (at i)) box ids p) (λ (s : Paths). Ok (mapped (viewport v.width v.height) s))))
    (own-all (args_of v) w.lines at ids no_paths)

own-drawn : (t : Float) (s : Scene) (v : View) (w : Places) → draw_by chopped_lines t s v w ≡ draw_with t s v w
unfolding draw_by draw_with render
own-drawn t s v w =
    ap (λ (r : Result Paths Refusal). drawn_after (check_of s) (cond (view_ok v && threshold_ok t) r (Err BadView)))
    (own-rendered t v w (lined_in s) (λ (i : ℕ). shape_box (bare (lined_in s i))) (drawn s.marks))

-- ---- lines that a draw or a cut hands to a chop
lines-alike : (k : ℕ) (a : RenderArgs) (room startRoom : ℕ) (p : Paths) → chopped_upto (k + most_halvings) a room startRoom p ≡ chopped_lines a room startRoom p
unfolding chopped_upto chopped_lines handed
lines-alike k a room startRoom p = go (points_ok p.vertices) refl
  where
    go : (b : Bool) → points_ok p.vertices ≡ b
        → next (cond b (Ok p) (Err Point)) (λ (q : Paths). chop_upto (k + most_halvings) a q.vertices q.starts room startRoom)
        ≡ next (cond b (Ok p) (Err Point)) (λ (q : Paths). chop_upto most_halvings a q.vertices q.starts room startRoom)
    go true e = chop-unlimited k a p.vertices p.starts room startRoom e
    go false e = refl

chop-alike : (k : ℕ) → chopped_upto (k + most_halvings) ≡ chopped_lines
chop-alike k = fun_ext (λ (a : RenderArgs). fun_ext (λ (room : ℕ). fun_ext (λ (startRoom : ℕ). fun_ext (λ (p : Paths). lines-alike k a room startRoom p))))

pub draw-unlimited : DrawUnlimited
draw-unlimited k t s v w = ap (λ (chop : Chopper). draw_by chop t s v w) (chop-alike k) ∙ own-drawn t s v w
