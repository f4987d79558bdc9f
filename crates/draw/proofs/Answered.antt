-- A draw that is answered: it has been through the six steps, and its paths are laid. Assumes nothing.
use Prim.Native.Nat.{ℕ}
use mathlib.Core.Path.{◌≡◌, refl, sym, ap, fun_ext, subst, ◌∙◌}
use mathlib.Core.Bool.{Bool, true, false, cond, ◌&&◌}
use mathlib.Core.List.{map}
use lib.ListN.{length-map}
use lib.Ieee.{Float}
use Rattle.matrix.specs.Matrices.{mul_position}
use Rattle.scene.specs.Entries.{own_entry}
use Rattle.refusals.specs.declared.Refusal.TheVariants.{View as BadView}
use Rattle.scene_shape.specs.Shapes.{Shape, shape_box}
use Rattle.check_parts.specs.Drawn.{drawn}
use Rattle.check_scene.specs.Checks.{check_of}
use Rattle.scene.specs.Scenes.{Scene}
use Rattle.query_scene.specs.Queries.{planted_of}
use Rattle.paths.specs.Answers.{next}
use Rattle.paths.specs.Paths.{Paths, no_paths}
use Rattle.paths.proofs.Adding.{no_answer, same_answer, next-answered}
use Rattle.paths.proofs.Laying.{Laid, laid-rising, moved-laid}
use Rattle.path_rdp.specs.Rdp.{threshold_ok}
use Rattle.path_simplify.specs.Simplify.{simplify_paths}
use Rattle.path_simplify.proofs.Laying.{simplify-laid}
use Rattle.path_filter.proofs.Laying.{filter-laid}
use Rattle.view.specs.Views.{view_ok, viewport, args_of}
use Rattle.view.specs.declared.View.{View}
use Rattle.draw_clip.specs.Clip.{clip_filter, clip_paths}
use Rattle.draw_collect.specs.Lined.{bare, own_lines}
use Rattle.draw_collect.specs.Collect.{handed, chopped_lines, collected_all}
use Rattle.draw_collect.proofs.Nesting.{bare-read}
use Rattle.draw_render.specs.Render.{Places, stepping, on_tree, seen_lines, simplified_lines, mapped, staged, rendered, rendered_part}
use Rattle.draw.specs.Draw.{lined_in, render, drawn_after, draw_with}
use Rattle.draw.specs.Drawing.{solid_in, box_in, seen_in, Drawing, DrawnSo, DrawingLaid}
use Rattle.std.specs.Prelude.{Err, Ok, Result}
use Rattle.refusals.specs.declared.Refusal.{Refusal}

-- ---- what is answered was answered at each step
pub drawn-accepted : (d : Result ℕ Refusal) (a : Result Paths Refusal) {q : Paths} → drawn_after d a ≡ Ok q → (n : ℕ) × (d ≡ Ok n) × (a ≡ Ok q)
unfolding drawn_after
drawn-accepted (Ok n) a e = (n, refl, e)
drawn-accepted (Err k) a e = no_answer k e

view-passes : (b c : Bool) (a : Result Paths Refusal) {q : Paths} → cond (b && c) a (Err BadView) ≡ Ok q → (b ≡ true) × (c ≡ true) × (a ≡ Ok q)
view-passes true true a e = (refl, refl, e)
view-passes true false a e = no_answer BadView e
view-passes false c a e = no_answer BadView e

pub tree-built : (b : Result ℕ Refusal) (a : Result Paths Refusal) {q : Paths} → on_tree b a ≡ Ok q → (n : ℕ) × (b ≡ Ok n) × (a ≡ Ok q)
unfolding on_tree
tree-built (Ok n) a e = (n, refl, e)
tree-built (Err k) a e = no_answer k e

-- steps 2 to 5, whatever the steps are
module _ (chop : Result Paths Refusal) (see : ℕ → ℕ → Paths → Result Paths Refusal) (simplify : Paths → Result Paths Refusal) (p left : Paths) (r u r' u' : ℕ) where
  stages : (b : Bool) → cond b (next chop (λ (l : Paths). next (see r u l) simplify)) (see r' u' p) ≡ Ok left
      → (lines passed : Paths) × (cond b chop (Ok p) ≡ Ok lines) × (see (cond b r r') (cond b u u') lines ≡ Ok passed) × (cond b (simplify passed) (Ok passed) ≡ Ok left)
  stages true e =
      let a = next-answered chop (λ (l : Paths). next (see r u l) simplify) left e in
      let c = next-answered (see r u a.0) simplify left a.2 in
      (a.0, c.0, a.1, c.1, c.2)
  stages false e = (p, left, refl, e, refl)

-- without its lines a drawn value is the scene's solid
bare-is : (s : Scene) → ◌≡◌ {A = ℕ → Shape} (λ (i : ℕ). bare (lined_in s i)) (solid_in s)
bare-is s = fun_ext (λ (i : ℕ). bare-read (own_entry s.numbers s.marks) (own_lines s.marks s.points s.starts s.owners) 8 i)

-- the stages after the collection
module _ (t : Float) (s : Scene) (v : View) (w : Places) where
  staged-as : (p : Paths) → staged t v w (λ (i : ℕ). bare (lined_in s i)) (λ (i : ℕ). shape_box (bare (lined_in s i))) (drawn s.marks) p ≡ staged t v w (solid_in s) (box_in s) (drawn s.marks) p
  staged-as p = ap (λ (solid : ℕ → Shape). staged t v w solid (λ (i : ℕ). shape_box (solid i)) (drawn s.marks) p) (bare-is s)

pub drawn-so : DrawnSo
unfolding draw_with render rendered rendered_part staged seen_lines
drawn-so t s v w q e =
    let d = drawn-accepted (check_of s) _ e in
    let f = view-passes (view_ok v) (threshold_ok t) _ d.2 in
    let c = next-answered (collected_all (args_of v) w.lines (lined_in s) (drawn s.marks) no_paths) _ q f.2 in
    let g = next-answered (staged t v w (λ (i : ℕ). bare (lined_in s i)) (λ (i : ℕ). shape_box (bare (lined_in s i))) (drawn s.marks) c.0) _ q c.2 in
    let h = stages (chopped_lines (args_of v) w.lines.chopped w.lines.begins c.0) (seen_lines v w.nodes w.order (solid_in s) (box_in s) (drawn s.marks))
    (simplified_lines t w.points w.starts) c.0 g.0 w.lines.points w.lines.starts w.points w.starts (stepping v) (sym (staged-as t s v w c.0) ∙ g.1) in
    let b = tree-built (planted_of (box_in s) (drawn s.marks) w.nodes w.order) _ h.3 in
    record {
      count = d.0;
      accepted = d.1;
      fair = f.0;
      threshold = f.1;
      collected = c.0;
      collects = c.1;
      lines = h.0;
      chops = h.2;
      nodes = b.0;
      builds = b.1;
      passed = h.1;
      filters = b.2;
      left = g.0;
      simplifies = h.4;
      maps = sym (same_answer g.2);
    }

-- ---- the slices of the result
simplified-laid : (t : Float) (room startRoom : ℕ) (p : Paths) {o : Paths} → simplified_lines t room startRoom p ≡ Ok o → Laid room startRoom o
unfolding simplified_lines
simplified-laid t room startRoom p {o} e =
    let a = next-answered (handed p) (λ (q : Paths). simplify_paths t q.vertices q.starts room startRoom) o e in
    simplify-laid t a.0.vertices a.0.starts room startRoom a.2

result-laid : {t : Float} {s : Scene} {v : View} {w : Places} {q : Paths} → Drawing t s v w q → Laid w.points w.starts q
unfolding mapped
result-laid {t} {s} {v} {w} D =
    let m = mul_position (viewport v.width v.height) in
    subst (Laid w.points w.starts) (sym D.maps) (moved-laid D.left (map m D.left.vertices) (length-map D.left.vertices m) (by (stepping v) D.filters D.simplifies))
  where
    by : (b : Bool) → clip_paths v.matrix (seen_in s v.eye) D.lines.vertices D.lines.starts (cond b w.lines.points w.points) (cond b w.lines.starts w.starts) ≡ Ok D.passed
        → cond b (simplified_lines t w.points w.starts D.passed) (Ok D.passed) ≡ Ok D.left → Laid w.points w.starts D.left
    by true f e = simplified-laid t w.points w.starts D.passed e
    by false f e = subst (Laid w.points w.starts) (same_answer e) (filter-laid (clip_filter v.matrix (seen_in s v.eye)) D.lines.vertices D.lines.starts f)

pub drawing-laid : DrawingLaid
drawing-laid t s v w q D = let h = result-laid D in (laid-rising h, h.points_fit, h.starts_fit)
