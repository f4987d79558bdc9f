-- The places that a preview counts, and one start more, suffice: the statement is in specs/Counted.antt. Assumes nothing.
use Prim.Native.Nat.{ℕ, suc, ◌+◌, ◌-◌, ◌≤◌, ◌<◌}
use mathlib.Core.Path.{◌≡◌, sym, ap, ap₂, fun_ext, subst, ◌∙◌}
use mathlib.Core.Bool.{Bool, true, false, cond, ◌&&◌}
use mathlib.Core.List.{List, [], ◌∷◌, ◌++◌}
use native.Mathlib.Omega.{arith}
use borrow.Author.Tests.{lt-ltb}
use lib.ListN.{length, take, get_or, length-append, length-map}
use lib.Seq.{length-take-le}
use lib.Dec.{ltb, eqb}
use lib.Ieee.{Float}
use Rattle.geometry.specs.declared.vector.Vector.{Vector}
use Rattle.matrix.specs.Matrices.{mul_position}
use Rattle.refusals.specs.declared.Refusal.TheVariants.{Room, View as BadView}
use Rattle.scene.specs.Entries.{own_entry}
use Rattle.scene.specs.Scenes.{Scene}
use Rattle.scene_shape.specs.Shapes.{Shape, shape_box}
use Rattle.check_parts.specs.Drawn.{drawn}
use Rattle.paths.specs.Answers.{next}
use Rattle.paths.specs.Paths.{Paths, paths_with, no_paths, push, push_all, front, paths_of, opened, closed_starts, closed, one_path, each, stage}
use Rattle.paths.proofs.Adding.{no_answer, same_answer, next-answered, push-answered, extend-adds}
use Rattle.path_filter.specs.Filter.{stepped, filtered_from, path_filter}
use Rattle.path_rdp.specs.Rdp.{simplified, threshold_ok}
use Rattle.path_simplify.specs.Simplify.{path_simplify, simplify_paths}
use Rattle.view.specs.Views.{viewport, view_ok, args_of}
use Rattle.view.specs.declared.View.{View}
use Rattle.draw_clip.specs.Clip.{clip_filter, clip_paths}
use Rattle.draw_collect.specs.Lined.{bare, own_lines}
use Rattle.draw_collect.specs.Collect.{handed, chopped_lines}
use Rattle.draw_collect.proofs.Nesting.{bare-read}
use Rattle.draw_render.specs.Render.{Places, stepping, on_tree, seen_lines, simplified_lines, mapped, staged, rendered, rendered_part}
use Rattle.draw.specs.Draw.{lined_in, render, drawn_after, draw_with}
use Rattle.draw.specs.Drawing.{solid_in, box_in, seen_in, Drawing}
use Rattle.draw.proofs.Answered.{drawn-so}
use Rattle.theorem_draws.specs.Counted.{with_result, CountsSuffice}
use Rattle.std.specs.Prelude.{Err, None, Ok, Option, Result, Some}
use Rattle.refusals.specs.declared.Refusal.{Refusal}

-- ---- pushes, in any room that holds what they answer
push-room : {A : Type 0} (room room' : ℕ) (xs : List A) (x : A) (ys : List A) → push room xs x ≡ Ok ys → length ys ≤ room' → push room' xs x ≡ Ok ys
unfolding push
push-room {A} room room' xs x ys e h =
    let q : ys ≡ xs ++ (x ∷ []) = push-answered room xs x ys e in
    let k : length xs < room' = omega (arith, h, ap length q, length-append xs (x ∷ [])) in
    ap (λ (b : Bool). cond b (Ok (xs ++ (x ∷ []))) (Err Room)) (lt-ltb (length xs) room' k) ∙ ap Ok (sym q)

push-all-room : {A : Type 0} (room room' : ℕ) (vs xs ys : List A) → push_all room xs vs ≡ Ok ys → length ys ≤ room' → push_all room' xs vs ≡ Ok ys
unfolding push_all
push-all-room room room' [] xs ys e h = e
push-all-room {A} room room' (v ∷ vs) xs ys e h =
    let w = next-answered (push room xs v) (λ (zs : List A). push_all room zs vs) ys e in
    let l = ap length (extend-adds room vs w.0 ys w.2) ∙ length-append w.0 vs in
    ap (λ (a : Result (List A) Refusal). next a (λ (zs : List A). push_all room' zs vs)) (push-room room room' xs v w.0 w.1 (omega (arith, h, l)))
    ∙ push-all-room room room' vs w.0 ys w.2 h

-- ---- paths that grow: no fewer points and starts
record Grown (o q : Paths) : Type 0 where
  points : length o.vertices ≤ length q.vertices
  starts : length o.starts ≤ length q.starts

grown-on : (a b c : Paths) → Grown a b → Grown b c → Grown a c
grown-on a b c g h = record { points = omega (arith, g.points, h.points); starts = omega (arith, g.starts, h.starts) }

-- a path that is closed gives back one start at the most
closed-starts : (ss : List ℕ) (n : ℕ) → length ss ≤ suc (length (closed_starts ss n))
unfolding closed_starts front
closed-starts ss n = by (ltb 0 (length ss) && eqb (get_or ss (length ss - 1) 0) n)
  where
    by : (b : Bool) → length ss ≤ suc (length (cond b (take (length ss - 1) ss) ss))
    by true = omega (arith, length-take-le (length ss - 1) ss (omega arith))
    by false = omega arith

record Opened (room : ℕ) (p q : Paths) : Type 0 where
  points : length q.vertices ≡ length p.vertices
  starts : length q.starts ≡ suc (length p.starts)
  again : (room' : ℕ) → length q.starts ≤ room' → opened room' p ≡ Ok q

opened-so : (room : ℕ) (p q : Paths) → opened room p ≡ Ok q → Opened room p q
unfolding opened
opened-so room p q e =
    let w = next-answered (push room p.starts (length p.vertices)) (λ (ss : List ℕ). Ok (paths_with p.vertices ss)) q e in
    let z : paths_with p.vertices w.0 ≡ q = same_answer w.2 in
    let l = ap length (push-answered room p.starts (length p.vertices) w.0 w.1) ∙ length-append p.starts (length p.vertices ∷ []) in
    let m = ap (λ (o : Paths). length o.starts) z in
    record {
      points = ap (λ (o : Paths). length o.vertices) (sym z);
      starts = omega (arith, l, m);
      again = λ room' h.
          ap (λ (a : Result (List ℕ) Refusal). next a (λ (ss : List ℕ). Ok (paths_with p.vertices ss)))
          (push-room room room' p.starts (length p.vertices) w.0 w.1 (omega (arith, h, m)))
          ∙ ap Ok z;
    }

-- ---- a stage whose work on one path grows, and is answered alike where there is room for what it answers and one start more
module _ (f : ℕ → ℕ → List Vector → Paths → Result Paths Refusal)
    (grows : (r u : ℕ) (p : List Vector) (o q : Paths) → f r u p o ≡ Ok q → Grown o q)
    (alike : (r u r' u' : ℕ) (p : List Vector) (o q : Paths) → f r u p o ≡ Ok q → length q.vertices ≤ r' → length q.starts < u' → f r' u' p o ≡ Ok q) where
  each-grows : (r u : ℕ) (ps : List (List Vector)) (o q : Paths) → each (f r u) ps o ≡ Ok q → Grown o q
  unfolding each
  each-grows r u [] o q e = subst (Grown o) (same_answer e) (record { points = omega arith; starts = omega arith })
  each-grows r u (p ∷ ps) o q e =
      let w = next-answered (f r u p o) (each (f r u) ps) q e in
      grown-on o w.0 q (grows r u p o w.0 w.1) (each-grows r u ps w.0 q w.2)

  each-alike : (r u r' u' : ℕ) (ps : List (List Vector)) (o q : Paths) → each (f r u) ps o ≡ Ok q → length q.vertices ≤ r' → length q.starts < u' → each (f r' u') ps o ≡ Ok q
  unfolding each
  each-alike r u r' u' [] o q e h k = e
  each-alike r u r' u' (p ∷ ps) o q e h k =
      let w = next-answered (f r u p o) (each (f r u) ps) q e in
      let g = each-grows r u ps w.0 q w.2 in
      ap (λ (a : Result Paths Refusal). next a (each (f r' u') ps)) (alike r u r' u' p o w.0 w.1 (omega (arith, g.points, h)) (omega (arith, g.starts, k)))
      ∙ each-alike r u r' u' ps w.0 q w.2 h k

  stage-alike : (vs : List Vector) (ss : List ℕ) (r u r' u' : ℕ) (q : Paths) → stage f vs ss r u ≡ Ok q → length q.vertices ≤ r' → length q.starts < u' → stage f vs ss r' u' ≡ Ok q
  unfolding stage
  stage-alike vs ss r u r' u' q e h k = each-alike r u r' u' (paths_of vs ss) no_paths q e h k

-- ---- the filter: its open path is the last
module _ (test : Vector → Result (Option Vector) Refusal) where
  step-grows : (r u : ℕ) (t : Result (Option Vector) Refusal) (o q : Paths) → stepped r u t o ≡ Ok q → Grown o q
  unfolding stepped closed
  step-grows r u (Ok (Some v)) o q e =
      let w = next-answered (push r o.vertices v) (λ (vs : List Vector). Ok (paths_with vs o.starts)) q e in
      let l = ap length (push-answered r o.vertices v w.0 w.1) ∙ length-append o.vertices (v ∷ []) in
      subst (Grown o) (same_answer w.2) (record { points = omega (arith, l); starts = omega arith })
  step-grows r u (Ok None) o q e =
      let O = opened-so u (closed o) q e in
      record { points = omega (arith, O.points); starts = omega (arith, O.starts, closed-starts o.starts (length o.vertices)) }
  step-grows r u (Err k) o q e = no_answer k e

  step-alike : (r u r' u' : ℕ) (t : Result (Option Vector) Refusal) (o q : Paths) → stepped r u t o ≡ Ok q → length q.vertices ≤ r' → length q.starts ≤ u' → stepped r' u' t o ≡ Ok q
  unfolding stepped
  step-alike r u r' u' (Ok (Some v)) o q e h k =
      let w = next-answered (push r o.vertices v) (λ (vs : List Vector). Ok (paths_with vs o.starts)) q e in
      let m = ap (λ (x : Paths). length x.vertices) (same_answer w.2) in
      ap (λ (a : Result (List Vector) Refusal). next a (λ (vs : List Vector). Ok (paths_with vs o.starts))) (push-room r r' o.vertices v w.0 w.1 (omega (arith, h, m))) ∙ w.2
  step-alike r u r' u' (Ok None) o q e h k = (opened-so u (closed o) q e).again u' k
  step-alike r u r' u' (Err n) o q e h k = no_answer n e

  from-grows : (r u : ℕ) (p : List Vector) (o q : Paths) → filtered_from test r u p o ≡ Ok q → Grown o q
  unfolding filtered_from
  from-grows r u [] o q e = subst (Grown o) (same_answer e) (record { points = omega arith; starts = omega arith })
  from-grows r u (v ∷ p) o q e =
      let w = next-answered (stepped r u (test v) o) (filtered_from test r u p) q e in
      grown-on o w.0 q (step-grows r u (test v) o w.0 w.1) (from-grows r u p w.0 q w.2)

  from-alike : (r u r' u' : ℕ) (p : List Vector) (o q : Paths) → filtered_from test r u p o ≡ Ok q → length q.vertices ≤ r' → length q.starts ≤ u' → filtered_from test r' u' p o ≡ Ok q
  unfolding filtered_from
  from-alike r u r' u' [] o q e h k = e
  from-alike r u r' u' (v ∷ p) o q e h k =
      let w = next-answered (stepped r u (test v) o) (filtered_from test r u p) q e in
      let g = from-grows r u p w.0 q w.2 in
      ap (λ (a : Result Paths Refusal). next a (filtered_from test r' u' p)) (step-alike r u r' u' (test v) o w.0 w.1 (omega (arith, g.points, h)) (omega (arith, g.starts, k)))
      ∙ from-alike r u r' u' p w.0 q w.2 h k

  record Filtered (r u : ℕ) (p : List Vector) (out q : Paths) : Type 0 where
    open-path : Paths
    opens : Opened u out open-path
    last : Paths
    tested : filtered_from test r u p open-path ≡ Ok last
    closes : closed last ≡ q

  filtered-so : (r u : ℕ) (p : List Vector) (out q : Paths) → path_filter test r u p out ≡ Ok q → Filtered r u p out q
  unfolding path_filter
  filtered-so r u p out q e =
      let s = next-answered (opened u out) (λ (o : Paths). next (filtered_from test r u p o) (λ (l : Paths). Ok (closed l))) q e in
      let t = next-answered (filtered_from test r u p s.0) (λ (l : Paths). Ok (closed l)) q s.2 in
      record { open-path = s.0; opens = opened-so u out s.0 s.1; last = t.0; tested = t.1; closes = same_answer t.2 }

  -- what the last path was before it was closed
  before-closed : (l q : Paths) → closed l ≡ q → (length l.vertices ≡ length q.vertices) × (length l.starts ≤ suc (length q.starts))
  unfolding closed
  before-closed l q e = (ap (λ (x : Paths). length x.vertices) e, omega (arith, closed-starts l.starts (length l.vertices), ap (λ (x : Paths). length x.starts) e))

  filter-grows : (r u : ℕ) (p : List Vector) (o q : Paths) → path_filter test r u p o ≡ Ok q → Grown o q
  filter-grows r u p o q e =
      let F = filtered-so r u p o q e in
      let g = from-grows r u p F.open-path F.last F.tested in
      let b = before-closed F.last q F.closes in
      record { points = omega (arith, F.opens.points, g.points, b.0); starts = omega (arith, F.opens.starts, g.starts, b.1) }

  filter_alike : (r u r' u' : ℕ) (p : List Vector) (o q : Paths) → path_filter test r u p o ≡ Ok q → length q.vertices ≤ r' → length q.starts < u' → path_filter test r' u' p o ≡ Ok q
  unfolding path_filter
  filter_alike r u r' u' p o q e h k =
      let F = filtered-so r u p o q e in
      let g = from-grows r u p F.open-path F.last F.tested in
      let b = before-closed F.last q F.closes in
      ap (λ (a : Result Paths Refusal). next a (λ (x : Paths). next (filtered_from test r' u' p x) (λ (l : Paths). Ok (closed l)))) (F.opens.again u' (omega (arith, g.starts, b.1, k)))
      ∙ ap (λ (a : Result Paths Refusal). next a (λ (l : Paths). Ok (closed l))) (from-alike r u r' u' p F.open-path F.last F.tested (omega (arith, b.0, h)) (omega (arith, b.1, k)))
      ∙ ap Ok F.closes

-- ---- simplification: a path that is opened, filled and closed
module _ (t : Float) where
  record Filled (r u : ℕ) (p : List Vector) (out q : Paths) : Type 0 where
    open-path : Paths
    opens : Opened u out open-path
    points : List Vector
    fills : push_all r open-path.vertices (simplified t p) ≡ Ok points
    closes : closed (paths_with points open-path.starts) ≡ q

  filled-so : (r u : ℕ) (p : List Vector) (out q : Paths) → one_path (path_simplify t) r u p out ≡ Ok q → Filled r u p out q
  unfolding one_path
  filled-so r u p out q e =
      let s = next-answered (opened u out) (λ (o : Paths). next (path_simplify t r p o.vertices) (λ (vs : List Vector). Ok (closed (paths_with vs o.starts)))) q e in
      let w = next-answered (path_simplify t r p s.0.vertices) (λ (vs : List Vector). Ok (closed (paths_with vs s.0.starts))) q s.2 in
      record { open-path = s.0; opens = opened-so u out s.0 s.1; points = w.0; fills = w.1; closes = same_answer w.2 }

  simplify-grows : (r u : ℕ) (p : List Vector) (o q : Paths) → one_path (path_simplify t) r u p o ≡ Ok q → Grown o q
  simplify-grows r u p o q e =
      let F = filled-so r u p o q e in
      let l = ap length (extend-adds r (simplified t p) F.open-path.vertices F.points F.fills) ∙ length-append F.open-path.vertices (simplified t p) in
      let b = before-closed (λ (v : Vector). (Ok None)) (paths_with F.points F.open-path.starts) q F.closes in
      record { points = omega (arith, F.opens.points, l, b.0); starts = omega (arith, F.opens.starts, b.1) }

  simplify-alike : (r u r' u' : ℕ) (p : List Vector) (o q : Paths) → one_path (path_simplify t) r u p o ≡ Ok q → length q.vertices ≤ r' → length q.starts < u' → one_path (path_simplify t) r' u' p o ≡ Ok q
  unfolding one_path
  simplify-alike r u r' u' p o q e h k =
      let F = filled-so r u p o q e in
      let b = before-closed (λ (v : Vector). (Ok None)) (paths_with F.points F.open-path.starts) q F.closes in
      ap (λ (a : Result Paths Refusal). next a (λ (x : Paths). next (path_simplify t r' p x.vertices) (λ (vs : List Vector). Ok (closed (paths_with vs x.starts))))) (F.opens.again u' (omega (arith, b.1, k)))
      ∙ ap (λ (a : Result (List Vector) Refusal). next a (λ (vs : List Vector). Ok (closed (paths_with vs F.open-path.starts))))
      (push-all-room r r' (simplified t p) F.open-path.vertices F.points F.fills (omega (arith, b.0, h)))
      ∙ ap Ok F.closes

  simplified-alike : (r u r' u' : ℕ) (p q : Paths) → simplified_lines t r u p ≡ Ok q → length q.vertices ≤ r' → length q.starts < u' → simplified_lines t r' u' p ≡ Ok q
  unfolding simplified_lines
  simplified-alike r u r' u' p q e h k =
      let a = next-answered (handed p) (λ (x : Paths). simplify_paths t x.vertices x.starts r u) q e in
      ap (λ (b : Result Paths Refusal). next b (λ (x : Paths). simplify_paths t x.vertices x.starts r' u')) a.1
      ∙ stage-alike (one_path (path_simplify t)) simplify-grows simplify-alike a.0.vertices a.0.starts r u r' u' q a.2 h k

-- ---- a draw by its steps
-- steps 2 to 5, whatever the steps are
module _ (chop : Result Paths Refusal) (see : ℕ → ℕ → Paths → Result Paths Refusal) (simplify : Paths → Result Paths Refusal) (p lines passed left : Paths) (r u r' u' : ℕ) where
  through : (b : Bool) → cond b chop (Ok p) ≡ Ok lines → see (cond b r r') (cond b u u') lines ≡ Ok passed → cond b (simplify passed) (Ok passed) ≡ Ok left
      → cond b (next chop (λ (l : Paths). next (see r u l) simplify)) (see r' u' p) ≡ Ok left
  through true c s e = ap (λ (a : Result Paths Refusal). next a (λ (l : Paths). next (see r u l) simplify)) c ∙ ap (λ (a : Result Paths Refusal). next a simplify) s ∙ e
  through false c s e = ap (see r' u') (same_answer c) ∙ s ∙ e

-- what has been through the six steps is answered
drawn-back : {t : Float} {s : Scene} {v : View} {w : Places} {q : Paths} → Drawing t s v w q → draw_with t s v w ≡ Ok q
unfolding draw_with render rendered rendered_part staged seen_lines drawn_after on_tree
drawn-back {t} {s} {v} {w} {q} D =
    let solids : ◌≡◌ {A = ℕ → Shape} (λ (i : ℕ). bare (lined_in s i)) (solid_in s) =
    fun_ext (λ (i : ℕ). bare-read (own_entry s.numbers s.marks) (own_lines s.marks s.points s.starts s.owners) 8 i) in
    let see : (r u : ℕ) → Paths → Result Paths Refusal = seen_lines v w.nodes w.order (solid_in s) (box_in s) (drawn s.marks) in
    let f : see (cond (stepping v) w.lines.points w.points) (cond (stepping v) w.lines.starts w.starts) D.lines ≡ Ok D.passed =
    ap (λ (b : Result ℕ Refusal). on_tree b (clip_paths v.matrix (seen_in s v.eye) D.lines.vertices D.lines.starts (cond (stepping v) w.lines.points w.points) (cond (stepping v) w.lines.starts w.starts))) D.builds
    ∙ D.filters in
    let g : staged t v w (solid_in s) (box_in s) (drawn s.marks) D.collected ≡ Ok D.left =
    through (chopped_lines (args_of v) w.lines.chopped w.lines.begins D.collected) see (simplified_lines t w.points w.starts) D.collected D.lines D.passed D.left
    w.lines.points w.lines.starts w.points w.starts (stepping v) D.chops f D.simplifies in
    let k = ap (λ (solid : ℕ → Shape). staged t v w solid (λ (i : ℕ). shape_box (solid i)) (drawn s.marks) D.collected) solids ∙ g in
    ap (λ (d : Result ℕ Refusal). drawn_after d (cond (view_ok v && threshold_ok t) (render t v w (lined_in s) (drawn s.marks)) (Err BadView))) D.accepted
    ∙ ap₂ (λ (b c : Bool). cond (b && c) (render t v w (lined_in s) (drawn s.marks)) (Err BadView)) D.fair D.threshold
    ∙ ap (λ (a : Result Paths Refusal). next a (λ (p : Paths). next (staged t v w (λ (i : ℕ). bare (lined_in s i)) (λ (i : ℕ). shape_box (bare (lined_in s i))) (drawn s.marks) p) (λ (l : Paths). Ok (mapped (viewport v.width v.height) l)))) D.collects
    ∙ ap (λ (a : Result Paths Refusal). next a (λ (l : Paths). Ok (mapped (viewport v.width v.height) l))) k
    ∙ ap Ok (sym D.maps)

pub counts-suffice : CountsSuffice
unfolding mapped
counts-suffice t s v w q e points starts h k =
    let D = drawn-so t s v w q e in
    let m = mul_position (viewport v.width v.height) in
    let n : length q.vertices ≡ length D.left.vertices = ap (λ (x : Paths). length x.vertices) D.maps ∙ length-map D.left.vertices m in
    let l : length q.starts ≡ length D.left.starts = ap (λ (x : Paths). length x.starts) D.maps in
    let z = by D.lines D.passed D.left (stepping v) D.filters D.simplifies (omega (arith, h, n)) (omega (arith, k, l)) in
    drawn-back {w = with_result w points starts} (record {
      count = D.count;
      accepted = D.accepted;
      fair = D.fair;
      threshold = D.threshold;
      collected = D.collected;
      collects = D.collects;
      lines = D.lines;
      chops = D.chops;
      nodes = D.nodes;
      builds = D.builds;
      passed = D.passed;
      filters = z.0;
      left = D.left;
      simplifies = z.1;
      maps = D.maps;
    })
  where
    by : (lines passed left : Paths) (b : Bool)
        → clip_paths v.matrix (seen_in s v.eye) lines.vertices lines.starts (cond b w.lines.points w.points) (cond b w.lines.starts w.starts) ≡ Ok passed
        → cond b (simplified_lines t w.points w.starts passed) (Ok passed) ≡ Ok left
        → length left.vertices ≤ points → length left.starts < starts
        → (clip_paths v.matrix (seen_in s v.eye) lines.vertices lines.starts (cond b w.lines.points points) (cond b w.lines.starts starts) ≡ Ok passed)
        × (cond b (simplified_lines t points starts passed) (Ok passed) ≡ Ok left)
    by lines passed left true f e h k = (f, simplified-alike t w.points w.starts points starts passed left e h k)
    by lines passed left false f e h k =
        let z = same_answer e in (
          stage-alike _ (filter-grows (clip_filter v.matrix (seen_in s v.eye))) (filter_alike (clip_filter v.matrix (seen_in s v.eye))) lines.vertices lines.starts w.points w.starts points starts passed f
              (omega (arith, h, ap (λ (x : Paths). length x.vertices) z)) (omega (arith, k, ap (λ (x : Paths). length x.starts) z)),
          e,
        )
