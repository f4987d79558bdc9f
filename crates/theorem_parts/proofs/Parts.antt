-- A sheet is its parts: the proof, stage by stage. Assumes nothing.
use mathlib.Core.Path.{◌≡◌, refl, sym, ap, ap₂, ◌∙◌, subst}
use mathlib.Core.Bool.{Bool, true, false, cond, ◌&&◌}
use mathlib.Core.List.{List, [], ◌∷◌, ◌++◌, append-nil, map, map-append}
use Prim.Native.Nat.{ℕ, ◌+◌, ◌≤◌}
use native.Mathlib.Nat.{add-zero}
use native.Mathlib.Omega.{arith}
use lib.ListN.{length, take, drop, length-drop, length-append, length-map, take-append-drop, drop_of_length-le}
use lib.Seq.{take_all, drop-drop}
use Rattle.path_append.specs.Append.{shifted}
use lib.Ieee.{Float}
use Rattle.geometry.specs.declared.vector.Vector.{Vector}
use Rattle.geometry.specs.declared.bounding_box.BBox.{BBox}
use Rattle.matrix.specs.Matrices.{mul_position}
use Rattle.matrix.specs.declared.Matrix.{Matrix}
use Rattle.refusals.specs.declared.Refusal.TheVariants.{Point, View as BadView}
use Rattle.limits.specs.Limits.{within_point}
use Rattle.scene_shape.specs.Shapes.{Shape, shape_box}
use Rattle.check_parts.specs.Drawn.{drawn}
use Rattle.check_scene.specs.Checks.{check_of}
use Rattle.scene.specs.Scenes.{Scene}
use Rattle.query_scene.specs.Queries.{planted_of}
use Rattle.paths.specs.Answers.{next}
use Rattle.paths.specs.Paths.{Paths, paths_with, no_paths, one_path, each, stage}
use Rattle.paths.specs.Judged.{points_ok}
use Rattle.paths.proofs.Adding.{no_answer, same_answer, next-answered}
use Rattle.path_rdp.specs.Rdp.{threshold_ok, simplified}
use Rattle.path_chop.specs.Chop.{screen_of, path_chop, most_halvings, chop_paths}
use Rattle.path_simplify.specs.Simplify.{path_simplify, simplify_paths}
use Rattle.path_filter.specs.Filter.{path_filter}
use Rattle.view.specs.Views.{view_ok, viewport, args_of}
use Rattle.view.specs.declared.View.{View}
use Rattle.view.specs.declared.RenderArgs.{RenderArgs}
use Rattle.draw_clip.specs.Clip.{clip_filter, clip_paths}
use Rattle.draw_collect.specs.Lined.{Lined, bare}
use Rattle.draw_collect.specs.Collect.{handed, chopped_lines, moved_from, collected_all}
use Rattle.draw_render.specs.Render.{Places, stepping, seen_by, on_tree, seen_lines, simplified_lines, mapped, staged, rendered, rendered_part}
use Rattle.draw.specs.Draw.{lined_in, render, drawn_after, draw_with, draw_part}
use Rattle.draw.proofs.Answered.{drawn-accepted, tree-built}
use Rattle.theorem_parts.specs.Following.{followed, followed_all}
use Rattle.theorem_parts.specs.Parts.{WholeIsRange, PartSplits, more_lines, more_places, PartsJoin, PlacesAlike, RangesDrawn, range_sum, SheetIsParts, places_together, PartsMakeSheet}
use Rattle.theorem_parts.proofs.Adders.{pushes_all, after, after-append, Roomy, Within, Adder, adds-each, adds_one}
use Rattle.theorem_parts.proofs.Filters.{adds-filtered}
use Rattle.theorem_parts.proofs.Chops.{chop-pushes}
use Rattle.theorem_parts.proofs.Following.{read_back, follow-none, follow-laid, moved, move-after}
use Rattle.theorem_parts.proofs.Collecting.{Roomier, lines-all, collect-append}
use Rattle.std.specs.Prelude.{Err, Ok, Result}
use Rattle.refusals.specs.declared.Refusal.{Refusal}

-- ---- what is laid from nothing
abbrev pub laid : List (List Vector) → Paths
laid ps = after no_paths ps

-- A stage on laid paths: what it makes of two lists one after the other is what it makes of each.
pub record Stage (F : ℕ → ℕ → Paths → Result Paths Refusal) : Type 0 where
  pub splits : (r s : ℕ) (ps qs : List (List Vector)) (o : Paths) → F r s (laid (ps ++ qs)) ≡ Ok o
      → (xs ys : List (List Vector)) × (F r s (laid ps) ≡ Ok (laid xs)) × (F r s (laid qs) ≡ Ok (laid ys)) × (o ≡ laid (xs ++ ys))
  pub joins : (r s r' s' : ℕ) (ps qs : List (List Vector)) (a b : Paths) → F r s (laid ps) ≡ Ok a → F r' s' (laid qs) ≡ Ok b
      → (xs ys : List (List Vector)) × (a ≡ laid xs) × (b ≡ laid ys) × (F (r + r') (s + s') (laid (ps ++ qs)) ≡ Ok (laid (xs ++ ys)))

-- one that takes the paths in turn
pub each_append : (f : List Vector → Paths → Result Paths Refusal) (ps qs : List (List Vector)) (o : Paths) → each f (ps ++ qs) o ≡ next (each f ps o) (each f qs)
unfolding each
each_append f [] qs o = refl
each_append f (p ∷ ps) qs o = go (λ (x : Paths). each_append f ps qs x) (f p o)
  where
    go : ((x : Paths) → each f (ps ++ qs) x ≡ next (each f ps x) (each f qs)) → (z : Result Paths Refusal) → next z (each f (ps ++ qs)) ≡ next (next z (each f ps)) (each f qs)
    go ih (Ok x) = ih x
    go ih (Err k) = refl

abbrev pub staging : (ℕ → ℕ → List Vector → Paths → Result Paths Refusal) → ℕ → ℕ → Paths → Result Paths Refusal
staging f r s p = stage f p.vertices p.starts r s

module _ (f : ℕ → ℕ → List Vector → Paths → Result Paths Refusal) (F : (p : List Vector) → Adder (λ (r s : ℕ). f r s p)) where
  pub on-laid : (r s : ℕ) (ps : List (List Vector)) → staging f r s (laid ps) ≡ each (f r s) ps no_paths
  unfolding stage
  on-laid r s ps = ap (λ (l : List (List Vector)). each (f r s) l no_paths) (read_back ps)

  none-roomy : (r s : ℕ) (o : Paths) → Roomy r s o r s no_paths
  none-roomy r s o = (omega arith, omega arith)

  pub stage-turns : Stage (staging f)
  stage-turns = record {
    splits = λ r s ps qs o e.
        let a = next-answered (each (f r s) ps no_paths) (each (f r s) qs) o (sym (each_append (f r s) ps qs no_paths) ∙ sym (on-laid r s (ps ++ qs)) ∙ e) in
        let b = adds-each f F ps r s no_paths a.0 a.1 in
        let c = adds-each f F qs r s a.0 o a.2 in (
          b.what,
          c.what,
          on-laid r s ps ∙ b.again r s no_paths (none-roomy r s no_paths),
          on-laid r s qs ∙ c.again r s no_paths (none-roomy r s a.0),
          c.is ∙ ap (λ (x : Paths). after x c.what) b.is ∙ sym (after-append no_paths b.what c.what),
        );
    joins = λ r s r' s' ps qs x y d e.
        let b = adds-each f F ps r s no_paths x (sym (on-laid r s ps) ∙ d) in
        let c = adds-each f F qs r' s' no_paths y (sym (on-laid r' s' qs) ∙ e) in
        let i = subst (Within r s) b.is (b.fits (omega arith, omega arith)) in (
          b.what,
          c.what,
          b.is,
          c.is,
          on-laid (r + r') (s + s') (ps ++ qs) ∙ each_append (f (r + r') (s + s')) ps qs no_paths
              ∙ ap (λ (z : Result Paths Refusal). next z (each (f (r + r') (s + s')) qs)) (b.again (r + r') (s + s') no_paths (omega arith, omega arith))
              ∙ c.again (r + r') (s + s') (laid b.what) (omega (arith, i.0), omega (arith, i.1))
              ∙ ap Ok (sym (after-append no_paths b.what c.what)),
        );
  }

-- ---- the same in the places of a draw
pub record Flow (F : Places → Paths → Result Paths Refusal) : Type 0 where
  pub splits : (w : Places) (ps qs : List (List Vector)) (o : Paths) → F w (laid (ps ++ qs)) ≡ Ok o
      → (xs ys : List (List Vector)) × (F w (laid ps) ≡ Ok (laid xs)) × (F w (laid qs) ≡ Ok (laid ys)) × (o ≡ laid (xs ++ ys))
  pub joins : (w u : Places) (ps qs : List (List Vector)) (a b : Paths) → F w (laid ps) ≡ Ok a → F u (laid qs) ≡ Ok b
      → (xs ys : List (List Vector)) × (a ≡ laid xs) × (b ≡ laid ys) × (F (more_places w u) (laid (ps ++ qs)) ≡ Ok (laid (xs ++ ys)))

module _ (F : ℕ → ℕ → Paths → Result Paths Refusal) (S : Stage F) where
  flow-chopped : Flow (λ (w : Places). F w.lines.chopped w.lines.begins)
  unfolding more_places more_lines
  flow-chopped = record { splits = λ w. S.splits w.lines.chopped w.lines.begins; joins = λ w u. S.joins w.lines.chopped w.lines.begins u.lines.chopped u.lines.begins }

  flow-lines : Flow (λ (w : Places). F w.lines.points w.lines.starts)
  unfolding more_places more_lines
  flow-lines = record { splits = λ w. S.splits w.lines.points w.lines.starts; joins = λ w u. S.joins w.lines.points w.lines.starts u.lines.points u.lines.starts }

  flow-result : Flow (λ (w : Places). F w.points w.starts)
  unfolding more_places
  flow-result = record { splits = λ w. S.splits w.points w.starts; joins = λ w u. S.joins w.points w.starts u.points u.starts }

flow-then : (F G : Places → Paths → Result Paths Refusal) → Flow F → Flow G → Flow (λ (w : Places) (p : Paths). next (F w p) (G w))
flow-then F G A B = record {
  splits = λ w ps qs o e.
      let i = next-answered (F w (laid (ps ++ qs))) (G w) o e in
      let a = A.splits w ps qs i.0 i.1 in
      let b = B.splits w a.0 a.1 o (ap (G w) (sym a.4) ∙ i.2) in
      (b.0, b.1, ap (λ (z : Result Paths Refusal). next z (G w)) a.2 ∙ b.2, ap (λ (z : Result Paths Refusal). next z (G w)) a.3 ∙ b.3, b.4);
  joins = λ w u ps qs x y d e.
      let i = next-answered (F w (laid ps)) (G w) x d in
      let j = next-answered (F u (laid qs)) (G u) y e in
      let a = A.joins w u ps qs i.0 j.0 i.1 j.1 in
      let b = B.joins w u a.0 a.1 x y (ap (G w) (sym a.2) ∙ i.2) (ap (G u) (sym a.3) ∙ j.2) in
      (b.0, b.1, b.2, b.3, ap (λ (z : Result Paths Refusal). next z (G (more_places w u))) a.4 ∙ b.4);
}

pub flow-cond : (F G : Places → Paths → Result Paths Refusal) → Flow F → Flow G → (b : Bool) → Flow (λ (w : Places) (p : Paths). cond b (F w p) (G w p))
flow-cond F G A B true = A
flow-cond F G A B false = B

-- ---- number 9 is met by both together exactly where it is met by one of them
ok-append : (xs ys : List Vector) → points_ok (xs ++ ys) ≡ points_ok xs && points_ok ys
unfolding points_ok
ok-append [] ys = refl
ok-append (x ∷ xs) ys = go (within_point x) (ok-append xs ys)
  where
    go : (b : Bool) → points_ok (xs ++ ys) ≡ points_ok xs && points_ok ys → b && points_ok (xs ++ ys) ≡ (b && points_ok xs) && points_ok ys
    go true e = e
    go false e = refl

pub laid-append : (ps qs : List (List Vector)) → laid (ps ++ qs) ≡ followed (laid ps) (laid qs)
laid-append ps qs = after-append no_paths ps qs ∙ sym (follow-laid (laid ps) qs)

pub laid-ok : (ps qs : List (List Vector)) → points_ok (laid (ps ++ qs)).vertices ≡ points_ok (laid ps).vertices && points_ok (laid qs).vertices
unfolding followed
laid-ok ps qs = ap (λ (x : Paths). points_ok x.vertices) (laid-append ps qs) ∙ ok-append (laid ps).vertices (laid qs).vertices

pub both_true : (a b : Bool) → a && b ≡ true → (a ≡ true) × (b ≡ true)
both_true true true e = (refl, refl)
both_true true false e = let z : ◌≡◌ {A = ℕ} 0 1 = cc in absurd (omega arith)
both_true false b e = let z : ◌≡◌ {A = ℕ} 0 1 = cc in absurd (omega arith)

pub handed-ok : (p : Paths) → points_ok p.vertices ≡ true → handed p ≡ Ok p
unfolding handed
handed-ok p h = rw h

pub handed-was : (p x : Paths) → handed p ≡ Ok x → (points_ok p.vertices ≡ true) × (x ≡ p)
unfolding handed
handed-was p x e = go (points_ok p.vertices) e
  where
    go : (b : Bool) → cond b (Ok p) (Err Point) ≡ Ok x → (b ≡ true) × (x ≡ p)
    go true e = (refl, sym (same_answer e))
    go false e = no_answer Point e

flow-handed : (G : Places → Paths → Result Paths Refusal) → Flow G → Flow (λ (w : Places) (p : Paths). next (handed p) (G w))
flow-handed G B = record {
  splits = λ w ps qs o e.
      let i = next-answered (handed (laid (ps ++ qs))) (G w) o e in
      let h = handed-was (laid (ps ++ qs)) i.0 i.1 in
      let k = both_true (points_ok (laid ps).vertices) (points_ok (laid qs).vertices) (sym (laid-ok ps qs) ∙ h.0) in
      let b = B.splits w ps qs o (ap (G w) (sym h.1) ∙ i.2) in
      (b.0, b.1, ap (λ (z : Result Paths Refusal). next z (G w)) (handed-ok (laid ps) k.0) ∙ b.2, ap (λ (z : Result Paths Refusal). next z (G w)) (handed-ok (laid qs) k.1) ∙ b.3, b.4);
  joins = λ w u ps qs x y d e.
      let i = next-answered (handed (laid ps)) (G w) x d in
      let j = next-answered (handed (laid qs)) (G u) y e in
      let h = handed-was (laid ps) i.0 i.1 in
      let k = handed-was (laid qs) j.0 j.1 in
      let b = B.joins w u ps qs x y (ap (G w) (sym h.1) ∙ i.2) (ap (G u) (sym k.1) ∙ j.2) in
      let m : points_ok (laid (ps ++ qs)).vertices ≡ true = laid-ok ps qs ∙ ap₂ (λ (a b : Bool). a && b) h.0 k.0 in
      (b.0, b.1, b.2, b.3, ap (λ (z : Result Paths Refusal). next z (G (more_places w u))) (handed-ok (laid (ps ++ qs)) m) ∙ b.4);
}

chop-one : (a : RenderArgs) (p : List Vector) → Adder (λ (r s : ℕ). one_path (path_chop most_halvings (screen_of a)) r s p)
chop-one a p = adds_one (path_chop most_halvings (screen_of a)) p (chop-pushes (screen_of a) most_halvings p)

pub simplify-one : (t : Float) (p : List Vector) → Adder (λ (r s : ℕ). one_path (path_simplify t) r s p)
simplify-one t p = adds_one (path_simplify t) p (pushes_all (simplified t p))

pub chop-flow : (v : View) → Flow (λ (w : Places). chopped_lines (args_of v) w.lines.chopped w.lines.begins)
unfolding chopped_lines
chop-flow v = flow-handed (λ (w : Places) (q : Paths). chop_paths (args_of v) q.vertices q.starts w.lines.chopped w.lines.begins) (flow-chopped _ (stage-turns _ (chop-one (args_of v))))

-- nothing is done
pub plain-flow : Flow (λ (w : Places) (p : Paths). Ok p)
plain-flow = record {
  splits = λ w ps qs o e. (ps, qs, refl, refl, sym (same_answer e));
  joins = λ w u ps qs x y d e. (ps, qs, sym (same_answer d), sym (same_answer e), refl);
}

-- ---- steps 2 to 6
pub on-built : {b : Result ℕ Refusal} {n : ℕ} (a : Result Paths Refusal) → b ≡ Ok n → on_tree b a ≡ a
unfolding on_tree
on-built a e = rw e

module _ (t : Float) (v : View) (solid : ℕ → Shape) (box : ℕ → BBox) (ids : List ℕ) where
  flow-tree : (G : Places → Paths → Result Paths Refusal) → Flow G → Flow (λ (w : Places) (p : Paths). on_tree (planted_of box ids w.nodes w.order) (G w p))
  unfolding more_places
  flow-tree G B = record {
    splits = λ w ps qs o e.
        let i = tree-built (planted_of box ids w.nodes w.order) (G w (laid (ps ++ qs))) e in
        let b = B.splits w ps qs o i.2 in
        (b.0, b.1, on-built (G w (laid ps)) i.1 ∙ b.2, on-built (G w (laid qs)) i.1 ∙ b.3, b.4);
    joins = λ w u ps qs x y d e.
        let i = tree-built (planted_of box ids w.nodes w.order) (G w (laid ps)) d in
        let j = tree-built (planted_of box ids u.nodes u.order) (G u (laid qs)) e in
        let b = B.joins w u ps qs x y i.2 j.2 in
        (b.0, b.1, b.2, b.3, on-built (G (more_places w u) (laid (ps ++ qs))) i.1 ∙ b.4);
  }

  clip-stage : Stage (staging (path_filter (clip_filter v.matrix (seen_by solid box ids v.eye))))
  clip-stage = stage-turns (path_filter (clip_filter v.matrix (seen_by solid box ids v.eye))) (adds-filtered (clip_filter v.matrix (seen_by solid box ids v.eye)))

  pub seen-lines : Flow (λ (w : Places). seen_lines v w.nodes w.order solid box ids w.lines.points w.lines.starts)
  unfolding seen_lines
  seen-lines = flow-tree (λ (w : Places) (p : Paths). clip_paths v.matrix (seen_by solid box ids v.eye) p.vertices p.starts w.lines.points w.lines.starts) (flow-lines _ clip-stage)

  seen-result : Flow (λ (w : Places). seen_lines v w.nodes w.order solid box ids w.points w.starts)
  unfolding seen_lines
  seen-result = flow-tree (λ (w : Places) (p : Paths). clip_paths v.matrix (seen_by solid box ids v.eye) p.vertices p.starts w.points w.starts) (flow-result _ clip-stage)

  simple-flow : Flow (λ (w : Places). simplified_lines t w.points w.starts)
  unfolding simplified_lines
  simple-flow = flow-handed (λ (w : Places) (q : Paths). simplify_paths t q.vertices q.starts w.points w.starts)
      (flow-result _ (stage-turns (one_path (path_simplify t)) (simplify-one t)))

  pub staged-flow : Flow (λ (w : Places). staged t v w solid box ids)
  unfolding staged
  staged-flow =
      flow-cond _ _
      (flow-then _ (λ (w : Places) (q : Paths). next (seen_lines v w.nodes w.order solid box ids w.lines.points w.lines.starts q) (simplified_lines t w.points w.starts))
      (chop-flow v) (flow-then _ (λ (w : Places). simplified_lines t w.points w.starts) seen-lines simple-flow))
      seen-result
      (stepping v)

pub mapped-laid : (m : Matrix) (ps : List (List Vector)) → mapped m (laid ps) ≡ laid (moved m ps)
unfolding mapped moved_from
mapped-laid m ps = move-after m no_paths ps

map-flow : (m : Matrix) → Flow (λ (w : Places) (p : Paths). Ok (mapped m p))
map-flow m = record {
  splits = λ w ps qs o e. (
    moved m ps,
    moved m qs,
    ap Ok (mapped-laid m ps),
    ap Ok (mapped-laid m qs),
    sym (same_answer e) ∙ mapped-laid m (ps ++ qs) ∙ ap laid (map-append (map (mul_position m)) ps qs),
  );
  joins = λ w u ps qs x y d e. (
    moved m ps,
    moved m qs,
    sym (same_answer d) ∙ mapped-laid m ps,
    sym (same_answer e) ∙ mapped-laid m qs,
    ap Ok (mapped-laid m (ps ++ qs) ∙ ap laid (map-append (map (mul_position m)) ps qs)),
  );
}

-- ---- all six, on two parts
module _ (t : Float) (v : View) (at : ℕ → Lined) (box : ℕ → BBox) (ids : List ℕ) where
  abbrev rest : Places → Paths → Result Paths Refusal
  rest w p = next (staged t v w (λ (i : ℕ). bare (at i)) box ids p) (λ (s : Paths). Ok (mapped (viewport v.width v.height) s))

  rest-flow : Flow rest
  rest-flow = flow-then _ _ (staged-flow t v (λ (i : ℕ). bare (at i)) box ids) (map-flow (viewport v.width v.height))

  render-splits : (w : Places) (xs ys : List ℕ) (q : Paths) → rendered_part t v w at box ids (xs ++ ys) ≡ Ok q
      → (a b : Paths) × (rendered_part t v w at box ids xs ≡ Ok a) × (rendered_part t v w at box ids ys ≡ Ok b) × (q ≡ followed a b)
  unfolding rendered_part
  render-splits w xs ys q e =
      let c = next-answered (collected_all (args_of v) w.lines at (xs ++ ys) no_paths) (rest w) q e in
      let d = next-answered (collected_all (args_of v) w.lines at xs no_paths) (collected_all (args_of v) w.lines at ys) c.0 (sym (collect-append (args_of v) w.lines at xs ys no_paths) ∙ c.1) in
      let x = lines-all (args_of v) at xs w.lines no_paths d.0 d.1 in
      let y = lines-all (args_of v) at ys w.lines d.0 c.0 d.2 in
      let z : c.0 ≡ laid (x.what ++ y.what) = y.is ∙ ap (λ (p : Paths). after p y.what) x.is ∙ sym (after-append no_paths x.what y.what) in
      let g = rest-flow.splits w x.what y.what q (ap (rest w) (sym z) ∙ c.2) in
      let h : Roomier w.lines d.0 w.lines no_paths = record { left = (omega arith, omega arith); points = omega arith; starts = omega arith; chopped = omega arith; begins = omega arith } in (
        laid g.0,
        laid g.1,
        ap (λ (p : Result Paths Refusal). next p (rest w)) (d.1 ∙ ap Ok x.is) ∙ g.2,
        ap (λ (p : Result Paths Refusal). next p (rest w)) (y.again w.lines no_paths h) ∙ g.3,
        g.4 ∙ laid-append g.0 g.1,
      )

  render-joins : (w u : Places) (xs ys : List ℕ) (a b : Paths) → rendered_part t v w at box ids xs ≡ Ok a → rendered_part t v u at box ids ys ≡ Ok b
      → rendered_part t v (more_places w u) at box ids (xs ++ ys) ≡ Ok (followed a b)
  unfolding rendered_part more_places more_lines
  render-joins w u xs ys a b d e =
      let i = next-answered (collected_all (args_of v) w.lines at xs no_paths) (rest w) a d in
      let j = next-answered (collected_all (args_of v) u.lines at ys no_paths) (rest u) b e in
      let x = lines-all (args_of v) at xs w.lines no_paths i.0 i.1 in
      let y = lines-all (args_of v) at ys u.lines no_paths j.0 j.1 in
      let f = subst (Within w.lines.points w.lines.starts) x.is (x.fits (omega arith, omega arith)) in
      let h : Roomier w.lines no_paths (more_lines w.lines u.lines) no_paths = record { left = (omega arith, omega arith); points = omega arith; starts = omega arith; chopped = omega arith; begins = omega arith } in
      let k : Roomier u.lines no_paths (more_lines w.lines u.lines) (laid x.what)
      = record { left = (omega (arith, f.0), omega (arith, f.1)); points = omega arith; starts = omega arith; chopped = omega arith; begins = omega arith } in
      let g = rest-flow.joins w u x.what y.what a b (ap (rest w) (sym x.is) ∙ i.2) (ap (rest u) (sym y.is) ∙ j.2) in
      let l = more_lines w.lines u.lines in
      ap (λ (p : Result Paths Refusal). next p (rest (more_places w u)))
      (collect-append (args_of v) l at xs ys no_paths
      ∙ ap (λ (p : Result Paths Refusal). next p (collected_all (args_of v) l at ys)) (x.again l no_paths h)
      ∙ y.again l (laid x.what) k
      ∙ ap Ok (sym (after-append no_paths x.what y.what)))
      ∙ g.4
      ∙ ap Ok (laid-append g.0 g.1 ∙ sym (ap₂ followed g.2 g.3))

-- ---- numbers 2 to 8 and 14
pub view-passes : (b : Bool) (a : Result Paths Refusal) {q : Paths} → cond b a (Err BadView) ≡ Ok q → (b ≡ true) × (a ≡ Ok q)
view-passes true a e = (refl, e)
view-passes false a e = no_answer BadView e

module _ (t : Float) (s : Scene) (v : View) where
  abbrev pub drawing : Places → List ℕ → Result Paths Refusal
  drawing w part = rendered_part t v w (lined_in s) (λ (i : ℕ). shape_box (bare (lined_in s i))) (drawn s.marks) part

  pub part-was : (w : Places) (part : List ℕ) (q : Paths) → draw_part t s v w part ≡ Ok q → (n : ℕ) × (check_of s ≡ Ok n) × (view_ok v && threshold_ok t ≡ true) × (drawing w part ≡ Ok q)
  unfolding draw_part
  part-was w part q e =
      let a = drawn-accepted (check_of s) _ e in
      let b = view-passes (view_ok v && threshold_ok t) _ a.2 in
      (a.0, a.1, b.0, b.1)

  pub part_is : {n : ℕ} (w : Places) (part : List ℕ) → check_of s ≡ Ok n → view_ok v && threshold_ok t ≡ true → draw_part t s v w part ≡ drawing w part
  unfolding draw_part drawn_after
  part_is w part a b = rw (a, b)

pub part-splits : PartSplits
part-splits t s v w xs ys q e =
    let a = part-was t s v w (xs ++ ys) q e in
    let g = render-splits t v (lined_in s) (λ (i : ℕ). shape_box (bare (lined_in s i))) (drawn s.marks) w xs ys q a.3 in
    (g.0, g.1, part_is t s v w xs a.1 a.2 ∙ g.2, part_is t s v w ys a.1 a.2 ∙ g.3, g.4)

pub parts_join : PartsJoin
parts_join t s v w u xs ys a b d e =
    let i = part-was t s v w xs a d in
    let j = part-was t s v u ys b e in
    part_is t s v (more_places w u) (xs ++ ys) i.1 i.2 ∙ render-joins t v (lined_in s) (λ (k : ℕ). shape_box (bare (lined_in s k))) (drawn s.marks) w u xs ys a b i.3 j.3

-- ---- ranges
pub whole-is-range : WholeIsRange
unfolding draw_part draw_with render rendered rendered_part
whole-is-range t s v w many h = ap (draw_part t s v w) (take_all many (drawn s.marks) h)

-- what is twice as long as itself is empty
pub twice-none : (q : Paths) → q ≡ followed q q → q ≡ no_paths
unfolding followed
twice-none q e =
    let n : length q.vertices ≡ length (q.vertices ++ q.vertices) = ap (λ (x : Paths). length x.vertices) e in
    let m : length q.starts ≡ length (q.starts ++ shifted (length q.vertices) q.starts) = ap (λ (x : Paths). length x.starts) e in
    ap₂ paths_with (none q.vertices (omega (arith, n, length-append q.vertices q.vertices)))
    (none q.starts (omega (arith, m, length-append q.starts (shifted (length q.vertices) q.starts), length-map q.starts (λ (i : ℕ). i + length q.vertices))))
  where
    none : {A : Type 0} (l : List A) → length l ≡ 0 → l ≡ []
    none [] h = refl
    none (x ∷ l) h = absurd (omega (arith, h))

pub nobody : (t : Float) (s : Scene) (v : View) (w : Places) (q : Paths) → draw_part t s v w [] ≡ Ok q → q ≡ no_paths
nobody t s v w q e =
    let a = part-splits t s v w [] [] q e in
    let x : a.0 ≡ q = same_answer (sym a.2 ∙ e) in
    let y : a.1 ≡ q = same_answer (sym a.3 ∙ e) in
    twice-none q (a.4 ∙ ap₂ followed x y)

-- ---- places
pub none-follow : (q : Paths) → followed no_paths q ≡ q
unfolding followed
none-follow q = ap (paths_with q.vertices) (go q.starts)
  where
    go : (ss : List ℕ) → shifted 0 ss ≡ ss
    go [] = refl
    go (s ∷ ss) = ap₂ (λ (i : ℕ) (l : List ℕ). i ∷ l) (add-zero s) (go ss)

pub places-alike : PlacesAlike
places-alike t s v w u part a b d e =
    let x = part-splits t s v w [] part a d in
    let y = part-splits t s v u [] part b e in
    let n = nobody t s v w x.0 x.2 in
    let m = nobody t s v u y.0 y.2 in
    let i = parts_join t s v w u part [] a y.0 d y.2 in
    let j = parts_join t s v w u [] part x.0 b x.2 e in
    let k : followed a y.0 ≡ followed x.0 b = same_answer (sym (ap (draw_part t s v (more_places w u)) (sym (append-nil part)) ∙ i) ∙ j) in
    sym (ap (followed a) m ∙ follow-none a) ∙ k ∙ ap (λ (z : Paths). followed z b) n ∙ none-follow b

module _ (t : Float) (s : Scene) (v : View) (w : Places) where
  abbrev ids : List ℕ
  ids = drawn s.marks

  from_first : (ms : List ℕ) (first : ℕ) (q : Paths) → draw_part t s v w (drop first ids) ≡ Ok q → length ids ≤ first + range_sum ms → (qs : List Paths) × RangesDrawn t s v w first ms qs × (q ≡ followed_all qs)
  unfolding range_sum followed_all
  from_first [] first q e h = ([], omega arith, nobody t s v w q (ap (draw_part t s v w) (sym (drop_of_length-le ids {i = first} (omega (arith, h)))) ∙ e))
  from_first (m ∷ ms) first q e h =
      let a = part-splits t s v w (take m (drop first ids)) (drop m (drop first ids)) q (ap (draw_part t s v w) (take-append-drop m (drop first ids)) ∙ e) in
      let b = from_first ms (first + m) a.1 (ap (draw_part t s v w) (sym (drop-drop m first ids)) ∙ a.3) (omega (arith, h)) in
      (a.0 ∷ b.0, (a.2, b.1), a.4 ∙ ap (followed a.0) b.2)

pub sheet-is-parts : SheetIsParts
sheet-is-parts t s v w q e ms h =
    from_first t s v w ms 0 q (sym (ap (draw_part t s v w) (take_all (length (drawn s.marks)) (drawn s.marks) (omega arith))) ∙ whole-is-range t s v w (length (drawn s.marks)) (omega arith) ∙ e) (omega (arith, h))

-- ---- the other way
module _ (t : Float) (s : Scene) (v : View) (w : Places) where
  to_last : (m : ℕ) (ms : List ℕ) (first : ℕ) (qs : List Paths) → RangesDrawn t s v w first (m ∷ ms) qs → length (drawn s.marks) ≤ first + range_sum (m ∷ ms)
      → draw_part t s v (places_together w ms) (drop first (drawn s.marks)) ≡ Ok (followed_all qs)
  unfolding range_sum followed_all places_together
  to_last m ms first [] h k = absurd h
  to_last m [] first (q ∷ []) h k =
      let l : take m (drop first (drawn s.marks)) ≡ drop first (drawn s.marks) = take_all m (drop first (drawn s.marks)) (omega (arith, k, length-drop first (drawn s.marks))) in
      ap (draw_part t s v w) (sym l) ∙ h.0 ∙ ap Ok (sym (follow-none q))
  to_last m [] first (q ∷ r ∷ qs) h k = absurd h.1
  to_last m (n ∷ ms) first (q ∷ qs) h k =
      let a = to_last n ms (first + m) qs h.1 (omega (arith, k)) in
      ap (draw_part t s v (more_places w (places_together w ms))) (sym (take-append-drop m (drop first (drawn s.marks))))
      ∙ parts_join t s v w (places_together w ms) (take m (drop first (drawn s.marks))) (drop m (drop first (drawn s.marks))) q (followed_all qs) h.0
      (ap (draw_part t s v (places_together w ms)) (drop-drop m first (drawn s.marks)) ∙ a)

pub parts-make-sheet : PartsMakeSheet
parts-make-sheet t s v w m ms qs h k =
    sym (whole-is-range t s v (places_together w ms) (length (drawn s.marks)) (omega arith))
    ∙ ap (draw_part t s v (places_together w ms)) (take_all (length (drawn s.marks)) (drawn s.marks) (omega arith))
    ∙ to_last t s v w m ms 0 qs h (omega (arith, k))
