-- The parts of a sheet, one behind the other in one set of places: the proof. Assumes nothing.
use mathlib.Core.Path.{◌≡◌, refl, sym, ap, ap₂, ◌∙◌, subst}
use mathlib.Core.Bool.{Bool, true, false, cond, ◌&&◌}
use mathlib.Core.List.{List, [], ◌∷◌, ◌++◌, append_assoc, append-nil, map, map-append}
use Prim.Native.Nat.{ℕ, zero, suc, ◌+◌, ◌-◌, ◌≤◌, ◌<◌}
use native.Mathlib.Omega.{arith}
use borrow.Author.Tests.{lt-ltb}
use lib.ListN.{length, take, get_or, length-append, length-map}
use lib.Seq.{take_all}
use lib.Ieee.{Float}
use Rattle.geometry.specs.declared.vector.Vector.{Vector}
use Rattle.geometry.specs.declared.bounding_box.BBox.{BBox}
use Rattle.matrix.specs.Matrices.{mul_position}
use Rattle.matrix.specs.declared.Matrix.{Matrix}
use Rattle.scene_shape.specs.Shapes.{Shape, shape_box}
use Rattle.check_parts.specs.Drawn.{drawn}
use Rattle.scene.specs.Scenes.{Scene}
use Rattle.query_scene.specs.Queries.{planted_of}
use Rattle.paths.specs.Answers.{next}
use Rattle.paths.specs.Paths.{Paths, paths_with, no_paths, push, one_path, each}
use Rattle.paths.specs.Judged.{points_ok}
use Rattle.paths.proofs.Adding.{same_answer, next-answered, push-answered}
use Rattle.path_simplify.specs.Simplify.{path_simplify, simplify_paths}
use Rattle.path_append.specs.Append.{shifted}
use Rattle.path_filter.specs.Filter.{path_filter}
use Rattle.view.specs.Views.{viewport, args_of}
use Rattle.view.specs.declared.View.{View}
use Rattle.draw_clip.specs.Clip.{clip_filter, clip_paths}
use Rattle.draw_collect.specs.Lined.{Lined, bare}
use Rattle.draw_collect.specs.Collect.{handed, chopped_lines, collected_all}
use Rattle.draw_render.specs.Render.{Places, stepping, seen_by, on_tree, seen_lines, simplified_lines, mapped, staged, rendered_part}
use Rattle.draw.specs.Draw.{lined_in, draw_with, draw_part}
use Rattle.draw.proofs.Answered.{tree-built}
use Rattle.theorem_parts.specs.Following.{followed}
use Rattle.theorem_parts.specs.Parts.{more_places}
use Rattle.theorem_parts.specs.Behind.{places_behind, PartBehind, Sheet, entries_drawn, draw_in_parts, DrawInParts, InPartsAlike, EndsCount}
use Rattle.theorem_parts.proofs.Adders.{after, after-append, Adder, adds-each}
use Rattle.theorem_parts.proofs.Filters.{adds-filtered}
use Rattle.theorem_parts.proofs.Following.{follow-none, moved, length_moved}
use Rattle.theorem_parts.proofs.Collecting.{Roomier, lines-all, collect-append}
use Rattle.theorem_parts.proofs.Parts.{laid, laid-append, each_append, staging, on-laid, Flow, chop-flow, seen-lines, both_true, laid-ok, handed-ok, handed-was, on-built, simplify-one, mapped-laid, part-was, part_is, part-splits, parts_join, whole-is-range, nobody, none-follow, places-alike}
use Rattle.std.specs.Prelude.{Ok, Result}
use Rattle.refusals.specs.declared.Refusal.{Refusal}

-- The last stage, on laid paths: what it makes of two lists one after the other is what it makes of the first, and of the second in the places behind that.
pub record Last (G : Places → Paths → Result Paths Refusal) : Type 0 where
  pub behind : (w : Places) (ps qs : List (List Vector)) (o : Paths) → G w (laid (ps ++ qs)) ≡ Ok o
      → (xs ys : List (List Vector)) × (G w (laid ps) ≡ Ok (laid xs)) × (G (places_behind w (laid xs)) (laid qs) ≡ Ok (laid ys)) × (o ≡ laid (xs ++ ys))

-- one that takes the paths in turn
last-turns : (f : ℕ → ℕ → List Vector → Paths → Result Paths Refusal) → ((p : List Vector) → Adder (λ (r s : ℕ). f r s p)) → Last (λ (w : Places). staging f w.points w.starts)
unfolding places_behind
last-turns f F = record {
  behind = λ w ps qs o e.
      let r = w.points in
      let s = w.starts in
      let a = next-answered (each (f r s) ps no_paths) (each (f r s) qs) o (sym (each_append (f r s) ps qs no_paths) ∙ sym (on-laid f F r s (ps ++ qs)) ∙ e) in
      let b = adds-each f F ps r s no_paths a.0 a.1 in
      let c = adds-each f F qs r s a.0 o a.2 in
      let n : length a.0.vertices ≡ length (laid b.what).vertices = ap (λ (x : Paths). length x.vertices) b.is in
      let m : length a.0.starts ≡ length (laid b.what).starts = ap (λ (x : Paths). length x.starts) b.is in
      let r' = r - length (laid b.what).vertices in
      let s' = s - length (laid b.what).starts in (
        b.what,
        c.what,
        on-laid f F r s ps ∙ b.again r s no_paths (omega arith, omega arith),
        on-laid f F r' s' qs ∙ c.again r' s' no_paths (omega (arith, n), omega (arith, m)),
        c.is ∙ ap (λ (x : Paths). after x c.what) b.is ∙ sym (after-append no_paths b.what c.what),
      );
}

-- after a stage whose result has places of its own
last_then : (F G : Places → Paths → Result Paths Refusal) → Flow F → ((w : Places) (p q : Paths) → F (places_behind w p) q ≡ F w q) → Last G → Last (λ (w : Places) (p : Paths). next (F w p) (G w))
last_then F G A same B = record {
  behind = λ w ps qs o e.
      let i = next-answered (F w (laid (ps ++ qs))) (G w) o e in
      let a = A.splits w ps qs i.0 i.1 in
      let b = B.behind w a.0 a.1 o (ap (G w) (sym a.4) ∙ i.2) in
      let u = places_behind w (laid b.0) in
      (b.0, b.1, ap (λ (z : Result Paths Refusal). next z (G w)) a.2 ∙ b.2, ap (λ (z : Result Paths Refusal). next z (G u)) (same w (laid b.0) (laid qs) ∙ a.3) ∙ b.3, b.4);
}

last-cond : (F G : Places → Paths → Result Paths Refusal) → Last F → Last G → (b : Bool) → Last (λ (w : Places) (p : Paths). cond b (F w p) (G w p))
last-cond F G A B true = A
last-cond F G A B false = B

last-handed : (G : Places → Paths → Result Paths Refusal) → Last G → Last (λ (w : Places) (p : Paths). next (handed p) (G w))
last-handed G B = record {
  behind = λ w ps qs o e.
      let i = next-answered (handed (laid (ps ++ qs))) (G w) o e in
      let h = handed-was (laid (ps ++ qs)) i.0 i.1 in
      let k = both_true (points_ok (laid ps).vertices) (points_ok (laid qs).vertices) (sym (laid-ok ps qs) ∙ h.0) in
      let b = B.behind w ps qs o (ap (G w) (sym h.1) ∙ i.2) in
      let u = places_behind w (laid b.0) in
      (b.0, b.1, ap (λ (z : Result Paths Refusal). next z (G w)) (handed-ok (laid ps) k.0) ∙ b.2, ap (λ (z : Result Paths Refusal). next z (G u)) (handed-ok (laid qs) k.1) ∙ b.3, b.4);
}

-- ---- steps 2 to 6
module _ (t : Float) (v : View) (solid : ℕ → Shape) (box : ℕ → BBox) (ids : List ℕ) where
  last-tree : (G : Places → Paths → Result Paths Refusal) → Last G → Last (λ (w : Places) (p : Paths). on_tree (planted_of box ids w.nodes w.order) (G w p))
  unfolding places_behind
  last-tree G B = record {
    behind = λ w ps qs o e.
        let i = tree-built (planted_of box ids w.nodes w.order) (G w (laid (ps ++ qs))) e in
        let b = B.behind w ps qs o i.2 in
        (b.0, b.1, on-built (G w (laid ps)) i.1 ∙ b.2, on-built (G (places_behind w (laid b.0)) (laid qs)) i.1 ∙ b.3, b.4);
  }

  last-seen : Last (λ (w : Places). seen_lines v w.nodes w.order solid box ids w.points w.starts)
  unfolding seen_lines
  last-seen = last-tree (λ (w : Places) (p : Paths). clip_paths v.matrix (seen_by solid box ids v.eye) p.vertices p.starts w.points w.starts)
      (last-turns (path_filter (clip_filter v.matrix (seen_by solid box ids v.eye))) (adds-filtered (clip_filter v.matrix (seen_by solid box ids v.eye))))

  last-simplified : Last (λ (w : Places). simplified_lines t w.points w.starts)
  unfolding simplified_lines
  last-simplified = last-handed (λ (w : Places) (q : Paths). simplify_paths t q.vertices q.starts w.points w.starts) (last-turns (one_path (path_simplify t)) (simplify-one t))

  chop-same : (w : Places) (p q : Paths) → chopped_lines (args_of v) (places_behind w p).lines.chopped (places_behind w p).lines.begins q ≡ chopped_lines (args_of v) w.lines.chopped w.lines.begins q
  unfolding places_behind
  chop-same w p q = refl

  seen_same : (w : Places) (p q : Paths) → seen_lines v (places_behind w p).nodes (places_behind w p).order solid box ids (places_behind w p).lines.points (places_behind w p).lines.starts q
      ≡ seen_lines v w.nodes w.order solid box ids w.lines.points w.lines.starts q
  unfolding places_behind
  seen_same w p q = refl

  last-staged : Last (λ (w : Places). staged t v w solid box ids)
  unfolding staged
  last-staged =
      last-cond _ _
      (last_then _ (λ (w : Places) (q : Paths). next (seen_lines v w.nodes w.order solid box ids w.lines.points w.lines.starts q) (simplified_lines t w.points w.starts))
      (chop-flow v) chop-same (last_then _ (λ (w : Places). simplified_lines t w.points w.starts) (seen-lines t v solid box ids) seen_same last-simplified))
      last-seen
      (stepping v)

-- as many places are left behind paths that are moved
behind_moved : (m : Matrix) (w : Places) (ps : List (List Vector)) → places_behind w (laid (moved m ps)) ≡ places_behind w (laid ps)
unfolding places_behind
behind_moved m w ps =
    let l = length_moved m no_paths ps in
    ap₂ (λ (a b : ℕ). record { lines = w.lines; nodes = w.nodes; order = w.order; points = w.points - a; starts = w.starts - b }) l.0 l.1

last-mapped : (G : Places → Paths → Result Paths Refusal) → Last G → (m : Matrix) → Last (λ (w : Places) (p : Paths). next (G w p) (λ (s : Paths). Ok (mapped m s)))
last-mapped G B m = record {
  behind = λ w ps qs o e.
      let i = next-answered (G w (laid (ps ++ qs))) (λ (s : Paths). Ok (mapped m s)) o e in
      let b = B.behind w ps qs i.0 i.1 in
      let f : Result Paths Refusal → Result Paths Refusal = λ (z : Result Paths Refusal). next z (λ (s : Paths). Ok (mapped m s)) in (
        moved m b.0,
        moved m b.1,
        ap f b.2 ∙ ap Ok (mapped-laid m b.0),
        ap (λ (u : Places). f (G u (laid qs))) (behind_moved m w b.0) ∙ ap f b.3 ∙ ap Ok (mapped-laid m b.1),
        sym (same_answer i.2) ∙ ap (mapped m) b.4 ∙ mapped-laid m (b.0 ++ b.1) ∙ ap laid (map-append (map (mul_position m)) b.0 b.1),
      );
}

-- ---- all six, on two parts
module _ (t : Float) (v : View) (at : ℕ → Lined) (box : ℕ → BBox) (ids : List ℕ) where
  abbrev onward : Places → Paths → Result Paths Refusal
  onward w p = next (staged t v w (λ (i : ℕ). bare (at i)) box ids p) (λ (s : Paths). Ok (mapped (viewport v.width v.height) s))

  render-behind : (w : Places) (xs ys : List ℕ) (q : Paths) → rendered_part t v w at box ids (xs ++ ys) ≡ Ok q
      → (a b : Paths) × (rendered_part t v w at box ids xs ≡ Ok a) × (rendered_part t v (places_behind w a) at box ids ys ≡ Ok b) × (q ≡ followed a b)
  unfolding rendered_part places_behind
  render-behind w xs ys q e =
      let c = next-answered (collected_all (args_of v) w.lines at (xs ++ ys) no_paths) (onward w) q e in
      let d = next-answered (collected_all (args_of v) w.lines at xs no_paths) (collected_all (args_of v) w.lines at ys) c.0 (sym (collect-append (args_of v) w.lines at xs ys no_paths) ∙ c.1) in
      let x = lines-all (args_of v) at xs w.lines no_paths d.0 d.1 in
      let y = lines-all (args_of v) at ys w.lines d.0 c.0 d.2 in
      let z : c.0 ≡ laid (x.what ++ y.what) = y.is ∙ ap (λ (p : Paths). after p y.what) x.is ∙ sym (after-append no_paths x.what y.what) in
      let g = (last-mapped _ (last-staged t v (λ (i : ℕ). bare (at i)) box ids) (viewport v.width v.height)).behind w x.what y.what q (ap (onward w) (sym z) ∙ c.2) in
      let h : Roomier w.lines d.0 w.lines no_paths = record { left = (omega arith, omega arith); points = omega arith; starts = omega arith; chopped = omega arith; begins = omega arith } in (
        laid g.0,
        laid g.1,
        ap (λ (p : Result Paths Refusal). next p (onward w)) (d.1 ∙ ap Ok x.is) ∙ g.2,
        ap (λ (p : Result Paths Refusal). next p (onward (places_behind w (laid g.0)))) (y.again w.lines no_paths h) ∙ g.3,
        g.4 ∙ laid-append g.0 g.1,
      )

pub part-behind : PartBehind
part-behind t s v w xs ys q e =
    let a = part-was t s v w (xs ++ ys) q e in
    let g = render-behind t v (lined_in s) (λ (i : ℕ). shape_box (bare (lined_in s i))) (drawn s.marks) w xs ys q a.3 in
    (g.0, g.1, part_is t s v w xs a.1 a.2 ∙ g.2, part_is t s v (places_behind w g.0) ys a.1 a.2 ∙ g.3, g.4)

-- ---- paths behind paths behind paths
shift-shift : (n m : ℕ) (ss : List ℕ) → shifted n (shifted m ss) ≡ shifted (n + m) ss
shift-shift n m [] = refl
shift-shift n m (s ∷ ss) = ap₂ (λ (i : ℕ) (l : List ℕ). i ∷ l) (omega arith) (shift-shift n m ss)

follow-assoc : (p q r : Paths) → followed (followed p q) r ≡ followed p (followed q r)
unfolding followed
follow-assoc p q r =
    ap₂ paths_with (append_assoc p.vertices q.vertices r.vertices)
    (append_assoc p.starts (shifted (length p.vertices) q.starts) (shifted (length (p.vertices ++ q.vertices)) r.starts)
    ∙ ap (λ (l : List ℕ). p.starts ++ l)
    (ap (λ (l : List ℕ). shifted (length p.vertices) q.starts ++ l)
    (ap (λ (n : ℕ). shifted n r.starts) (length-append p.vertices q.vertices) ∙ sym (shift-shift (length p.vertices) (length q.vertices) r.starts))
    ∙ sym (map-append (λ (i : ℕ). i + length p.vertices) q.starts (shifted (length q.vertices) r.starts))))

behind-behind : (w : Places) (p q : Paths) → places_behind (places_behind w p) q ≡ places_behind w (followed p q)
unfolding places_behind followed
behind-behind w p q =
    let n : w.points - length p.vertices - length q.vertices ≡ w.points - length (p.vertices ++ q.vertices) = omega (arith, length-append p.vertices q.vertices) in
    let m : w.starts - length p.starts - length q.starts ≡ w.starts - length (p.starts ++ shifted (length p.vertices) q.starts)
    = omega (arith, length-append p.starts (shifted (length p.vertices) q.starts), length-map q.starts (λ (i : ℕ). i + length p.vertices)) in
    ap₂ (λ (a b : ℕ). record { lines = w.lines; nodes = w.nodes; order = w.order; points = a; starts = b }) n m

-- ---- entry by entry
pushed : {A : Type 0} (room : ℕ) (xs : List A) (x : A) → length xs + 1 ≤ room → push room xs x ≡ Ok (xs ++ (x ∷ []))
unfolding push
pushed room xs x h = rw (lt-ltb (length xs) room (omega arith))

module _ (t : Float) (s : Scene) (v : View) (w : Places) (room : ℕ) where
  go_on : (is : List ℕ) (p : Sheet) (b : Paths) → draw_part t s v (places_behind w p.paths) is ≡ Ok b → length p.ends + length is ≤ room
      → (r : Sheet) × (entries_drawn t s v w room is p ≡ Ok r) × (r.paths ≡ followed p.paths b)
  unfolding entries_drawn
  go_on [] p b e h = (p, refl, sym (ap (followed p.paths) (nobody t s v (places_behind w p.paths) b e) ∙ follow-none p.paths))
  go_on (i ∷ is) p b e h =
      let a = part-behind t s v (places_behind w p.paths) (i ∷ []) is b e in
      let n = length (followed p.paths a.0).starts in
      let f = pushed room p.ends n (omega (arith, h)) in
      let next-sheet : Sheet = record { paths = followed p.paths a.0; ends = p.ends ++ (n ∷ []) } in
      let g = go_on is next-sheet a.1 (ap (λ (u : Places). draw_part t s v u is) (sym (behind-behind w p.paths a.0)) ∙ a.3) (omega (arith, h, length-append p.ends (n ∷ []))) in (
        g.0,
        ap (λ (z : Result Paths Refusal). next z (λ (q : Paths). next (push room p.ends (length (followed p.paths q).starts)) (λ (ends : List ℕ). entries_drawn t s v w room is (record { paths = followed p.paths q; ends = ends })))) a.2
            ∙ ap (λ (z : Result (List ℕ) Refusal). next z (λ (ends : List ℕ). entries_drawn t s v w room is (record { paths = followed p.paths a.0; ends = ends }))) f
            ∙ g.1,
        g.2 ∙ follow-assoc p.paths a.0 a.1 ∙ ap (followed p.paths) (sym a.4),
      )

whole_part : (t : Float) (s : Scene) (v : View) (w : Places) → draw_part t s v w (drawn s.marks) ≡ draw_with t s v w
whole_part t s v w =
    ap (draw_part t s v w) (sym (take_all (length (drawn s.marks)) (drawn s.marks) (omega arith))) ∙ whole-is-range t s v w (length (drawn s.marks)) (omega arith)

pub draw-in-parts : DrawInParts
unfolding draw_in_parts
draw-in-parts t s v w q room e h =
    let a = part-behind t s v w [] (drawn s.marks) q (whole_part t s v w ∙ e) in
    let g = go_on t s v w room (drawn s.marks) (record { paths = a.0; ends = [] }) a.1 a.3 (omega (arith, h)) in
    (g.0, ap (λ (z : Result Paths Refusal). next z (λ (p : Paths). entries_drawn t s v w room (drawn s.marks) (record { paths = p; ends = [] }))) a.2 ∙ g.1, g.2 ∙ sym a.4)

-- ---- the other way
module _ (t : Float) (s : Scene) (v : View) (w : Places) (room : ℕ) where
  come-back : (none : Paths) → draw_part t s v w [] ≡ Ok none → (is : List ℕ) (p r : Sheet) → entries_drawn t s v w room is p ≡ Ok r
      → (u : Places) × (b : Paths) × (draw_part t s v u is ≡ Ok b) × (r.paths ≡ followed p.paths b)
  unfolding entries_drawn
  come-back none f [] p r e =
      (w, none, f, ap (λ (x : Sheet). x.paths) (sym (same_answer e)) ∙ sym (ap (followed p.paths) (nobody t s v w none f) ∙ follow-none p.paths))
  come-back none f (i ∷ is) p r e =
      let a = next-answered (draw_part t s v (places_behind w p.paths) (i ∷ [])) _ r e in
      let c = next-answered (push room p.ends (length (followed p.paths a.0).starts)) _ r a.2 in
      let g = come-back none f is (record { paths = followed p.paths a.0; ends = c.0 }) r c.2 in (
        more_places (places_behind w p.paths) g.0,
        followed a.0 g.1,
        parts_join t s v (places_behind w p.paths) g.0 (i ∷ []) is a.0 g.1 a.1 g.2,
        g.3 ∙ follow-assoc p.paths a.0 g.1,
      )

places-enough : (t : Float) (s : Scene) (v : View) (w : Places) (room : ℕ) (p : Sheet) → draw_in_parts t s v w room ≡ Ok p → (u : Places) × (draw_part t s v u (drawn s.marks) ≡ Ok p.paths)
unfolding draw_in_parts
places-enough t s v w room p e =
    let a = next-answered (draw_part t s v w []) _ p e in
    let g = come-back t s v w room a.0 a.1 (drawn s.marks) (record { paths = a.0; ends = [] }) p a.2 in
    (g.0, g.2 ∙ ap Ok (sym (g.3 ∙ ap (λ (x : Paths). followed x g.1) (nobody t s v w a.0 a.1) ∙ none-follow g.1)))

pub in-parts-alike : InPartsAlike
in-parts-alike = record {
  enough = λ t s v w room p e. let g = places-enough t s v w room p e in (g.0, sym (whole_part t s v g.0) ∙ g.1);
  alike = λ t s v w u room p q e f. let g = places-enough t s v w room p e in places-alike t s v g.0 u (drawn s.marks) p.paths q g.1 (whole_part t s v u ∙ f);
}

-- ---- the ends
module _ (t : Float) (s : Scene) (v : View) (w : Places) (room : ℕ) where
  ends-are : (is : List ℕ) (p r : Sheet) → entries_drawn t s v w room is p ≡ Ok r
      → (es : List ℕ) × (r.ends ≡ p.ends ++ es) × (length es ≡ length is)
      × ((k : ℕ) (u : Places) (a : Paths) → k < length is → draw_part t s v u (take (suc k) is) ≡ Ok a → get_or es k 0 ≡ length (followed p.paths a).starts)
  unfolding entries_drawn
  ends-are [] p r e = ([], ap (λ (x : Sheet). x.ends) (sym (same_answer e)) ∙ sym (append-nil p.ends), refl, λ k u a h f. absurd (omega (arith, h)))
  ends-are (i ∷ is) p r e =
      let a = next-answered (draw_part t s v (places_behind w p.paths) (i ∷ [])) _ r e in
      let n = length (followed p.paths a.0).starts in
      let c = next-answered (push room p.ends n) _ r a.2 in
      let g = ends-are is (record { paths = followed p.paths a.0; ends = c.0 }) r c.2 in (
        n ∷ g.0,
        g.1 ∙ ap (λ (l : List ℕ). l ++ g.0) (push-answered room p.ends n c.0 c.1) ∙ append_assoc p.ends (n ∷ []) g.0,
        ap suc g.2,
        by a.0 (places_behind w p.paths) a.1 g.0 g.3,
      )
    where
      by : (b : Paths) (w' : Places) → draw_part t s v w' (i ∷ []) ≡ Ok b → (es : List ℕ)
          → ((k : ℕ) (u : Places) (a : Paths) → k < length is → draw_part t s v u (take (suc k) is) ≡ Ok a → get_or es k 0 ≡ length (followed (followed p.paths b) a).starts)
          → (k : ℕ) (u : Places) (a : Paths) → k < length (i ∷ is) → draw_part t s v u (take (suc k) (i ∷ is)) ≡ Ok a → get_or (length (followed p.paths b).starts ∷ es) k 0 ≡ length (followed p.paths a).starts
      by b w' d es ih zero u a h f = ap (λ (x : Paths). length (followed p.paths x).starts) (places-alike t s v w' u (i ∷ []) b a d f)
      by b w' d es ih (suc k) u a h f =
          let x = part-splits t s v u (i ∷ []) (take (suc k) is) a f in
          let y : x.0 ≡ b = places-alike t s v u w' (i ∷ []) x.0 b x.2 d in
          ih k u x.1 (omega (arith, h)) x.3
          ∙ ap (λ (z : Paths). length z.starts) (follow-assoc p.paths b x.1 ∙ ap (followed p.paths) (sym (x.4 ∙ ap (λ (z : Paths). followed z x.1) y)))

pub ends-count : EndsCount
unfolding draw_in_parts
ends-count = record {
  each = λ t s v w room p e.
      let a = next-answered (draw_part t s v w []) _ p e in
      let g = ends-are t s v w room (drawn s.marks) (record { paths = a.0; ends = [] }) p a.2 in
      ap length g.1 ∙ g.2;
  upto = λ t s v w u room p k b e h f.
      let a = next-answered (draw_part t s v w []) _ p e in
      let g = ends-are t s v w room (drawn s.marks) (record { paths = a.0; ends = [] }) p a.2 in
      ap (λ (l : List ℕ). get_or l k 0) g.1 ∙ g.3 k u b h f ∙ ap (λ (x : Paths). length x.starts) (ap (λ (x : Paths). followed x b) (nobody t s v w a.0 a.1) ∙ none-follow b);
}
