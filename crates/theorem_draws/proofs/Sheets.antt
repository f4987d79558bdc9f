-- What demand 3 rests on in a draw, wherever one is answered.
use Prim.Native.Nat.{ℕ, zero, suc, ◌<◌}
use mathlib.Core.Path.{◌≡◌, refl, sym, ap, subst, ◌∙◌}
use mathlib.Core.Logic.{◌⊎◌, inl, inr}
use mathlib.Core.Bool.{Bool, true, false, not, cond, ◌&&◌, and-eq-true_iff}
use mathlib.Core.List.{List, [], ◌∷◌, map}
use native.Mathlib.Omega.{arith}
use lib.ListN.{length, take, drop, length-map}
use lib.Seq.{slice}
use lib.Dec.{T}
use lib.Ieee.{Float, eq}
use Rattle.floats.specs.Arith.{zero_f}
use Rattle.geometry.specs.Vectors.{distance_of}
use Rattle.geometry.specs.Boxes.{clip_box, contains}
use Rattle.geometry.specs.Limits.{Within}
use Rattle.geometry.specs.declared.vector.Vector.{Vector}
use Rattle.matrix.specs.Matrices.{mul_position, mul_position_w}
use Rattle.rows.specs.Starts.{next_start}
use Rattle.refusals.specs.declared.Refusal.TheVariants.{Point}
use Rattle.scene_shape.specs.Shapes.{Shape, shape_box, shape_hit}
use Rattle.lists.specs.Lists.{Member, Pairwise}
use Rattle.limits.specs.Limits.{within_point, finite_matrix}
use Rattle.limits.proofs.Limits.{within-point}
use Rattle.check_parts.specs.Drawn.{drawn}
use Rattle.scene.specs.Scenes.{Scene}
use Rattle.tree_sight.specs.Sights.{eye_ray, Answered}
use Rattle.tree_sight.specs.declared.Sight.{Sight}
use Rattle.tree_sight.specs.declared.Sight.TheVariants.{Visible, Hidden}
use Rattle.theorem_hiding.specs.Covers.{NoMinusZero, PremiseWithin}
use Rattle.theorem_hiding.proofs.Hiding.{covered-is-hidden, hidden-falls-short, nothing-is-hidden}
use Rattle.query_scene.specs.Queries.{build_of, visible_of}
use Rattle.theorem_covering.proofs.Trees.{scene-tree}
use Rattle.theorem_covering.specs.Scenes.{CoversPoint, Short, DrawsSolid, BuiltRows}
use Rattle.paths.specs.Paths.{Paths, paths_of, with_points}
use Rattle.paths.specs.Ends.{held, Finished}
use Rattle.paths.specs.Judged.{points_ok}
use Rattle.paths.proofs.Closing.{finished-held}
use Rattle.paths.proofs.Adding.{no_answer, same_answer, next-answered}
use Rattle.path_rdp.specs.Demand.{Accepted, Simplifies}
use Rattle.path_simplify.specs.Simplify.{simplify_paths}
use Rattle.path_simplify.proofs.Calls.{paths-kept}
use Rattle.view.specs.Views.{extent_ok, step_ok, view_ok, viewport}
use Rattle.view.specs.declared.View.{View}
use Rattle.draw_clip.specs.Clip.{by_sight, clip_filter}
use Rattle.theorem_filters.specs.Kept.{Tested, kept_of}
use Rattle.theorem_filters.proofs.Kept.{stage-keeps}
use Rattle.theorem_filters.specs.Passing.{Exactly, LeftAfterClipping}
use Rattle.theorem_filters.proofs.Passing.{clipped-is-dropped, step-passes}
use Rattle.draw_collect.specs.Collect.{handed}
use Rattle.draw_render.specs.Render.{Places, stepping, simplified_lines, mapped}
use Rattle.draw.specs.Draw.{draw_with}
use Rattle.draw.specs.Drawing.{solid_in, seen_in, Drawing}
use Rattle.draw.proofs.Answered.{drawn-so}
use Rattle.theorem_draws.specs.Sheets.{Put, ClippedIn, PassedIn, HiddenIn}
use Rattle.theorem_draws.proofs.Seeing.{build-alike, seen_nothing, seen-tree, visible-is-seen}
use Rattle.std.specs.Prelude.{Err, None, Ok, Option, Result, Some}
use Rattle.refusals.specs.declared.Refusal.{Refusal}

-- The public call, where it answers with so many points and paths: they stand in its slices, and are the drawing.
pub call-drawn : (t : Float) (s : Scene) (v : View) (w : Places) (n m : ℕ) {xs : List Float} {ss : List ℕ} {r : Result (ℕ × ℕ) Refusal} → Finished (draw_with t s v w) n m xs ss r → (i j : ℕ) → r ≡ Ok (i, j)
    → Drawing t s v w (held i xs j ss)
call-drawn t s v w n m f i j e = drawn-so t s v w _ (finished-held (draw_with t s v w) n m f e)

-- Where a draw is answered the public build is, with as many places.
pub build-answered : {t : Float} {s : Scene} {v : View} {w : Places} {q : Paths} (D : Drawing t s v w q) → build_of s w.nodes w.order ≡ Ok D.nodes
build-answered {s = s} {w = w} D = build-alike s D.count D.accepted w.nodes w.order ∙ D.builds

-- ---- a point that was put to the eye test has passed number 9, and the eye number 8
put-to-eye : (w : Vector) (b j : Bool) (t : Result Sight Refusal) → T b → Tested (cond b (cond j (by_sight w t) (Err Point)) (Ok None)) → (j ≡ true) × Answered t
unfolding by_sight
put-to-eye w false j t l a = absurd l
put-to-eye w true false t l a = absurd (a Point refl)
put-to-eye w true true t l a = (refl, λ k e. a k (rw e))

eye-passes : (v : View) → view_ok v ≡ true → within_point v.eye ≡ true
unfolding view_ok
eye-passes v e =
    let a = ((and-eq-true_iff (finite_matrix v.matrix) (within_point v.eye && (extent_ok v.width && (extent_ok v.height && step_ok v.step)))).0 e).1 in
    ((and-eq-true_iff (within_point v.eye) (extent_ok v.width && (extent_ok v.height && step_ok v.step))).0 a).0

kept-not-dropped : {t : Result (Option Vector) Refusal} {x : Vector} → t ≡ Ok (Some x) → t ≡ Ok None → ⊥
kept-not-dropped a b = let z : ◌≡◌ {A = ℕ} 0 1 = cc in omega arith

clipped-or-left : (b : Bool) → (T b → ⊥) ⊎ T b
clipped-or-left true = inr tt
clipped-or-left false = inl (λ h. h)

yes_or_no : (t : Result Sight Refusal) → Answered t → (t ≡ Ok Visible) ⊎ (t ≡ Ok Hidden)
yes_or_no (Ok Visible) a = inl refl
yes_or_no (Ok Hidden) a = inr refl
yes_or_no (Err k) a = absurd (a k refl)

some-drawn : (l : List ℕ) (i : ℕ) → Member i l → 0 < length l
some-drawn [] i m = absurd m
some-drawn (x ∷ l) i m = omega arith

module _ {t : Float} {s : Scene} {v : View} {w : Places} {q : Paths} (D : Drawing t s v w q) where
  -- What step 4 leaves: the points that it passes, as they are projected, in order.
  pub step-four-leaves : D.passed.vertices ≡ kept_of (clip_filter v.matrix (seen_in s v.eye)) (paths_of D.lines.vertices D.lines.starts)
  step-four-leaves = (stage-keeps (clip_filter v.matrix (seen_in s v.eye)) D.lines.vertices D.lines.starts _ _ _ D.filters).0

  module _ (point : Vector) (put : Put D point) (left : LeftAfterClipping v.matrix point) where
    -- Step 4 passes a point left after clipping exactly if visible answers yes, and drops it as hidden exactly if it answers no.
    pub step_four : Exactly (PassedIn s v point) (seen_in s v.eye point ≡ Ok Visible) × Exactly (HiddenIn s v point) (seen_in s v.eye point ≡ Ok Hidden)
    step_four = step-passes v.matrix (seen_in s v.eye) D.lines.vertices D.lines.starts _ _ _ D.filters put.path put.among point put.on left

    judged : (within_point point ≡ true) × Answered (seen_in s v.eye point)
    unfolding clip_filter
    judged =
        put-to-eye (mul_position_w v.matrix point) (contains clip_box (mul_position_w v.matrix point)) (within_point point) (seen_in s v.eye point) left
        ((stage-keeps (clip_filter v.matrix (seen_in s v.eye)) D.lines.vertices D.lines.starts _ _ _ D.filters).1 put.path put.among point put.on)

    -- That answer is the one that the public call visible gives on the rows that the public build leaves of the scene.
    pub step-four-asks-visible : (nodeBoxes : List Float) (nodeMarks order : List ℕ) → BuiltRows s nodeBoxes nodeMarks order → visible_of s nodeBoxes nodeMarks order v.eye point ≡ seen_in s v.eye point
    step-four-asks-visible nodeBoxes nodeMarks order R = visible-is-seen s nodeBoxes nodeMarks order R v.eye point (eye-passes v D.fair) judged.0

    eye-in : Within v.eye
    eye-in = within-point v.eye (eye-passes v D.fair)

    point-in : Within point
    point-in = within-point point judged.0

    -- A point that a solid covers is dropped as hidden, and not passed, in every draw of every scene that draws the solid, whatever else the scene holds and in whatever
    -- order. The premise: the draw is answered, the computed distance isn't 0, no component of the normalised direction is -0.
    pub covered-point-dropped : (solid : Shape) → CoversPoint solid v.eye point → T (not (eq (distance_of v.eye point) zero_f)) → NoMinusZero (eye_ray v.eye point).direction
        → DrawsSolid s solid → HiddenIn s v point × (PassedIn s v point → ⊥)
    covered-point-dropped solid covers apart direction draws =
        let some = some-drawn (drawn s.marks) draws.0 draws.1 in
        let premise : PremiseWithin v.eye point = record { eye_within = eye-in; point_within = point-in; apart = apart; direction = direction } in
        let e = seen-tree s D.count D.accepted some v.eye point in
        let hidden : seen_in s v.eye point ≡ Ok Hidden =
        e ∙ covered-is-hidden Shape shape_box shape_hit solid v.eye point covers premise (solid_in s) (drawn s.marks) _ (scene-tree s D.count D.accepted some) draws (subst Answered e judged.1) in
        let d : HiddenIn s v point = step_four.1.1 hidden in
        (d, λ p. kept-not-dropped p d.dropped)

    short-of-eye : seen_in s v.eye point ≡ Ok Hidden → (solid : Shape) × DrawsSolid s solid × Short solid v.eye point
    short-of-eye hidden = go (drawn s.marks) refl
      where
        go : (l : List ℕ) → drawn s.marks ≡ l → (solid : Shape) × DrawsSolid s solid × Short solid v.eye point
        go [] none =
            let e : ◌≡◌ {A = Result Sight Refusal} (Ok Visible) (Ok Hidden) = sym (seen_nothing s none v.eye point ∙ nothing-is-hidden v.eye point eye-in point-in) ∙ hidden in
            let z : ◌≡◌ {A = ℕ} 0 1 = cc in absurd (omega arith)
        go (i ∷ l) more =
            let some : 0 < length (drawn s.marks) = rw more (omega arith) in
            hidden-falls-short Shape shape_box shape_hit v.eye point eye-in point-in (solid_in s) (drawn s.marks) _ (scene-tree s D.count D.accepted some)
            (sym (seen-tree s D.count D.accepted some v.eye point) ∙ hidden)

  -- No point is dropped as hidden unless some solid that the scene draws has an own returned distance that falls short of the eye.
  pub dropped-point-short : (point : Vector) → Put D point → HiddenIn s v point → (solid : Shape) × DrawsSolid s solid × Short solid v.eye point
  dropped-point-short point put d = short-of-eye point put d.left ((step_four point put d.left).1.0 d)

  -- Each point put to step 4 is clipped away, or passed, or dropped as hidden: there is no fourth way.
  pub each_point : (point : Vector) → Put D point → ClippedIn s v point ⊎ (PassedIn s v point ⊎ HiddenIn s v point)
  each_point point put = go (clipped-or-left (contains clip_box (mul_position_w v.matrix point)))
    where
      by : LeftAfterClipping v.matrix point → (seen_in s v.eye point ≡ Ok Visible) ⊎ (seen_in s v.eye point ≡ Ok Hidden) → PassedIn s v point ⊎ HiddenIn s v point
      by left (inl e) = inl ((step_four point put left).0.1 e)
      by left (inr e) = inr ((step_four point put left).1.1 e)

      go : (LeftAfterClipping v.matrix point → ⊥) ⊎ LeftAfterClipping v.matrix point → ClippedIn s v point ⊎ (PassedIn s v point ⊎ HiddenIn s v point)
      go (inl out) = inl (out, clipped-is-dropped v.matrix (seen_in s v.eye) point out)
      go (inr left) = inr (by left (yes_or_no (seen_in s v.eye point) (judged point put left).1))

-- ---- simplification
handed-over : (p : Paths) {o : Paths} → handed p ≡ Ok o → (points_ok p.vertices ≡ true) × (p ≡ o)
unfolding handed
handed-over p {o} e = go (points_ok p.vertices) e
  where
    go : (b : Bool) → cond b (Ok p) (Err Point) ≡ Ok o → (b ≡ true) × (p ≡ o)
    go true e = (refl, same_answer e)
    go false e = no_answer Point e

module _ {t : Float} {s : Scene} {v : View} {w : Places} {q : Paths} (D : Drawing t s v w q) where
  -- Where step > 0, before the viewport map: one path for each path with points that step 4 left, which keeps its ends and hands on what it keeps in order, bit for bit;
  -- each dropped vertex has computed distance at most the threshold from the segment replacing it.
  pub simplified_so : stepping v ≡ true
      → Pairwise (λ (p r : List Vector). Accepted t p × Simplifies t p r) (with_points (paths_of D.passed.vertices D.passed.starts)) (paths_of D.left.vertices D.left.starts)
  unfolding simplified_lines
  simplified_so h =
      let e : simplified_lines t w.points w.starts D.passed ≡ Ok D.left = sym (ap (λ (b : Bool). cond b (simplified_lines t w.points w.starts D.passed) (Ok D.passed)) h) ∙ D.simplifies in
      let a = next-answered (handed D.passed) (λ (p : Paths). simplify_paths t p.vertices p.starts w.points w.starts) D.left e in
      let b = handed-over D.passed a.1 in
      paths-kept t (subst T (sym D.threshold) tt) D.passed.vertices b.0 D.passed.starts w.points w.starts D.left
      (ap (λ (p : Paths). simplify_paths t p.vertices p.starts w.points w.starts) b.1 ∙ a.2)

  -- At step 0 nothing is simplified.
  pub unsimplified-so : stepping v ≡ false → D.left ≡ D.passed
  unsimplified-so h =
      sym (same_answer (sym (ap (λ (b : Bool). cond b (simplified_lines t w.points w.starts D.passed) (Ok D.passed)) h) ∙ D.simplifies))

-- ---- the sheet
module _ {A B : Type 0} (f : A → B) where
  take-map : (n : ℕ) (xs : List A) → take n (map f xs) ≡ map f (take n xs)
  take-map zero xs = refl
  take-map (suc n) [] = refl
  take-map (suc n) (x ∷ xs) = ap (λ (l : List B). f x ∷ l) (take-map n xs)

  drop-map : (n : ℕ) (xs : List A) → drop n (map f xs) ≡ map f (drop n xs)
  drop-map zero xs = refl
  drop-map (suc n) [] = refl
  drop-map (suc n) (x ∷ xs) = drop-map n xs

paths-map : (f : Vector → Vector) (vs : List Vector) (ss : List ℕ) → paths_of (map f vs) ss ≡ map (map f) (paths_of vs ss)
unfolding paths_of
paths-map f vs [] = refl
paths-map f vs (a ∷ ss) =
    let b = next_start (length vs) ss in
    let e : slice a b (map f vs) ≡ map f (slice a b vs) = ap (drop a) (take-map f b vs) ∙ drop-map f a (take b vs) in
    rw (length-map vs f, e, paths-map f vs ss)

-- The paths of the drawing are those that are left after step 5, each point mapped by the viewport matrix.
pub sheet-paths : {t : Float} {s : Scene} {v : View} {w : Places} {q : Paths} (D : Drawing t s v w q)
    → paths_of q.vertices q.starts ≡ map (map (mul_position (viewport v.width v.height))) (paths_of D.left.vertices D.left.starts)
unfolding mapped
sheet-paths {v = v} D =
    ap (λ (p : Paths). paths_of p.vertices p.starts) D.maps ∙ paths-map (mul_position (viewport v.width v.height)) D.left.vertices D.left.starts
