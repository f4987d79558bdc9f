-- The filter passes no more points than a chop leaves, so that what it passes fits where the chop's result does. Assumes nothing.
use mathlib.Core.Path.{◌≡◌, refl, sym, ap, ◌∙◌, subst}
use mathlib.Core.Bool.{Bool, true, false, ◌&&◌}
use mathlib.Core.List.{List, [], ◌∷◌, ◌++◌}
use Prim.Native.Nat.{ℕ, zero, suc, ◌+◌, ◌-◌, ◌*◌, ◌≤◌}
use native.Mathlib.Omega.{arith}
use borrow.Author.Tests.{leb-true}
use lib.Dec.{leb}
use lib.ListN.{length, take, length-append, length-take, length-drop}
use lib.Seq.{slice}
use lib.Ieee.{Float}
use Rattle.geometry.specs.declared.vector.Vector.{Vector}
use Rattle.geometry.specs.declared.bounding_box.BBox.{BBox}
use Rattle.rows.specs.Points.{points}
use Rattle.rows.specs.Starts.{next_start, rising}
use Rattle.scene_shape.specs.Shapes.{Shape}
use Rattle.query_scene.specs.Queries.{planted_of}
use Rattle.paths.specs.Answers.{next}
use Rattle.paths.specs.Paths.{Paths, paths_with, no_paths, push, opened, closed, paths_of, one_path, each, stage}
use Rattle.paths.specs.Ends.{all_points, held, EndsBoth}
use Rattle.paths.proofs.Adding.{no_answer, same_answer, next-answered, push-answered}
use Rattle.paths.proofs.Ending.{both_at}
use Rattle.paths.proofs.Laying.{Laid, laid_none, laid-rising, opened-laid, closed-laid, pushed-laid, each_laid}
use Rattle.paths.proofs.Parts.{length-points, part-all}
use Rattle.path_chop.specs.Chop.{screen_of, spot_of, middle_of, stops, push_or, subdivide, chop_from, path_chop, most_halvings}
use Rattle.path_chop.specs.declared.Screen.{Screen}
use Rattle.path_chop.specs.declared.Spot.{Spot}
use Rattle.path_filter.specs.Filter.{stepped, filtered_from, path_filter, filter_paths}
use Rattle.view.specs.declared.View.{View}
use Rattle.view.specs.declared.RenderArgs.{RenderArgs}
use Rattle.draw_clip.specs.Clip.{clip_filter, clip_paths}
use Rattle.draw_collect.specs.Collect.{handed, chopped_lines}
use Rattle.draw_render.specs.Render.{seen_by, on_tree, seen_lines}
use Rattle.std.specs.Prelude.{Err, None, Ok, Option, Result, Some}
use Rattle.refusals.specs.declared.Refusal.{Refusal}

-- ---- a chop leaves starts that rise
module _ {room startRoom : ℕ} (s : Screen) where
  subdivide-laid : (depth : ℕ) (a b : Spot) (o : Paths) (vs : List Vector) → subdivide s room depth a b o.vertices ≡ Ok vs → Laid room startRoom o → Laid room startRoom (paths_with vs o.starts)
  unfolding subdivide push_or
  subdivide-laid zero a b o vs e h = pushed-laid b.at o vs e h
  subdivide-laid (suc depth) a b o vs e h = by (stops s a b) e (λ c d p us q l. subdivide-laid depth c d p us q l)
    where
      by : (t : Bool) → push_or (λ (us : List Vector). next (subdivide s room depth a (middle_of s a b) us) (subdivide s room depth (middle_of s a b) b)) room b.at o.vertices t ≡ Ok vs
          → ((c d : Spot) (p : Paths) (us : List Vector) → subdivide s room depth c d p.vertices ≡ Ok us → Laid room startRoom p → Laid room startRoom (paths_with us p.starts))
          → Laid room startRoom (paths_with vs o.starts)
      by true q ih = pushed-laid b.at o vs q h
      by false q ih =
          let w = next-answered (subdivide s room depth a (middle_of s a b) o.vertices) (subdivide s room depth (middle_of s a b) b) vs q in
          ih (middle_of s a b) b (paths_with w.0 o.starts) vs w.2 (ih a (middle_of s a b) o w.0 w.1 h)

  chop-from-laid : (n : ℕ) (a : Spot) (ps : List Vector) (o : Paths) (vs : List Vector) → chop_from n s room a ps o.vertices ≡ Ok vs → Laid room startRoom o → Laid room startRoom (paths_with vs o.starts)
  unfolding chop_from
  chop-from-laid n a [] o vs e h = subst (λ (us : List Vector). Laid room startRoom (paths_with us o.starts)) (same_answer e) h
  chop-from-laid n a (p ∷ ps) o vs e h =
      let w = next-answered (subdivide s room n a (spot_of s p) o.vertices) (chop_from n s room (spot_of s p) ps) vs e in
      chop-from-laid n (spot_of s p) ps (paths_with w.0 o.starts) vs w.2 (subdivide-laid n a (spot_of s p) o w.0 w.1 h)

  path-chop-laid : (n : ℕ) (p : List Vector) (o : Paths) (vs : List Vector) → path_chop n s room p o.vertices ≡ Ok vs → Laid room startRoom o → Laid room startRoom (paths_with vs o.starts)
  unfolding path_chop
  path-chop-laid n [] o vs e h = subst (λ (us : List Vector). Laid room startRoom (paths_with us o.starts)) (same_answer e) h
  path-chop-laid n (p ∷ ps) o vs e h =
      let w = next-answered (push room o.vertices p) (chop_from n s room (spot_of s p) ps) vs e in
      chop-from-laid n (spot_of s p) ps (paths_with w.0 o.starts) vs w.2 (pushed-laid p o w.0 w.1 h)

  one-chop-laid : (n : ℕ) (p : List Vector) (o q : Paths) → one_path (path_chop n s) room startRoom p o ≡ Ok q → Laid room startRoom o → Laid room startRoom q
  unfolding one_path
  one-chop-laid n p o q e h =
      let a = next-answered (opened startRoom o) (λ (u : Paths). next (path_chop n s room p u.vertices) (λ (vs : List Vector). Ok (closed (paths_with vs u.starts)))) q e in
      let b = next-answered (path_chop n s room p a.0.vertices) (λ (vs : List Vector). Ok (closed (paths_with vs a.0.starts))) q a.2 in
      subst (Laid room startRoom) (same_answer b.2) (closed-laid (paths_with b.0 a.0.starts) (path-chop-laid n p a.0 b.0 b.1 (opened-laid o a.0 a.1 h)))

chopped-laid : (a : RenderArgs) (room startRoom : ℕ) (p q : Paths) → chopped_lines a room startRoom p ≡ Ok q → Laid room startRoom q
unfolding chopped_lines stage
chopped-laid a room startRoom p q e =
    let w = next-answered (handed p) (λ (u : Paths). each (one_path (path_chop most_halvings (screen_of a)) room startRoom) (paths_of u.vertices u.starts) no_paths) q e in
    each_laid (one_path (path_chop most_halvings (screen_of a)) room startRoom) (one-chop-laid (screen_of a) most_halvings) (paths_of w.0.vertices w.0.starts) no_paths q w.2 laid_none

-- ---- paths have no more points than there are, where starts rise
abbrev total : List (List Vector) → ℕ
total [] = 0
total (p ∷ ps) = length p + total ps

both_true : (a b : Bool) → (a && b) ≡ true → (a ≡ true) × (b ≡ true)
both_true true true e = (refl, refl)
both_true true false e = (refl, e)
both_true false b e = let z : ◌≡◌ {A = ℕ} 0 1 = cc in absurd (omega arith)

total-rising : (vs : List Vector) (ss : List ℕ) → rising (length vs) ss ≡ true → total (paths_of vs ss) + next_start (length vs) ss ≤ length vs
unfolding rising paths_of
total-rising vs [] h =
    let a : total (paths_of vs []) ≡ 0 = refl in
    let b : next_start (length vs) [] ≡ length vs = refl in
    omega (arith, a, b)
total-rising vs (s ∷ ss) h =
    let w = both_true (leb s (next_start (length vs) ss)) (rising (length vs) ss) h in
    let ih = total-rising vs ss w.1 in
    let a : total (paths_of vs (s ∷ ss)) ≡ length (slice s (next_start (length vs) ss) vs) + total (paths_of vs ss) = refl in
    let b : next_start (length vs) (s ∷ ss) ≡ s = refl in
    let l : length (slice s (next_start (length vs) ss) vs) ≡ length (take (next_start (length vs) ss) vs) - s = length-drop s (take (next_start (length vs) ss) vs) in
    let m = length-take (next_start (length vs) ss) vs in
    let k = leb-true s (next_start (length vs) ss) w.0 in
    omega (arith, ih, a, b, l, m, k)

-- ---- a point of the filter adds at most one
module _ (test : Vector → Result (Option Vector) Refusal) (room startRoom : ℕ) where
  opened-points : (o q : Paths) → opened startRoom o ≡ Ok q → length q.vertices ≡ length o.vertices
  unfolding opened
  opened-points o q e =
      let w = next-answered (push startRoom o.starts (length o.vertices)) (λ (ss : List ℕ). Ok (paths_with o.vertices ss)) q e in
      sym (ap (λ (x : Paths). length x.vertices) (same_answer w.2))

  closed-points : (o : Paths) → length (closed o).vertices ≡ length o.vertices
  unfolding closed
  closed-points o = refl

  step-few : (t : Result (Option Vector) Refusal) (o q : Paths) → stepped room startRoom t o ≡ Ok q → length q.vertices ≤ length o.vertices + 1
  unfolding stepped
  step-few (Ok (Some v)) o q e =
      let w = next-answered (push room o.vertices v) (λ (vs : List Vector). Ok (paths_with vs o.starts)) q e in
      let y : length w.0 ≡ length q.vertices = ap (λ (x : Paths). length x.vertices) (same_answer w.2) in
      let z : length w.0 ≡ length (o.vertices ++ (v ∷ [])) = ap length (push-answered room o.vertices v w.0 w.1) in
      omega (arith, y, z, length-append o.vertices (v ∷ []))
  step-few (Ok None) o q e = omega (arith, opened-points (closed o) q e, closed-points o)
  step-few (Err k) o q e = no_answer k e

  from-few : (vs : List Vector) (o q : Paths) → filtered_from test room startRoom vs o ≡ Ok q → length q.vertices ≤ length o.vertices + length vs
  unfolding filtered_from
  from-few [] o q e = let y : length o.vertices ≡ length q.vertices = ap (λ (x : Paths). length x.vertices) (same_answer e) in omega arith
  from-few (v ∷ vs) o q e =
      let w = next-answered (stepped room startRoom (test v) o) (filtered_from test room startRoom vs) q e in
      omega (arith, step-few (test v) o w.0 w.1, from-few vs w.0 q w.2)

  path-few : (p : List Vector) (o q : Paths) → path_filter test room startRoom p o ≡ Ok q → length q.vertices ≤ length o.vertices + length p
  unfolding path_filter
  path-few p o q e =
      let w = next-answered (opened startRoom o) (λ (u : Paths). next (filtered_from test room startRoom p u) (λ (r : Paths). Ok (closed r))) q e in
      let x = next-answered (filtered_from test room startRoom p w.0) (λ (r : Paths). Ok (closed r)) q w.2 in
      let y : length (closed x.0).vertices ≡ length q.vertices = ap (λ (u : Paths). length u.vertices) (same_answer x.2) in
      omega (arith, opened-points o w.0 w.1, from-few p w.0 x.0 x.1, closed-points x.0, y)

  each-few : (ps : List (List Vector)) (o q : Paths) → each (path_filter test room startRoom) ps o ≡ Ok q → length q.vertices ≤ length o.vertices + total ps
  unfolding each
  each-few [] o q e = let y : length o.vertices ≡ length q.vertices = ap (λ (x : Paths). length x.vertices) (same_answer e) in omega arith
  each-few (p ∷ ps) o q e =
      let w = next-answered (path_filter test room startRoom p o) (each (path_filter test room startRoom) ps) q e in
      let a : total (p ∷ ps) ≡ length p + total ps = refl in
      omega (arith, a, path-few p o w.0 w.1, each-few ps w.0 q w.2)

  filter-few : (vs : List Vector) (ss : List ℕ) (q : Paths) → rising (length vs) ss ≡ true → filter_paths test vs ss room startRoom ≡ Ok q → length q.vertices ≤ length vs
  unfolding stage
  filter-few vs ss q h e = let a : length no_paths.vertices ≡ 0 = refl in omega (arith, a, each-few (paths_of vs ss) no_paths q e, total-rising vs ss h)

on-tree : (b : Result ℕ Refusal) (a : Result Paths Refusal) {q : Paths} → on_tree b a ≡ Ok q → a ≡ Ok q
unfolding on_tree
on-tree (Ok n) a e = e
on-tree (Err k) a e = no_answer k e

-- what is seen of chopped lines is no more than they are
module _ (a : RenderArgs) (room startRoom : ℕ) (lines : Paths) {ys : List Float} {us : List ℕ} {c : Result (ℕ × ℕ) Refusal} (chop : EndsBoth (chopped_lines a room startRoom lines) ys us c) {p q : ℕ} (h : c ≡ Ok (p, q))
    (v : View) (nodes order : ℕ) (solid : ℕ → Shape) (box : ℕ → BBox) (ids : List ℕ) (room' startRoom' : ℕ) {zs : List Float} {vs : List ℕ} {d : Result (ℕ × ℕ) Refusal}
    (seen : EndsBoth (seen_lines v nodes order solid box ids room' startRoom' (paths_with (all_points (take (p * 3) ys)) (take q us))) zs vs d) where
  pub seen_few : {x y : ℕ} → d ≡ Ok (x, y) → x ≤ p
  unfolding seen_lines
  seen_few {x} {y} g =
      let fit = (chop.fits p q h).0 in
      let up : rising (length (points p ys)) (take q us) ≡ true = laid-rising (chopped-laid a room startRoom lines (held p ys q us) (both_at chop h)) in
      let all : all_points (take (p * 3) ys) ≡ points p ys = part-all ys p fit in
      let passed = on-tree (planted_of box ids nodes order) (clip_paths v.matrix (seen_by solid box ids v.eye) (all_points (take (p * 3) ys)) (take q us) room' startRoom') (both_at seen g) in
      let few = filter-few (clip_filter v.matrix (seen_by solid box ids v.eye)) room' startRoom' (points p ys) (take q us) (held x zs y vs) up
      (ap (λ (ps : List Vector). clip_paths v.matrix (seen_by solid box ids v.eye) ps (take q us) room' startRoom') (sym all) ∙ passed) in
      omega (arith, few, length-points x zs, length-points p ys)
