-- A drawing hangs on the drawn values in their order, not on the numbers that name them: the proof. Assumes nothing.
use Prim.Native.Nat.{ℕ, zero, suc}
use mathlib.Core.Path.{◌≡◌, refl, sym, ap, ap₂, ◌∙◌, fun_ext, subst}
use mathlib.Core.Bool.{Bool, cond}
use native.Mathlib.Omega.{arith}
use mathlib.Core.List.{List, [], ◌∷◌, ◌++◌, map}
use lib.ListN.{length, length-map, get_or}
use lib.Ieee.{Float, le, eq}
use Rattle.floats.specs.Arith.{zero_f}
use Rattle.geometry.specs.Vectors.{distance_of}
use Rattle.geometry.specs.declared.vector.Vector.{Vector}
use Rattle.geometry.specs.declared.ray.Ray.{Ray}
use Rattle.geometry.specs.declared.bounding_box.BBox.{BBox}
use Rattle.scene_shape.specs.Shapes.{Shape, shape_hit, shape_box}
use Rattle.tree_nodes.specs.Trees.{Tree, layout}
use Rattle.tree_split.specs.Build.{tree_for, tree_of, nodes_for}
use Rattle.tree_walk.specs.Walks.{nothing, visit}
use Rattle.tree_sight.specs.Sights.{sees, by_distance, eye_ray}
use Rattle.tree_sight.specs.declared.Sight.{Sight}
use Rattle.tree_sight.specs.declared.Sight.TheVariants.{Visible, Hidden}
use Rattle.draw_clip.specs.Clip.{clip_paths}
use Rattle.query_scene.specs.Queries.{planted_of}
use Rattle.paths.specs.Answers.{next}
use Rattle.paths.specs.Paths.{Paths, no_paths}
use Rattle.view.specs.Views.{viewport, args_of}
use Rattle.view.specs.declared.View.{View}
use Rattle.view.specs.declared.RenderArgs.{RenderArgs}
use Rattle.draw_arcs.specs.Stances.{unplaced}
use Rattle.draw_collect.specs.Lined.{Lined, bare}
use Rattle.draw_collect.specs.Collect.{LineRoom, chopped_lines, collected, collected_all}
use Rattle.draw_render.specs.Render.{Places, stepping, nearest_of, seen_by, on_tree, seen_lines, simplified_lines, mapped, staged, rendered, rendered_part}
use Rattle.draw.specs.Draw.{render}
use Rattle.theorem_renaming.specs.Renaming.{SameDrawing}
use Rattle.theorem_renaming.proofs.Trees.{struck_by, renamed, tree_map, layout-map, visit-same, best-same}
use Rattle.std.specs.Prelude.{Err, Ok, Result}
use Rattle.geometry.specs.declared.hit.Hit.{Hit}
use Rattle.tree_walk.specs.declared.Nearest.{Nearest}
use Rattle.refusals.specs.declared.Refusal.{Refusal}

abbrev judged_by : Result Hit Refusal → Float → Result Sight Refusal
judged_by (Ok h) d = cond (le d h.t) (Ok Visible) (Ok Hidden)
judged_by (Err k) d = Err k

judged-by : (x : Result Nearest Refusal) (d : Float) → by_distance x d ≡ judged_by (struck_by x) d
unfolding by_distance struck_by
judged-by (Ok a) d = refl
judged-by (Err n) d = refl

judged-same : (x y : Result Nearest Refusal) (d : Float) → struck_by x ≡ struck_by y → by_distance x d ≡ by_distance y d
judged-same x y d e = judged-by x d ∙ ap (λ (s : Result Hit Refusal). judged_by s d) e ∙ sym (judged-by y d)

sees-same : (g h : Ray → Result Nearest Refusal) → ((r : Ray) → struck_by (g r) ≡ struck_by (h r)) → (eye point : Vector) → sees g eye point ≡ sees h eye point
unfolding sees
sees-same g h e eye point = ap (cond (eq (distance_of eye point) zero_f) (Ok Visible)) (judged-same (g (eye_ray eye point)) (h (eye_ray eye point)) (distance_of eye point) (e (eye_ray eye point)))

module _ (f : ℕ → ℕ) where
  collect-map : (a : RenderArgs) (w : LineRoom) (at : ℕ → Lined) (ids : List ℕ) (p : Paths) → collected_all a w at (map f ids) p ≡ collected_all a w (λ (i : ℕ). at (f i)) ids p
  unfolding collected_all
  collect-map a w at [] p = refl
  collect-map a w at (i ∷ ids) p = ap (next (collected (unplaced a) w (at (f i)) p)) (fun_ext (λ (q : Paths). collect-map a w at ids q))

  nearest-map : (solid : ℕ → Shape) (box : ℕ → BBox) (ids : List ℕ) (r : Ray) → struck_by (nearest_of solid box (map f ids) r) ≡ struck_by (nearest_of (λ (i : ℕ). solid (f i)) (λ (i : ℕ). box (f i)) ids r)
  unfolding nearest_of
  nearest-map solid box [] r = refl
  nearest-map solid box (i ∷ ids) r =
      ap (λ (t : Tree ℕ). struck_by (visit (λ (k : ℕ). shape_hit (solid k) r) r t 0 nothing)) (tree-for box (i ∷ ids))
      ∙ visit-same f (λ (k : ℕ). shape_hit (solid k) r) r (tree_for (λ (j : ℕ). box (f j)) (i ∷ ids)) 0 nothing nothing refl
    where
      tree-for : (box : ℕ → BBox) (l : List ℕ) → tree_for box (map f l) ≡ renamed f (tree_for (λ (j : ℕ). box (f j)) l)
      tree-for box l = ap (λ (n : ℕ). tree_of n box (map f l)) (length-map l f) ∙ tree_map f box (length l) l

  nodes-map : (box : ℕ → BBox) (ids : List ℕ) → nodes_for box (map f ids) ≡ nodes_for (λ (j : ℕ). box (f j)) ids
  unfolding nodes_for
  nodes-map box [] = refl
  nodes-map box (i ∷ ids) =
      ap layout (ap (λ (n : ℕ). tree_of (suc n) box (map f (i ∷ ids))) (length-map ids f) ∙ tree_map f box (suc (length ids)) (i ∷ ids)) ∙ layout-map f (tree_for (λ (j : ℕ). box (f j)) (i ∷ ids))

  planted-map : (box : ℕ → BBox) (ids : List ℕ) (n m : ℕ) → planted_of box (map f ids) n m ≡ planted_of (λ (j : ℕ). box (f j)) ids n m
  unfolding planted_of
  planted-map box ids n m = rw (nodes-map box ids, length-map ids f)

  seen-map : (solid : ℕ → Shape) (box : ℕ → BBox) (ids : List ℕ) (eye point : Vector) → seen_by solid box (map f ids) eye point ≡ seen_by (λ (i : ℕ). solid (f i)) (λ (i : ℕ). box (f i)) ids eye point
  seen-map solid box ids eye point = sees-same (nearest_of solid box (map f ids)) (nearest_of (λ (i : ℕ). solid (f i)) (λ (i : ℕ). box (f i)) ids) (λ r. nearest-map solid box ids r) eye point

  lines-map : (v : View) (n m : ℕ) (solid : ℕ → Shape) (box : ℕ → BBox) (ids : List ℕ) (r u : ℕ) (p : Paths) → seen_lines v n m solid box (map f ids) r u p ≡ seen_lines v n m (λ (i : ℕ). solid (f i)) (λ (i : ℕ). box (f i)) ids r u p
  unfolding seen_lines
  lines-map v n m solid box ids r u p =
      ap₂ on_tree (planted-map box ids n m) (ap (λ (see : Vector → Result Sight Refusal). clip_paths v.matrix see p.vertices p.starts r u) (fun_ext (λ (x : Vector). seen-map solid box ids v.eye x)))

  staged-map : (t : Float) (v : View) (w : Places) (solid : ℕ → Shape) (box : ℕ → BBox) (ids : List ℕ) (p : Paths) → staged t v w solid box (map f ids) p ≡ staged t v w (λ (i : ℕ). solid (f i)) (λ (i : ℕ). box (f i)) ids p
  unfolding staged
  staged-map t v w solid box ids p =
      ap₂ (λ (x y : Result Paths Refusal). cond (stepping v) x y)
      (ap (next (chopped_lines (args_of v) w.lines.chopped w.lines.begins p)) (fun_ext (λ (q : Paths). ap (λ (a : Result Paths Refusal). next a (simplified_lines t w.points w.starts)) (lines-map v w.nodes w.order solid box ids w.lines.points w.lines.starts q))))
      (lines-map v w.nodes w.order solid box ids w.points w.starts p)

  -- the same drawn values, under other numbers
  pub rendered-map : (t : Float) (v : View) (w : Places) (lined : ℕ → Lined) (box : ℕ → BBox) (ids : List ℕ) → rendered t v w lined box (map f ids) ≡ rendered t v w (λ (i : ℕ). lined (f i)) (λ (i : ℕ). box (f i)) ids
  unfolding rendered rendered_part
  rendered-map t v w lined box ids =
      ap₂ (λ (a : Result Paths Refusal) (g : Paths → Result Paths Refusal). next a g) (collect-map (args_of v) w.lines lined ids no_paths)
      (fun_ext (λ (p : Paths). ap (λ (a : Result Paths Refusal). next a (λ (s : Paths). Ok (mapped (viewport v.width v.height) s))) (staged-map t v w (λ (i : ℕ). bare (lined i)) box ids p)))

-- ---- the drawn values alone
-- the numbers from 0 on, as many as a list has
unfoldable counting : List ℕ → List ℕ
counting [] = []
counting (i ∷ ids) = 0 ∷ map suc (counting ids)

map-map : (f g : ℕ → ℕ) (l : List ℕ) → map f (map g l) ≡ map (λ (i : ℕ). f (g i)) l
map-map f g [] = refl
map-map f g (i ∷ l) = ap (λ (m : List ℕ). f (g i) ∷ m) (map-map f g l)

counted : (d : ℕ) (ids : List ℕ) → map (λ (j : ℕ). get_or ids j d) (counting ids) ≡ ids
unfolding counting
counted d [] = refl
counted d (i ∷ ids) = ap (λ (m : List ℕ). i ∷ m) (map-map (λ (j : ℕ). get_or (i ∷ ids) j d) suc (counting ids) ∙ counted d ids)

-- by their lengths alone
counting-as : (ids ids' : List ℕ) → length ids ≡ length ids' → counting ids ≡ counting ids'
unfolding counting
counting-as [] [] e = refl
counting-as [] (j ∷ ids') e = absurd (omega (arith, e))
counting-as (i ∷ ids) [] e = absurd (omega (arith, e))
counting-as (i ∷ ids) (j ∷ ids') e = ap (λ (l : List ℕ). 0 ∷ map suc l) (counting-as ids ids' (omega (arith, e)))

heads : {x y : Lined} {xs ys : List Lined} → x ∷ xs ≡ y ∷ ys → x ≡ y
heads e = cc

tails : {x y : Lined} {xs ys : List Lined} → x ∷ xs ≡ y ∷ ys → xs ≡ ys
tails e = cc

ended : {A : Type 0} {y : Lined} {ys : List Lined} → [] ≡ y ∷ ys → A
ended e = let z : ◌≡◌ {A = ℕ} 0 1 = cc in absurd (omega arith)

module _ (lined lined' : ℕ → Lined) where
  same_length : (ids ids' : List ℕ) → map lined ids ≡ map lined' ids' → length ids ≡ length ids'
  same_length [] [] e = refl
  same_length [] (j ∷ ids') e = ended e
  same_length (i ∷ ids) [] e = ended (sym e)
  same_length (i ∷ ids) (j ∷ ids') e = ap suc (same_length ids ids' (tails e))

  same_at : (ids ids' : List ℕ) (d d' : ℕ) → lined d ≡ lined' d' → map lined ids ≡ map lined' ids' → (k : ℕ) → lined (get_or ids k d) ≡ lined' (get_or ids' k d')
  same_at [] [] d d' h e k = h
  same_at [] (j ∷ ids') d d' h e k = ended e
  same_at (i ∷ ids) [] d d' h e k = ended (sym e)
  same_at (i ∷ ids) (j ∷ ids') d d' h e zero = heads e
  same_at (i ∷ ids) (j ∷ ids') d d' h e (suc k) = same_at ids ids' d d' h (tails e) k

-- Two lists of entries with the same drawn values in the same order have the same drawing, whatever their numbers.
pub same-drawing : SameDrawing
unfolding render rendered rendered_part collected_all staged seen_lines planted_of nearest_of nodes_for
same-drawing t v w lined lined' [] [] e = refl
same-drawing t v w lined lined' [] (j ∷ ids') e = ended e
same-drawing t v w lined lined' (i ∷ ids) [] e = ended (sym e)
same-drawing t v w lined lined' (i ∷ ids) (j ∷ ids') e =
    by lined (i ∷ ids) i
    ∙ ap₂ (λ (at : ℕ → Lined) (l : List ℕ). rendered t v w at (λ (k : ℕ). shape_box (bare (at k))) l)
    (fun_ext (λ (k : ℕ). same_at lined lined' (i ∷ ids) (j ∷ ids') i j (heads e) e k)) (counting-as (i ∷ ids) (j ∷ ids') (same_length lined lined' (i ∷ ids) (j ∷ ids') e))
    ∙ sym (by lined' (j ∷ ids') j)
  where
    by : (at : ℕ → Lined) (l : List ℕ) (d : ℕ) → rendered t v w at (λ (k : ℕ). shape_box (bare (at k))) l ≡ rendered t v w (λ (k : ℕ). at (get_or l k d)) (λ (k : ℕ). shape_box (bare (at (get_or l k d)))) (counting l)
    by at l d = ap (rendered t v w at (λ (k : ℕ). shape_box (bare (at k)))) (sym (counted d l)) ∙ rendered-map (λ (k : ℕ). get_or l k d) t v w at (λ (k : ℕ). shape_box (bare (at k))) (counting l)
