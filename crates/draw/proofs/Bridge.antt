-- What the check leaves of an accepted scene is drawn as the scene itself. Assumes nothing.
use Prim.Native.Nat.{ℕ, ◌≤◌}
use mathlib.Core.Path.{◌≡◌, refl, sym, ap, ap₂, subst, fun_ext, ◌∙◌}
use mathlib.Core.List.{List, [], ◌∷◌}
use mathlib.Core.Bool.{◌&&◌, cond}
use native.Mathlib.Omega.{arith}
use lib.ListN.{length, take}
use lib.Dec.{leb}
use lib.Ieee.{Float}
use Rattle.floats.specs.Arith.{zero_f}
use Rattle.geometry.specs.Limits.{Sound}
use Rattle.geometry.specs.declared.ray.Ray.{Ray}
use Rattle.geometry.specs.declared.bounding_box.BBox.{BBox}
use Rattle.rows.specs.Rows.{padded}
use Rattle.scene.specs.Entries.{own_entry}
use Rattle.scene.specs.declared.entry.Entry.{Entry}
use Rattle.refusals.specs.declared.Refusal.TheVariants.{Room}
use Rattle.scene_shape.specs.Shapes.{Shape, shape_box, shape_hit}
use Rattle.tree_nodes.specs.Trees.{Tree, layout}
use Rattle.tree_nodes.specs.declared.Node.{Node}
use Rattle.lists.specs.Lists.{Each}
use Rattle.lists.proofs.Properties.{each_map}
use Rattle.tree_split.specs.Build.{Fits, box_at, nodes_for}
use Rattle.tree_split.proofs.Agreement.{same-tree}
use Rattle.tree_walk.specs.Walks.{nothing, visit}
use Rattle.check_parts.specs.Parts.{named_before}
use Rattle.scene.specs.Scenes.{Scene, entries_of}
use Rattle.check_parts.specs.Drawn.{drawn}
use Rattle.check_scene.specs.Extents.{own_box}
use Rattle.check_scene.specs.Checks.{check_of, inverses_of, boxes_of}
use Rattle.check_scene.proofs.Accepted.{accepted-few, own-entry, box-room, own-box}
use Rattle.check_sound.proofs.Sound.{accepted-sound}
use Rattle.query_scene.specs.Queries.{planted_of}
use Rattle.query_scene.proofs.Plants.{each-unnamed, accepted-many}
use Rattle.paths.specs.Answers.{next}
use Rattle.paths.specs.Paths.{Paths, no_paths}
use Rattle.view.specs.Views.{viewport, args_of}
use Rattle.view.specs.declared.View.{View}
use Rattle.draw_clip.specs.Clip.{clip_paths}
use Rattle.tree_sight.specs.Sights.{sees}
use Rattle.draw_collect.specs.Lined.{Lined, bare, read_lined, own_lines}
use Rattle.draw_collect.specs.Collect.{chopped_lines, collected_all}
use Rattle.draw_collect.specs.Slices.{lined_at}
use Rattle.draw_collect.proofs.Nesting.{bare-read}
use Rattle.draw_render.specs.Render.{Places, stepping, nearest_of, on_tree, seen_lines, simplified_lines, mapped, staged, rendered, rendered_part}
use Rattle.draw_render.specs.Slices.{Listed}
use Rattle.draw.specs.Draw.{lined_in, render}
use Rattle.std.specs.Prelude.{Err, Ok, Option, Result}
use Rattle.tree_walk.specs.declared.Nearest.{Nearest}
use Rattle.refusals.specs.declared.Refusal.{Refusal}

-- ---- a drawing hangs on the boxes of its solids alone
module _ (box box' : ℕ → BBox) where
  nodes-alike : (ids : List ℕ) → Each (λ (i : ℕ). box i ≡ box' i) ids → nodes_for box ids ≡ nodes_for box' ids
  unfolding nodes_for
  nodes-alike [] e = refl
  nodes-alike (i ∷ ids) e = ap layout (same-tree box box' (i ∷ ids) e)

  -- and so does the build
  pub planted-alike : (ids : List ℕ) → Each (λ (i : ℕ). box i ≡ box' i) ids → (places room : ℕ) → planted_of box ids places room ≡ planted_of box' ids places room
  unfolding planted_of
  planted-alike ids e places room = ap (λ (ns : List Node). cond (leb (length ids) room && leb (length ns) places) (Ok (length ns)) (Err Room)) (nodes-alike ids e)

  nearest-alike : (solid : ℕ → Shape) (ids : List ℕ) → Each (λ (i : ℕ). box i ≡ box' i) ids → nearest_of solid box ids ≡ nearest_of solid box' ids
  unfolding nearest_of
  nearest-alike solid ids e = fun_ext (λ (r : Ray). go ids e r)
    where
      go : (ids : List ℕ) → Each (λ (i : ℕ). box i ≡ box' i) ids → (r : Ray) → nearest_of solid box ids r ≡ nearest_of solid box' ids r
      go [] e r = refl
      go (i ∷ ids) e r = ap (λ (t : Tree ℕ). visit (λ (k : ℕ). shape_hit (solid k) r) r t 0 nothing) (same-tree box box' (i ∷ ids) e)

  module _ (t : Float) (v : View) (w : Places) (ids : List ℕ) (e : Each (λ (i : ℕ). box i ≡ box' i) ids) where
    seen_alike : (solid : ℕ → Shape) (room startRoom : ℕ) (p : Paths) → seen_lines v w.nodes w.order solid box ids room startRoom p ≡ seen_lines v w.nodes w.order solid box' ids room startRoom p
    unfolding seen_lines
    seen_alike solid room startRoom p =
        ap₂ (λ (b : Result ℕ Refusal) (near : Ray → Result Nearest Refusal). on_tree b (clip_paths v.matrix (sees near v.eye) p.vertices p.starts room startRoom))
        (planted-alike ids e w.nodes w.order) (nearest-alike solid ids e)

    staged-alike : (solid : ℕ → Shape) (p : Paths) → staged t v w solid box ids p ≡ staged t v w solid box' ids p
    unfolding staged
    staged-alike solid p =
        ap₂ (λ (f : Paths → Result Paths Refusal) (a : Result Paths Refusal). cond (stepping v)
        (next (chopped_lines (args_of v) w.lines.chopped w.lines.begins p) (λ (q : Paths). next (f q) (simplified_lines t w.points w.starts))) a)
        (fun_ext (λ (q : Paths). seen_alike solid w.lines.points w.lines.starts q)) (seen_alike solid w.points w.starts p)

    -- whatever the part whose lines are drawn
    pub boxes-alike : (lined : ℕ → Lined) (part : List ℕ) → rendered_part t v w lined box ids part ≡ rendered_part t v w lined box' ids part
    unfolding rendered_part
    boxes-alike lined part =
        ap (λ (f : Paths → Result Paths Refusal). next (collected_all (args_of v) w.lines lined part no_paths) (λ (p : Paths). next (f p) (λ (s : Paths). Ok (mapped (viewport v.width v.height) s))))
        (fun_ext (λ (p : Paths). staged-alike (λ (i : ℕ). bare (lined i)) p))

-- ---- what the check leaves
module _ (s : Scene) (n : ℕ) (is : check_of s ≡ Ok n) where
  module _ (L : ℕ) (vs : List Float) (left : vs ≡ padded zero_f L (inverses_of s)) where
    -- the drawn values read with the inverses that are left are the scene's own
    pub own-lined : lined_at 8 s.numbers vs s.marks s.points s.starts s.owners ≡ lined_in s
    own-lined =
        ap (λ (at : ℕ → Option Entry). read_lined 8 at (own_lines s.marks s.points s.starts s.owners))
        (fun_ext (λ (i : ℕ). own-entry s n is L vs left i))

  module _ (L : ℕ) (bs : List Float) (left : bs ≡ padded zero_f L (boxes_of s)) where
    -- and the boxes of the drawn entries are their own
    pub own-boxes : Each (λ (i : ℕ). box_at bs i ≡ own_box s.numbers s.marks i) (drawn s.marks)
    own-boxes =
        each-unnamed (λ (i : ℕ). box_at bs i ≡ own_box s.numbers s.marks i) (named_before s.marks (entries_of s)) (entries_of s)
        (λ i h. own-box s n is L bs left i h)

    lined-boxes : Each (λ (i : ℕ). box_at bs i ≡ shape_box (bare (lined_in s i))) (drawn s.marks)
    lined-boxes =
        each_map (λ (i : ℕ). box_at bs i ≡ own_box s.numbers s.marks i) (λ (i : ℕ). box_at bs i ≡ shape_box (bare (lined_in s i)))
        (λ i e. e ∙ sym (ap shape_box (bare-read (own_entry s.numbers s.marks) (own_lines s.marks s.points s.starts s.owners) 8 i)))
        (drawn s.marks) own-boxes

    boxes-fit : Each (Fits bs) (drawn s.marks)
    boxes-fit =
        each-unnamed (Fits bs) (named_before s.marks (entries_of s)) (entries_of s)
        (λ i h. record {
          there = omega (arith, box-room s n is L bs left);
          low = omega (arith, accepted-few s n is);
          sound = subst Sound (sym (own-box s n is L bs left i h)) (accepted-sound s n is i h);
        })

    -- so many solids are listed, each with its box
    pub accepted-listed : (ds : List ℕ) → n ≤ length ds → take n ds ≡ drawn s.marks → Listed bs ds n
    accepted-listed ds upto listed = record {
      upto = upto;
      few = accepted-many s n is;
      boxed = subst (Each (Fits bs)) (sym listed) boxes-fit;
    }

  -- what the check leaves is drawn as the scene is
  pub part-as-scene : (t : Float) (v : View) (w : Places) (L : ℕ) (vs : List Float) → vs ≡ padded zero_f L (inverses_of s) → (M : ℕ) (bs : List Float) → bs ≡ padded zero_f M (boxes_of s)
      → (ds : List ℕ) → take n ds ≡ drawn s.marks → (part : List ℕ)
      → rendered_part t v w (lined_at 8 s.numbers vs s.marks s.points s.starts s.owners) (box_at bs) (take n ds) part ≡ rendered_part t v w (lined_in s) (λ (i : ℕ). shape_box (bare (lined_in s i))) (drawn s.marks) part
  part-as-scene t v w L vs lv M bs lb ds listed part =
      ap₂ (λ (lined : ℕ → Lined) (ids : List ℕ). rendered_part t v w lined (box_at bs) ids part) (own-lined L vs lv) listed
      ∙ boxes-alike (box_at bs) (λ (i : ℕ). shape_box (bare (lined_in s i))) t v w (drawn s.marks) (lined-boxes M bs lb) (lined_in s) part

  pub rendered-is-render : (t : Float) (v : View) (w : Places) (L : ℕ) (vs : List Float) → vs ≡ padded zero_f L (inverses_of s) → (M : ℕ) (bs : List Float) → bs ≡ padded zero_f M (boxes_of s)
      → (ds : List ℕ) → take n ds ≡ drawn s.marks
      → rendered t v w (lined_at 8 s.numbers vs s.marks s.points s.starts s.owners) (box_at bs) (take n ds) ≡ render t v w (lined_in s) (drawn s.marks)
  unfolding render rendered rendered_part
  rendered-is-render t v w L vs lv M bs lb ds listed =
      part-as-scene t v w L vs lv M bs lb ds listed (take n ds)
      ∙ ap (rendered_part t v w (lined_in s) (λ (i : ℕ). shape_box (bare (lined_in s i))) (drawn s.marks)) listed
