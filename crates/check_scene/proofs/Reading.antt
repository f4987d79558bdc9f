-- The reading of a scene that names its parts well: a solid is its entry with the solids of its parts. Assumes nothing.
use Prim.Native.Nat.{ℕ, zero, suc, ◌*◌, ◌/◌, ◌<◌, ◌≤◌}
use mathlib.Core.Path.{◌≡◌, refl, sym, ap, ◌∙◌}
use mathlib.Core.List.{List}
use mathlib.Core.Bool.{Bool, true, false, ◌&&◌, cond}
use native.Mathlib.Omega.{arith}
use lib.ListN.{length, get_or}
use lib.Dec.{ltb, leb, eqb}
use lib.Ieee.{Float}
use borrow.Author.Tests.{eqb-true, eqb-false, ne_eqb, lt-ltb, le-ltb, ltb-true, ltb-false}
use Rattle.geometry.specs.declared.bounding_box.BBox.{BBox}
use Rattle.matrix_inverse.specs.Inverses.{inverted}
use Rattle.rows.specs.Rows.{view}
use Rattle.rows.specs.Entries.{numbers_of}
use Rattle.rows.specs.declared.Marks.{Marks}
use Rattle.rows.specs.declared.Numbers.{Numbers}
use Rattle.rows.proofs.Rows.{get_d-view}
use Rattle.scene.specs.Entries.{simple_of, simple_or, op_of, cut_of, composite_of, entry_of, matrix_of, matrix_numbers, marks_at, numbers_at, entry_at, own_entry}
use Rattle.scene.specs.declared.entry.Entry.{Entry}
use Rattle.scene.specs.declared.entry.Entry.TheVariants.{Simple as SimpleEntry, Placed, Cut}
use Rattle.scene_shape.specs.Shapes.{Shape, read, shape_of, shape_box, solid_of}
use Rattle.check_parts.specs.Parts.{parts_ok}
use Rattle.scene.specs.Scenes.{entries}
use Rattle.check_parts.proofs.Depths.{Part, depth_at, shallow, part-six, part-seven}
use Rattle.lists.specs.Lists.{list_to}
use Rattle.lists.proofs.Tests.{list_at}
use Rattle.check_scene.specs.Placings.{inverse_of, inverse_at, zero_numbers}
use Rattle.check_scene.specs.Extents.{entry_box, own_box}
use Rattle.std.specs.Prelude.{None, Option, Some}
use Rattle.solids.specs.declared.solid.Solid.{Solid}

-- each part of an entry has the property
abbrev pub Each : (ℕ → Type 0) → Option Entry → Type 0
Each P (Some (SimpleEntry s)) = Unit
Each P (Some (Placed m v k)) = P k
Each P (Some (Cut o a b)) = P a × P b
Each P None = Unit

pub each_map : {P Q : ℕ → Type 0} (e : Option Entry) → ((k : ℕ) → P k → Q k) → Each P e → Each Q e
each_map (Some (SimpleEntry s)) f h = tt
each_map (Some (Placed m v k)) f h = f k h
each_map (Some (Cut o a b)) f h = (f a h.0, f b h.1)
each_map None f h = tt

-- what is read of an entry hangs on its parts alone
pub shape-as : (F G : ℕ → Shape) (e : Option Entry) → Each (λ k. F k ≡ G k) e → shape_of F e ≡ shape_of G e
unfolding shape_of
shape-as F G (Some (SimpleEntry s)) h = refl
shape-as F G (Some (Placed m v k)) h = rw h
shape-as F G (Some (Cut o a b)) h = rw (h.0, h.1)
shape-as F G None h = refl

pub box-as : (F G : ℕ → BBox) (e : Option Entry) → Each (λ k. F k ≡ G k) e → entry_box F e ≡ entry_box G e
unfolding entry_box
box-as F G (Some (SimpleEntry s)) h = refl
box-as F G (Some (Placed m v k)) h = rw h
box-as F G (Some (Cut o a b)) h = rw (h.0, h.1)
box-as F G None h = refl

box-of-shape : (F : ℕ → Shape) (e : Option Entry) → shape_box (shape_of F e) ≡ entry_box (λ k. shape_box (F k)) e
unfolding shape_box shape_of entry_box
box-of-shape F (Some (SimpleEntry s)) = refl
box-of-shape F (Some (Placed m v k)) = refl
box-of-shape F (Some (Cut o a b)) = refl
box-of-shape F None = refl

-- the parts of an entry are those that its marks name
module _ (P : ℕ → Type 0) (m : Marks) (six : m.kind ≡ 6 → P m.first) (seven : m.kind ≡ 7 → P m.first × P m.second) where
  each-cut : (t : Bool) → m.kind ≡ 7 → Each P (cond t (Some (Cut (op_of m.detail) m.first m.second)) None)
  each-cut true e = seven e
  each-cut false e = tt

  each-composite : (n v : Numbers) (t6 t7 : Bool) → eqb m.kind 6 ≡ t6 → eqb m.kind 7 ≡ t7 → Each P (cond t6 (Some (Placed (matrix_of n) (matrix_of v) m.first)) (cond t7 (cut_of m) None))
  unfolding cut_of
  each-composite n v true t7 e6 e7 = six (eqb-true m.kind 6 e6)
  each-composite n v false true e6 e7 = each-cut (leb m.detail 3) (eqb-true m.kind 7 e7)
  each-composite n v false false e6 e7 = tt

  each_or : (s : Option Solid) (e : Option Entry) → Each P e → Each P (simple_or s e)
  unfolding simple_or
  each_or (Some s) e h = tt
  each_or None e h = h

  pub each-entry : (n v : Numbers) → Each P (entry_of m n v)
  unfolding entry_of composite_of
  each-entry n v = each_or (simple_of m.kind n) (composite_of m n v) (each-composite n v (eqb m.kind 6) (eqb m.kind 7) refl refl)

  pub each-if : (t : Bool) (n v : Numbers) → Each P (cond t (entry_of m n v) None)
  each-if true n v = each-entry n v
  each-if false n v = tt

-- ---- a scene that names its parts well
module _ (ns : List Float) (ms : List ℕ) (ok : parts_ok ms (entries ms) ≡ true) where
  pub own-parts : (i : ℕ) → i < entries ms → Each (Part ms i) (own_entry ns ms i)
  unfolding own_entry
  own-parts i h =
      each-if (Part ms i) (marks_at ms i) (part-six ms (entries ms) ok i h) (part-seven ms (entries ms) ok i h)
      (ltb i (length ns / 16) && ltb i (length ms / 4)) (numbers_at ns i) (matrix_numbers (inverted (matrix_of (numbers_at ns i))).inverse)

  -- deeper than its parts go a solid does not change
  settles : (d i : ℕ) → i < entries ms → depth_at ms i < d → read d (own_entry ns ms) i ≡ read (suc d) (own_entry ns ms) i
  unfolding read
  settles zero i h l = absurd (omega arith)
  settles (suc d) i h l =
      shape-as (read d (own_entry ns ms)) (read (suc d) (own_entry ns ms)) (own_entry ns ms i)
      (each_map (own_entry ns ms i) (λ k p. settles d k (omega (arith, p.0)) (omega (arith, p.1))) (own-parts i h))

  -- a solid is its entry with the solids of its parts
  pub solid-opens : (i : ℕ) → i < entries ms → solid_of ns ms i ≡ shape_of (solid_of ns ms) (own_entry ns ms i)
  unfolding read
  solid-opens i h =
      shape-as (read 7 (own_entry ns ms)) (read 8 (own_entry ns ms)) (own_entry ns ms i)
      (each_map (own_entry ns ms i) (λ k p. settles 7 k (omega (arith, p.0)) (omega (arith, p.1, shallow ms (entries ms) ok i h))) (own-parts i h))

  pub box_opens : (i : ℕ) → i < entries ms → own_box ns ms i ≡ entry_box (own_box ns ms) (own_entry ns ms i)
  box_opens i h = ap shape_box (solid-opens i h) ∙ box-of-shape (solid_of ns ms) (own_entry ns ms i)

-- ---- inverses that stand beside a scene
-- a kind that is no placing has no use for them
no-inverse : (m : Marks) (n v w : Numbers) → (m.kind ≡ 6 → ⊥) → entry_of m n v ≡ entry_of m n w
unfolding entry_of composite_of
no-inverse m n v w h = rw (ne_eqb m.kind 6 h)

inverse-read : (m : Marks) (n : Numbers) (t : Bool) → eqb m.kind 6 ≡ t → entry_of m n (cond t (matrix_numbers (inverted (matrix_of n)).inverse) zero_numbers) ≡ entry_of m n (matrix_numbers (inverted (matrix_of n)).inverse)
inverse-read m n true e = refl
inverse-read m n false e = no-inverse m n _ _ (eqb-false m.kind 6 e)

module _ (ns vs : List Float) (ms : List ℕ) (fit : entries ms * 16 ≤ length ns) (room : entries ms * 16 ≤ length vs)
    (held : view 16 numbers_of (entries ms) vs ≡ list_to (inverse_at ns ms) (entries ms)) where
  stored : (i : ℕ) → i < entries ms → numbers_at vs i ≡ inverse_at ns ms i
  stored i h = sym (get_d-view 16 numbers_of (entries ms) i vs zero_numbers h) ∙ ap (λ (l : List Numbers). get_or l i zero_numbers) held ∙ list_at (inverse_at ns ms) zero_numbers (entries ms) i h

  pub stored-entry : (i : ℕ) → i < entries ms → entry_at ns vs ms i ≡ own_entry ns ms i
  unfolding entry_at own_entry inverse_of
  stored-entry i h =
      rw (lt-ltb i (length ns / 16) (omega arith), lt-ltb i (length vs / 16) (omega arith), lt-ltb i (length ms / 4) h, stored i h)
      (inverse-read (marks_at ms i) (numbers_at ns i) (eqb (marks_at ms i).kind 6) refl)

  no-entry : (i : ℕ) → entries ms ≤ i → (a b : Bool) (x y : Option Entry) → cond (a && (b && ltb i (entries ms))) x None ≡ cond (a && ltb i (entries ms)) y None
  no-entry i h true true x y = rw (le-ltb i (entries ms) h)
  no-entry i h true false x y = rw (le-ltb i (entries ms) h)
  no-entry i h false b x y = refl

  -- each entry, or none, is read with them as with its own
  pub any_entry : (i : ℕ) → entry_at ns vs ms i ≡ own_entry ns ms i
  unfolding entry_at own_entry
  any_entry i = by (ltb i (entries ms)) refl
    where
      by : (t : Bool) → ltb i (entries ms) ≡ t → entry_at ns vs ms i ≡ own_entry ns ms i
      by true e = stored-entry i (ltb-true i (entries ms) e)
      by false e = no-entry i (ltb-false i (entries ms) e) (ltb i (length ns / 16)) (ltb i (length vs / 16)) _ _

  all-parts : (P : ℕ → Type 0) → ((k : ℕ) → P k) → (e : Option Entry) → Each P e
  all-parts P f (Some (SimpleEntry s)) = tt
  all-parts P f (Some (Placed m v k)) = f k
  all-parts P f (Some (Cut o a b)) = (f a, f b)
  all-parts P f None = tt

  -- the solids are read with them as with their own
  pub stored-solid : (d i : ℕ) → read d (entry_at ns vs ms) i ≡ read d (own_entry ns ms) i
  unfolding read
  stored-solid zero i = refl
  stored-solid (suc d) i =
      ap (shape_of (read d (entry_at ns vs ms))) (any_entry i)
      ∙ shape-as (read d (entry_at ns vs ms)) (read d (own_entry ns ms)) (own_entry ns ms i) (all-parts (λ k. read d (entry_at ns vs ms) k ≡ read d (own_entry ns ms) k) (λ k. stored-solid d k) (own_entry ns ms i))
