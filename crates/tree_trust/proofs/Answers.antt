-- A scene without cuts answers every ray. Assumes nothing.
use mathlib.Core.Path.{◌≡◌, refl}
use mathlib.Core.List.{List}
use mathlib.Core.Bool.{Bool, true, false, cond, not, ◌&&◌}
use Prim.Native.Nat.{ℕ, zero, suc, ◌/◌, ◌<◌}
use lib.ListN.{length}
use lib.Dec.{ltb, eqb}
use lib.Ieee.{Float}
use borrow.Author.Tests.{ltb-true, eqb-true, eqb-false, not-true}
use Rattle.geometry.specs.Hits.{no_hit}
use Rattle.geometry.specs.declared.ray.Ray.{Ray}
use Rattle.geometry.specs.declared.hit.Hit.{Hit}
use Rattle.matrix.specs.Matrices.{mul_ray}
use Rattle.floats.specs.Arith.{◌⊘◌}
use Rattle.lists.proofs.Tests.{all-at}
use Rattle.rows.specs.declared.Marks.{Marks}
use Rattle.rows.specs.declared.Numbers.{Numbers}
use Rattle.solids.specs.Solids.{hit_of}
use Rattle.scene.specs.Entries.{entry_of, entry_at, composite_of, simple_of, simple_or, cut_of, matrix_of, marks_at, numbers_at}
use Rattle.scene.specs.declared.entry.Entry.{Entry}
use Rattle.scene.specs.declared.entry.Entry.TheVariants.{Simple as SimpleEntry, Placed, Cut}
use Rattle.scene_shape.specs.Cuts.{rescaled}
use Rattle.scene_shape.specs.Shapes.{shape_of, read, shape_hit}
use Rattle.tree_walk.specs.Walks.{entry_hit}
use Rattle.tree_trust.specs.Trust.{Uncut, is_uncut}
use Rattle.std.specs.Prelude.{None, Ok, Option, Result, Some}
use Rattle.refusals.specs.declared.Refusal.{Refusal}
use Rattle.solids.specs.declared.solid.Solid.{Solid}

-- no entry is a cut
abbrev NoCuts : List ℕ → Type 0
NoCuts marks = (i : ℕ) → i < length marks / 4 → (marks_at marks i).kind ≡ 7 → ⊥

-- an entry that is not a cut
abbrev Whole : Option Entry → Type 0
Whole (Some (SimpleEntry s)) = Unit
Whole (Some (Placed m v k)) = Unit
Whole (Some (Cut o a b)) = ⊥
Whole None = Unit

whole-composite : (m : Marks) (n v : Numbers) → (m.kind ≡ 7 → ⊥) → Whole (composite_of m n v)
unfolding composite_of
whole-composite m n v h = go (eqb m.kind 6) (eqb m.kind 7) (eqb-true m.kind 7)
  where
    go : (a b : Bool) → (b ≡ true → m.kind ≡ 7) → Whole (cond a (Some (Placed (matrix_of n) (matrix_of v) m.first)) (cond b (cut_of m) None))
    go true b k = tt
    go false true k = absurd (h (k refl))
    go false false k = tt

whole-simple : (s : Option Solid) (e : Option Entry) → Whole e → Whole (simple_or s e)
unfolding simple_or
whole-simple (Some s) e w = tt
whole-simple None e w = w

whole-at : (numbers inverses : List Float) (marks : List ℕ) → NoCuts marks → (i : ℕ) → Whole (entry_at numbers inverses marks i)
unfolding entry_at entry_of
whole-at numbers inverses marks c i = go (ltb i (length numbers / 16)) (ltb i (length inverses / 16)) (ltb i (length marks / 4)) (ltb-true i (length marks / 4))
  where
    go : (a b d : Bool) → (d ≡ true → i < length marks / 4)
        → Whole (cond (a && (b && d)) (simple_or (simple_of (marks_at marks i).kind (numbers_at numbers i)) (composite_of (marks_at marks i) (numbers_at numbers i) (numbers_at inverses i))) None)
    go true true true k = whole-simple (simple_of (marks_at marks i).kind (numbers_at numbers i)) (composite_of (marks_at marks i) (numbers_at numbers i) (numbers_at inverses i)) (whole-composite (marks_at marks i) (numbers_at numbers i) (numbers_at inverses i) (c i (k refl)))
    go true true false k = tt
    go true false d k = tt
    go false b d k = tt

abbrev Hit-by : Result Hit Refusal → Type 0
Hit-by a = (h : Hit) × (a ≡ Ok h)

rescaled-hit : (scale : Float) (a : Result Hit Refusal) → Hit-by a → Hit-by (rescaled scale a)
unfolding rescaled
rescaled-hit scale a z = (record { t = z.0.t ⊘ scale; ok = z.0.ok }, rw z.1 refl)

module _ (at : ℕ → Option Entry) (w : (i : ℕ) → Whole (at i)) where
  shape-hit : (d : ℕ) (e : Option Entry) → Whole e → ((k : ℕ) (r : Ray) → Hit-by (shape_hit (read d at k) r)) → (r : Ray) → Hit-by (shape_hit (shape_of (read d at) e) r)
  unfolding shape_of shape_hit
  shape-hit d (Some (SimpleEntry s)) o f r = (hit_of s r, refl)
  shape-hit d (Some (Placed m v k)) o f r = rescaled-hit (mul_ray v r).scale (shape_hit (read d at k) (mul_ray v r).ray) (f k (mul_ray v r).ray)
  shape-hit d (Some (Cut q a b)) o f r = absurd o
  shape-hit d None o f r = (no_hit, refl)

  read-hit : (d i : ℕ) (r : Ray) → Hit-by (shape_hit (read d at i) r)
  unfolding read shape_hit
  read-hit zero i r = (no_hit, refl)
  read-hit (suc d) i r = shape-hit d (at i) (w i) (read-hit d) r

pub is-uncut : (marks : List ℕ) → is_uncut marks ≡ true → (numbers inverses : List Float) → Uncut numbers inverses marks
unfolding entry_hit is_uncut
is-uncut marks u numbers inverses r i = read-hit (entry_at numbers inverses marks) (whole-at numbers inverses marks none) 8 i r
  where
    none : NoCuts marks
    none k h = eqb-false (marks_at marks k).kind 7 (not-true (eqb (marks_at marks k).kind 7) (all-at (λ (j : ℕ). not (eqb (marks_at marks j).kind 7)) (length marks / 4) k u h))
