-- How a tree is planted in lent slices. Assumes nothing.
use Prim.Native.Nat.{ℕ, zero, suc, ◌<◌, ◌≤◌}
use mathlib.Core.Path.{◌≡◌, refl, sym, ap, subst, ◌∙◌}
use mathlib.Core.List.{List, [], ◌∷◌}
use mathlib.Core.Bool.{Bool, true, false, cond}
use native.Mathlib.Omega.{arith}
use lib.ListN.{length}
use lib.Ieee.{Float}
use borrow.Author.Tests.{le-leb, lt-leb}
use Rattle.floats.specs.Arith.{zero_f}
use Rattle.geometry.specs.Limits.{Sound}
use Rattle.geometry.specs.declared.bounding_box.BBox.{BBox}
use Rattle.rows.specs.Rows.{flat, padded}
use Rattle.refusals.specs.declared.Refusal.TheVariants.{Room}
use Rattle.tree_nodes.specs.Nodes.{box_rows, mark_rows}
use Rattle.tree_nodes.specs.declared.Node.{Node}
use Rattle.lists.specs.Lists.{Each}
use Rattle.lists.proofs.Properties.{each_append}
use Rattle.tree_split.specs.Build.{Fits, nodes_for, order_for}
use Rattle.tree_build.specs.Slices.{room_for, Stored}
use Rattle.check_parts.specs.Parts.{named_before}
use Rattle.check_parts.specs.Drawn.{unnamed, drawn}
use Rattle.check_scene.specs.Checks.{check_of, boxes_of}
use Rattle.scene.specs.Scenes.{Scene, entries_of}
use Rattle.check_scene.proofs.Verdicts.{is-accepted, accepted-same, drawn-few}
use Rattle.check_scene.proofs.Accepted.{accepted-few, own-box}
use Rattle.check_sound.specs.Passing.{Passing}
use Rattle.check_sound.proofs.Passing.{accepted-passes}
use Rattle.check_sound.proofs.Sound.{accepted-sound}
use Rattle.query_scene.specs.Queries.{planted_of, if_built, TreeLeft}
use Rattle.std.specs.Prelude.{Err, None, Ok, Option, Result, Some, ok_or}
use Rattle.refusals.specs.declared.Refusal.{Refusal}

abbrev pub built_of : Option ℕ → Result ℕ Refusal
built_of (Some n) = Ok n
built_of None = Err Room

pub built-so : (o : Option ℕ) → ok_or o Room ≡ built_of o
built-so (Some n) = refl
built-so None = refl

module _ (box : ℕ → BBox) (ids : List ℕ) (places B M O : ℕ) where
  as_room : (t : Bool) → built_of (cond t (Some (length (nodes_for box ids))) None) ≡ cond t (Ok (length (nodes_for box ids))) (Err Room)
  as_room true = refl
  as_room false = refl

  as_rows : {A : Type 0} (t : Bool) (xs : List A) → cond t xs [] ≡ if_built (built_of (cond t (Some (length (nodes_for box ids))) None)) xs
  unfolding if_built
  as_rows true xs = refl
  as_rows false xs = refl

  -- room in the order, and what the build stored
  pub planted : {o : Option ℕ} {bs : List Float} {ms os : List ℕ} → length ids ≤ O → Stored box ids places B M O o bs ms os → {r : Result ℕ Refusal} → r ≡ built_of o → TreeLeft box ids B M O (planted_of box ids places O) r bs ms os
  unfolding planted_of
  planted fit S e =
      let q = e ∙ ap built_of S.answer in
      record {
        answer = q ∙ as_room (room_for box ids places) ∙ rw (le-leb (length ids) O fit);
        boxes_are = S.rows ∙ rw q (ap (λ (ns : List Node). padded zero_f B (box_rows ns)) (as_rows (room_for box ids places) (nodes_for box ids)));
        marks_are = S.triples ∙ rw q (ap (λ (ns : List Node). padded 0 M (mark_rows ns)) (as_rows (room_for box ids places) (nodes_for box ids)));
        order_is = S.solids ∙ rw q (ap (padded 0 O) (as_rows (room_for box ids places) (order_for box ids)));
      }

  pub planted-from : {ids' : List ℕ} {O' : ℕ} → ids' ≡ ids → O' ≡ O → {o : Option ℕ} {bs : List Float} {ms os : List ℕ} → length ids ≤ O → Stored box ids' places B M O' o bs ms os
      → {r : Result ℕ Refusal} → r ≡ built_of o → TreeLeft box ids B M O (planted_of box ids places O) r bs ms os
  planted-from {ids'} {O'} ei eo {o} {bs} {ms} {os} fit S e =
      planted fit (subst (λ (l : List ℕ). Stored box l places B M O o bs ms os) ei (subst (λ (m : ℕ). Stored box ids' places B M m o bs ms os) eo S)) e

  -- no room in the order
  pub crowded : {bs : List Float} {ms os : List ℕ} → O < length ids → bs ≡ padded zero_f B [] → ms ≡ padded 0 M [] → os ≡ padded 0 O [] → TreeLeft box ids B M O (planted_of box ids places O) (Err Room) bs ms os
  unfolding planted_of if_built flat
  crowded h a b c = record { answer = rw (lt-leb (length ids) O h); boxes_are = a; marks_are = b; order_is = c }

-- ---- what an accepted scene has
pub each-unnamed : (P : ℕ → Type 0) (g : ℕ → Bool) (n : ℕ) → ((i : ℕ) → i < n → P i) → Each P (unnamed g n)
unfolding unnamed Each
each-unnamed P g zero h = tt
each-unnamed P g (suc n) h = each_append P (unnamed g n) (cond (g n) [] (n ∷ [])) (each-unnamed P g n (λ i l. h i (omega arith))) (last (g n))
  where
    last : (t : Bool) → Each P (cond t [] (n ∷ []))
    last true = tt
    last false = (h n (omega arith), tt)

module _ (s : Scene) (n : ℕ) (is : check_of s ≡ Ok n) where
  pub accepted-count : n ≡ length (drawn s.marks)
  accepted-count =
      let p : Passing s = accepted-passes s n is in
      sym (accepted-same (is-accepted s refl p.lengths refl p.values refl p.stripes refl p.names refl p.owners refl p.starts refl p.measures refl p.placings refl p.extents refl ∙ is))

  pub accepted-many : n ≤ 1024
  accepted-many = omega (arith, accepted-count, drawn-few s.marks, accepted-few s n is)

  pub accepted-fits : (bs : List Float) → 6144 ≤ length bs → (L : ℕ) → bs ≡ padded zero_f L (boxes_of s) → Each (Fits bs) (drawn s.marks)
  accepted-fits bs long L left =
      each-unnamed (Fits bs) (named_before s.marks (entries_of s)) (entries_of s)
      (λ i h. record {
        there = omega (arith, accepted-few s n is);
        low = omega (arith, accepted-few s n is);
        sound = subst Sound (sym (own-box s n is L bs left i h)) (accepted-sound s n is i h);
      })
