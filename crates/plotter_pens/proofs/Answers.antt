-- What each way through the code answers, by the definitions. Assumes nothing.
use mathlib.Core.Path.{◌≡◌, refl, sym, ap, ◌∙◌}
use mathlib.Core.Bool.{Bool, true, false}
use mathlib.Core.List.{List, []}
use Prim.Native.Nat.{ℕ, ◌+◌, ◌-◌, ◌*◌, ◌%◌, ◌<◌, ◌≤◌}
use native.Mathlib.Omega.{arith}
use borrow.Author.Tests.{eqb-true, eqb-false, eq-eqb, ne_eqb, lt-ltb, le-ltb}
use lib.Dec.{eqb}
use lib.Ieee.{Float}
use lib.ListN.{length, get_or, set, take, drop}
use lib.Seq.{slice}
use Rattle.geometry.specs.Vectors.{distance_squared}
use Rattle.geometry.specs.declared.vector.Vector.{Vector}
use Rattle.refusals.specs.declared.Refusal.{Refusal}
use Rattle.refusals.specs.declared.Refusal.TheVariants.{Lengths, Parts, Point}
use Rattle.rows.specs.Rows.{row}
use Rattle.rows.specs.Points.{point_of}
use Rattle.rows.proofs.Rows.{take-drop}
use Rattle.paths.specs.declared.Range.{Range}
use Rattle.paths.proofs.Parts.{range-fits}
use Rattle.plotter_pens.specs.declared.NearestPath.{NearestPath}
use Rattle.plotter_pens.specs.declared.Choice.{Choice}
use Rattle.plotter_pens.specs.declared.Choice.TheVariants.{Yard, Lines}
use Rattle.plotter_pens.specs.Pens.{LentDrawing, range_in, has_points, waits, nearer_path, offered, nearest_in, nearest_of_both, lengths_good, both_start_well, numbers_finite, picked_from, pick_of, pick_number, marks_after, part_of, Picked, HandedBack}
use Rattle.plotter_pens.specs.EachOnce.{path_count}
use Rattle.plotter_pens.proofs.Sound.{marks-count, found-waits, Found, pick-holds}
use Rattle.std.specs.Prelude.{Err, None, Ok, Option, Result, Some}

-- ---- a path that is offered
module _ (d : LentDrawing) (marks : List ℕ) (first : ℕ) (pen : Vector) (b : Option NearestPath) (k : ℕ) where
  pub offered-drawn : (get_or marks (first + k) 0 ≡ 0 → ⊥) → b ≡ offered d marks first pen b k
  unfolding offered waits
  offered-drawn h = rw (ne_eqb (get_or marks (first + k) 0) 0 h)

  module _ (undrawn : get_or marks (first + k) 0 ≡ 0) (r : Range) (is : r ≡ range_in d k) where
    pub offered-empty : r.end ≤ r.from → b ≡ offered d marks first pen b k
    unfolding offered waits has_points
    offered-empty h = rw (eq-eqb (get_or marks (first + k) 0) 0 undrawn, ← is, le-ltb r.from r.end h)

    pub offered-near : r.from < r.end → (p : Vector) → p ≡ point_of (row 3 r.from d.numbers) → (x : Float) → x ≡ distance_squared pen p
        → (n : Option NearestPath) → n ≡ nearer_path b (first + k) x → n ≡ offered d marks first pen b k
    unfolding offered waits has_points
    offered-near h p ep x ex n en = rw (eq-eqb (get_or marks (first + k) 0) 0 undrawn, ← is, lt-ltb r.from r.end h) (en ∙ rw (ex, ep))

-- the first point of a path that has points is there
pub first-there : (xs : List Float) (ss : List ℕ) (k : ℕ) (r : Range) → r ≡ range_in (record { numbers = xs; starts = ss }) k → r.from < r.end → r.from * 3 + 3 ≤ length xs
first-there xs ss k r is h = let f = range-fits xs ss k r is in omega (arith, f.1)

-- ---- what was found, in its drawing
module _ (yard lines : LentDrawing) (b : NearestPath) where
  pub from-yard : b.place < length yard.starts → (r : Range) → r ≡ range_in yard b.place → Ok (Some (Yard b.place r)) ≡ picked_from yard lines (Some b)
  unfolding picked_from
  from-yard l r is = rw (lt-ltb b.place (length yard.starts) l, is)

  pub from-lines : length yard.starts ≤ b.place → (r : Range) → r ≡ range_in lines (b.place - length yard.starts)
      → Ok (Some (Lines (b.place - length yard.starts) r)) ≡ picked_from yard lines (Some b)
  unfolding picked_from
  from-lines l r is = rw (le-ltb b.place (length yard.starts) l, is)

module _ (yard lines : LentDrawing) (marks : List ℕ) where
  -- ---- number 2
  pub lengths-yard : (length yard.numbers % 3 ≡ 0 → ⊥) → false ≡ lengths_good yard lines marks
  unfolding lengths_good
  lengths-yard h = rw (ne_eqb (length yard.numbers % 3) 0 h)

  module _ (whole : length yard.numbers % 3 ≡ 0) where
    pub lengths-lines : (length lines.numbers % 3 ≡ 0 → ⊥) → false ≡ lengths_good yard lines marks
    unfolding lengths_good
    lengths-lines h = rw (eq-eqb (length yard.numbers % 3) 0 whole, ne_eqb (length lines.numbers % 3) 0 h)

    module _ (whole-lines : length lines.numbers % 3 ≡ 0) where
      pub lengths-few : length marks < length yard.starts → false ≡ lengths_good yard lines marks
      unfolding lengths_good
      lengths-few h =
          rw (
            eq-eqb (length yard.numbers % 3) 0 whole,
            eq-eqb (length lines.numbers % 3) 0 whole-lines,
            ne_eqb (length marks) (path_count yard lines) (λ q. omega (arith, h, q)),
          )

      pub lengths-last : length yard.starts ≤ length marks → eqb (length marks - length yard.starts) (length lines.starts) ≡ lengths_good yard lines marks
      unfolding lengths_good
      lengths-last h = rw (eq-eqb (length yard.numbers % 3) 0 whole, eq-eqb (length lines.numbers % 3) 0 whole-lines) (by (eqb m n) refl)
        where
          m : ℕ
          m = length marks - length yard.starts

          n : ℕ
          n = length lines.starts

          by : (u : Bool) → eqb m n ≡ u → eqb m n ≡ eqb (length marks) (path_count yard lines)
          by true t = t ∙ sym (eq-eqb (length marks) (path_count yard lines) (omega (arith, eqb-true m n t, h)))
          by false t = t ∙ sym (ne_eqb (length marks) (path_count yard lines) (λ q. eqb-false m n t (omega (arith, q, h))))

  pub places-marked : (a : Bool) → a ≡ lengths_good yard lines marks → a ≡ true → length marks ≡ path_count yard lines
  places-marked a e f = marks-count yard lines marks (sym e ∙ f)

  module _ (pen : Vector) where
    -- ---- the pick
    module _ (a : Bool) (ea : a ≡ lengths_good yard lines marks) where
      pub pick-2 : a ≡ false → Err Lengths ≡ pick_of yard lines marks pen
      unfolding pick_of
      pick-2 h = rw (← ea, h)

      module _ (fa : a ≡ true) where
        module _ (b : Bool) (eb : b ≡ both_start_well yard lines) where
          pub pick-4 : b ≡ false → Err Parts ≡ pick_of yard lines marks pen
          unfolding pick_of
          pick-4 h = rw (← ea, fa, ← eb, h)

          module _ (fb : b ≡ true) (c : Bool) (ec : c ≡ numbers_finite yard lines pen) where
            pub pick-9 : c ≡ false → Err Point ≡ pick_of yard lines marks pen
            unfolding pick_of
            pick-9 h = rw (← ea, fa, ← eb, fb, ← ec, h)

            pub pick-near : c ≡ true → (p : Result (Option Choice) Refusal) → p ≡ picked_from yard lines (nearest_of_both yard lines marks pen) → p ≡ pick_of yard lines marks pen
            unfolding pick_of
            pick-near fc p ep = rw (← ea, fa, ← eb, fb, ← ec, fc) ep

    pub both-scanned : (y z : Option NearestPath) → y ≡ nearest_in yard marks 0 pen (length yard.starts) 0 None
        → z ≡ nearest_in lines marks (length yard.starts) pen (length lines.starts) 0 y → z ≡ nearest_of_both yard lines marks pen
    unfolding nearest_of_both
    both-scanned y z ey ez = ez ∙ rw ey

    pub both-there : (z : Option NearestPath) → z ≡ nearest_of_both yard lines marks pen → (b : NearestPath) → z ≡ Some b → b.place < path_count yard lines
    both-there z e b f = (found-waits yard lines marks pen b (sym e ∙ f)).there

    -- ---- what is done with it
    module _ (p : Result (Option Choice) Refusal) (ep : p ≡ pick_of yard lines marks pen) where
      of-yard : (k : ℕ) (r : Range) → p ≡ Ok (Some (Yard k r)) → Found yard lines marks pen k yard k r
      of-yard k r e = rw (sym ep ∙ e) at (pick-holds yard lines marks pen)

      of-lines : (k : ℕ) (r : Range) → p ≡ Ok (Some (Lines k r)) → Found yard lines marks pen (length yard.starts + k) lines k r
      of-lines k r e = rw (sym ep ∙ e) at (pick-holds yard lines marks pen)

      pub yard-marked : (k : ℕ) (r : Range) → p ≡ Ok (Some (Yard k r)) → k < length marks
      yard-marked k r e = (of-yard k r e).has-mark

      pub lines-marked : (k : ℕ) (r : Range) → p ≡ Ok (Some (Lines k r)) → length yard.starts + k < length marks
      lines-marked k r e = (of-lines k r e).has-mark

      pub yard-fits : (k : ℕ) (r : Range) → p ≡ Ok (Some (Yard k r)) → (r.from ≤ r.end) × (r.end * 3 ≤ length yard.numbers)
      yard-fits k r e = range-fits yard.numbers yard.starts k r (of-yard k r e).range

      pub lines_fit : (k : ℕ) (r : Range) → p ≡ Ok (Some (Lines k r)) → (r.from ≤ r.end) × (r.end * 3 ≤ length lines.numbers)
      lines_fit k r e = range-fits lines.numbers lines.starts k r (of-lines k r e).range

      pub picked-yard : (k : ℕ) (r : Range) → p ≡ Ok (Some (Yard k r)) → Picked yard lines marks pen p (set marks k 1)
      unfolding marks_after
      picked-yard k r e = record { answer = ep; marks_are = rw e }

      pub picked-lines : (k : ℕ) (r : Range) → p ≡ Ok (Some (Lines k r)) → Picked yard lines marks pen p (set marks (length yard.starts + k) 1)
      unfolding marks_after
      picked-lines k r e = record { answer = ep; marks_are = rw e }

      pub picked_none : p ≡ Ok None → Picked yard lines marks pen p marks
      unfolding marks_after
      picked_none e = record { answer = ep; marks_are = rw e }

      pub picked-refused : (x : Refusal) → p ≡ Err x → Picked yard lines marks pen p marks
      unfolding marks_after
      picked-refused x e = record { answer = ep; marks_are = rw e }

    -- ---- and handed back
    handed-so : (p : Result (Option Choice) Refusal) (after : List ℕ) (n : ℕ) (part : List Float) → Picked yard lines marks pen p after → n ≡ pick_number p → part ≡ part_of yard lines p
        → HandedBack yard lines marks pen part after n
    handed-so p after n part h en e =
        record {
          part_is = e ∙ ap (part_of yard lines) h.answer;
          marks_are = h.marks_are ∙ ap (marks_after (length yard.starts) marks) h.answer;
          number_is = en ∙ ap pick_number h.answer;
        }

    module _ (p : Result (Option Choice) Refusal) (after : List ℕ) (h : Picked yard lines marks pen p after) (n : ℕ) (en : n ≡ pick_number p) where
      pub handed-yard : (k : ℕ) (r : Range) → p ≡ Ok (Some (Yard k r)) → (part : List Float) → part ≡ slice (r.from * 3) (r.end * 3) yard.numbers → HandedBack yard lines marks pen part after n
      unfolding part_of
      handed-yard k r e part is = handed-so p after n part h en (is ∙ rw e)

      pub handed-lines : (k : ℕ) (r : Range) → p ≡ Ok (Some (Lines k r)) → (part : List Float) → part ≡ slice (r.from * 3) (r.end * 3) lines.numbers → HandedBack yard lines marks pen part after n
      unfolding part_of
      handed-lines k r e part is = handed-so p after n part h en (is ∙ rw e)

      pub handed-none : p ≡ Ok None → HandedBack yard lines marks pen [] after n
      unfolding part_of
      handed-none e = handed-so p after n [] h en (rw e)

      pub handed-refused : (x : Refusal) → p ≡ Err x → HandedBack yard lines marks pen [] after n
      unfolding part_of
      handed-refused x e = handed-so p after n [] h en (rw e)

-- a part of a slice, as the code takes it
pub part_slice : {A : Type 0} (a b : ℕ) (l : List A) → a ≤ b → take (b - a) (drop a l) ≡ slice a b l
part_slice a b l h = let e : a + (b - a) ≡ b = omega arith in take-drop (b - a) a l ∙ ap (λ (m : ℕ). drop a (take m l)) e
