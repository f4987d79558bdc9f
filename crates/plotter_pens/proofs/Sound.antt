-- What a pick answers, taken apart: a path that waits, or nothing waits. Assumes nothing.
use mathlib.Core.Path.{◌≡◌, refl, sym, ◌∙◌}
use mathlib.Core.Bool.{Bool, true, false, cond, ◌&&◌, and-eq-true_iff}
use mathlib.Core.List.{List}
use Prim.Native.Nat.{ℕ, ◌+◌, ◌-◌, ◌%◌, ◌<◌, ◌≤◌}
use native.Mathlib.Nat.{zero-add}
use native.Mathlib.Omega.{arith}
use borrow.Author.Tests.{ltb-true, ltb-false, eqb-true, lt-ltb, le-ltb}
use lib.Dec.{eqb, ltb}
use lib.ListN.{length}
use Rattle.geometry.specs.declared.vector.Vector.{Vector}
use Rattle.rows.specs.Starts.{good_starts}
use Rattle.paths.specs.Ends.{places}
use Rattle.paths.specs.declared.Range.{Range}
use Rattle.refusals.specs.declared.Refusal.TheVariants.{Lengths, Parts, Point}
use Rattle.plotter_pens.specs.declared.NearestPath.{NearestPath}
use Rattle.plotter_pens.specs.declared.Choice.{Choice}
use Rattle.plotter_pens.specs.declared.Choice.TheVariants.{Yard, Lines}
use Rattle.plotter_pens.specs.Pens.{LentDrawing, range_in, waits, nearest_in, nearest_of_both, lengths_good, both_start_well, numbers_finite, picked_from, pick_of}
use Rattle.plotter_pens.specs.EachOnce.{path_count, non_empty_path}
use Rattle.plotter_pens.specs.FirstNearest.{waits_at}
use Rattle.plotter_pens.proofs.Scans.{scan-place, scan-none}
use Rattle.std.specs.Prelude.{Err, None, Ok, Option, Result, Some}
use Rattle.refusals.specs.declared.Refusal.{Refusal}

module _ (yard lines : LentDrawing) where
  pub record Waiting (marks : List ℕ) (i : ℕ) : Type 0 where
    pub so : waits_at yard lines marks i ≡ true
    pub there : i < path_count yard lines

  module _ (marks : List ℕ) where
    pub yard-at : (k : ℕ) → k < length yard.starts → waits yard marks 0 k ≡ waits_at yard lines marks (0 + k)
    unfolding waits waits_at non_empty_path
    yard-at k h = rw (zero-add, lt-ltb k (length yard.starts) h)

    pub lines_at : (k : ℕ) → waits lines marks (length yard.starts) k ≡ waits_at yard lines marks (length yard.starts + k)
    unfolding waits waits_at non_empty_path
    lines_at k =
        let n = length yard.starts in
        let e : n + k - n ≡ k = omega arith in
        rw (le-ltb (n + k) n (omega arith), e)

    pub marks-count : lengths_good yard lines marks ≡ true → length marks ≡ path_count yard lines
    unfolding lengths_good
    marks-count e =
        let c = eqb (length marks) (path_count yard lines) in
        let b = eqb (length lines.numbers % 3) 0 in
        let a = eqb (length yard.numbers % 3) 0 in
        eqb-true (length marks) (path_count yard lines) ((and-eq-true_iff b c).0 ((and-eq-true_iff a (b && c)).0 e).1).1

    module _ (pen : Vector) where
      pub found-waits : (b : NearestPath) → nearest_of_both yard lines marks pen ≡ Some b → Waiting marks b.place
      unfolding nearest_of_both
      found-waits b f =
          let n = length yard.starts in
          let m = length lines.starts in
          rw f at (scan-place lines marks n pen (Waiting marks) m (λ k l e. record { so = sym (lines_at k) ∙ e; there = omega arith }) m 0 _ (omega arith)
          (scan-place yard marks 0 pen (Waiting marks) n (λ k l e. record { so = sym (yard-at k l) ∙ e; there = omega arith }) n 0 None (omega arith) tt))

      pub none_waits : nearest_of_both yard lines marks pen ≡ None → (i : ℕ) → i < path_count yard lines → waits_at yard lines marks i ≡ false
      unfolding nearest_of_both
      none_waits e i h = by-drawing (ltb i n) refl
        where
          n : ℕ
          n = length yard.starts

          of-lines : (nearest_in yard marks 0 pen n 0 None ≡ None) × ((j : ℕ) → 0 ≤ j → j < 0 + length lines.starts → waits lines marks n j ≡ false)
          of-lines = scan-none lines marks n pen (length lines.starts) 0 (nearest_in yard marks 0 pen n 0 None) e

          by-drawing : (u : Bool) → ltb i n ≡ u → waits_at yard lines marks i ≡ false
          by-drawing true t =
              let l = ltb-true i n t in
              rw zero-add at (sym (yard-at i l) ∙ (scan-none yard marks 0 pen n 0 None of-lines.0).1 i (omega arith) (omega arith))
          by-drawing false t =
              let l = ltb-false i n t in
              let s : n + (i - n) ≡ i = omega arith in
              rw s at (sym (lines_at (i - n)) ∙ of-lines.1 (i - n) (omega arith) (omega arith))

      -- ---- an answer with what holds of it
      pub record Found (p : ℕ) (d : LentDrawing) (k : ℕ) (r : Range) : Type 0 where
        pub best : NearestPath
        pub found : nearest_of_both yard lines marks pen ≡ Some best
        pub place : best.place ≡ p
        pub in-drawing : k < length d.starts
        pub has-mark : p < length marks
        pub range : r ≡ range_in d k
        pub good : good_starts (places d.numbers) d.starts ≡ true

      abbrev pub Holds : Result (Option Choice) Refusal → Type 0
      Holds (Ok (Some (Yard k r))) = Found k yard k r
      Holds (Ok (Some (Lines k r))) = Found (length yard.starts + k) lines k r
      Holds (Ok None) = nearest_of_both yard lines marks pen ≡ None
      Holds (Err x) = Unit {0}

      from-holds : lengths_good yard lines marks ≡ true → both_start_well yard lines ≡ true → Holds (picked_from yard lines (nearest_of_both yard lines marks pen))
      unfolding picked_from both_start_well
      from-holds ok well = by-found (nearest_of_both yard lines marks pen) refl
        where
          n : ℕ
          n = length yard.starts

          starts : (good_starts (places yard.numbers) yard.starts ≡ true) × (good_starts (places lines.numbers) lines.starts ≡ true)
          starts = (and-eq-true_iff (good_starts (places yard.numbers) yard.starts) (good_starts (places lines.numbers) lines.starts)).0 well

          by-drawing : (b : NearestPath) → nearest_of_both yard lines marks pen ≡ Some b → (u : Bool) → ltb b.place n ≡ u
              → Holds (cond u (Ok (Some (Yard b.place (range_in yard b.place)))) (Ok (Some (Lines (b.place - n) (range_in lines (b.place - n))))))
          by-drawing b f true t =
              record { best = b; found = f; place = refl; in-drawing = ltb-true b.place n t; has-mark = rw (marks-count ok) (found-waits b f).there; range = refl; good = starts.0 }
          by-drawing b f false t =
              let l = ltb-false b.place n t in
              let s : n + (b.place - n) ≡ b.place = omega arith in
              let w = (found-waits b f).there in
              record { best = b; found = f; place = sym s; in-drawing = omega arith; has-mark = rw (s, marks-count ok) w; range = refl; good = starts.1 }

          by-found : (b : Option NearestPath) → nearest_of_both yard lines marks pen ≡ b → Holds (picked_from yard lines b)
          by-found None f = f
          by-found (Some b) f = by-drawing b f (ltb b.place n) refl

      pub pick-holds : Holds (pick_of yard lines marks pen)
      unfolding pick_of
      pick-holds = by_lengths (lengths_good yard lines marks) refl
        where
          p : Result (Option Choice) Refusal
          p = picked_from yard lines (nearest_of_both yard lines marks pen)

          by-starts : lengths_good yard lines marks ≡ true → (u v : Bool) → both_start_well yard lines ≡ u → Holds (cond u (cond v p (Err Point)) (Err Parts))
          by-starts e true true f = from-holds e f
          by-starts e true false f = tt
          by-starts e false v f = tt

          by_lengths : (u : Bool) → lengths_good yard lines marks ≡ u
              → Holds (cond u (cond (both_start_well yard lines) (cond (numbers_finite yard lines pen) p (Err Point)) (Err Parts)) (Err Lengths))
          by_lengths true e = by-starts e (both_start_well yard lines) (numbers_finite yard lines pen) refl
          by_lengths false e = tt
