-- What is asked of paths that are handed in. Assumes nothing.
use mathlib.Core.Path.{◌≡◌, refl, sym, ap, ◌∙◌}
use mathlib.Core.Bool.{Bool, true, false, cond, ◌&&◌, and-eq-true_iff}
use mathlib.Core.List.{List, [], ◌∷◌}
use Prim.Native.Nat.{ℕ, zero, suc, ◌+◌, ◌≤◌, ◌<◌, ◌%◌}
use native.Mathlib.Nat.{le_of_suc-le-suc}
use native.Mathlib.Numerals.{add-one}
use native.Mathlib.Omega.{arith}
use borrow.Author.Tests.{eq-eqb, ne_eqb}
use lib.Dec.{eqb}
use lib.ListN.{length, drop, get_or, drop_of_length-le}
use lib.Seq.{drop-cons}
use lib.Ieee.{Float}
use Rattle.geometry.specs.declared.vector.Vector.{Vector}
use Rattle.geometry.specs.Limits.{Within}
use Rattle.refusals.specs.declared.Refusal.{Refusal}
use Rattle.refusals.specs.declared.Refusal.TheVariants.{Lengths, Parts, View, Point}
use Rattle.rows.specs.Rows.{row}
use Rattle.rows.specs.Points.{point_of}
use Rattle.rows.specs.Starts.{good_starts}
use Rattle.rows.proofs.Rows.{get_d-view}
use Rattle.paths.specs.Ends.{places, all_points, nowhere}
use Rattle.limits.specs.Limits.{within_point}
use Rattle.limits.proofs.Limits.{within-point}
use Rattle.paths.specs.Judged.{points_ok, handed_over, paths_judged, unless}
use Rattle.paths.proofs.Parts.{length-points}
use Rattle.std.specs.Prelude.{Err, Ok, Result, ⊤}

-- ---- the loop over the points: what is left of it answers as the whole does
pub record Checking (path : List Float) (i : ℕ) : Type 0 where
  pub upto : i ≤ places path
  pub left : points_ok (drop i (all_points path)) ≡ points_ok (all_points path)

module _ (path : List Float) where
  pub checking-start : Checking path 0
  checking-start = record { upto = omega arith; left = refl }

  module _ (i : ℕ) (h : Checking path i) (l : i < places path) (v : Vector) (b : Bool) (ev : v ≡ point_of (row 3 i path)) (eb : b ≡ within_point v) where
    onward : points_ok (all_points path) ≡ b && points_ok (drop (i + 1) (all_points path))
    unfolding points_ok
    onward =
        let c : drop i (all_points path) ≡ get_or (all_points path) i nowhere ∷ drop (i + 1) (all_points path)
        = rw add-one (drop-cons (all_points path) i nowhere (rw (length-points (places path) path) l)) in
        let g : get_or (all_points path) i nowhere ≡ v = get_d-view 3 point_of (places path) i path nowhere l ∙ sym ev in
        sym h.left ∙ rw (c, g, ← eb)

    pub checking-turn : b ≡ true → Checking path (i + 1)
    checking-turn q = record { upto = omega arith; left = sym (onward ∙ rw q) }

    pub checking-bad : b ≡ false → false ≡ points_ok (all_points path)
    checking-bad q = sym (onward ∙ rw q)

  pub checking-end : (i : ℕ) → Checking path i → places path ≤ i → true ≡ points_ok (all_points path)
  unfolding points_ok
  checking-end i h l =
      let e : drop i (all_points path) ≡ [] = drop_of_length-le (all_points path) {i = i} (rw (length-points (places path) path) l) in
      sym (ap points_ok e) ∙ h.left

-- ---- what passes is within a million
pub points-within : (vs : List Vector) → points_ok vs ≡ true → (i : ℕ) → i < length vs → Within (get_or vs i nowhere)
unfolding points_ok
points-within [] e i h = absurd (omega arith)
points-within (v ∷ vs) e zero h = within-point v ((and-eq-true_iff (within_point v) (points_ok vs)).0 e).0
points-within (v ∷ vs) e (suc i) h = points-within vs ((and-eq-true_iff (within_point v) (points_ok vs)).0 e).1 i (le_of_suc-le-suc h)

-- ---- the verdict
handed-none : (xs : List Float) (ss : List ℕ) → length ss ≡ 0 → points_ok (handed_over xs ss) ≡ true
unfolding handed_over points_ok
handed-none xs [] h = refl
handed-none xs (s ∷ ss) h = absurd (omega arith)

pub handed-all : (xs : List Float) (ss : List ℕ) → (length ss ≡ 0 → ⊥) → handed_over xs ss ≡ all_points xs
unfolding handed_over
handed-all xs [] h = absurd (h refl)
handed-all xs (s ∷ ss) h = refl

module _ (xs : List Float) (ss : List ℕ) (fair : Bool) where
  pub judged-2 : (length xs % 3 ≡ 0 → ⊥) → Err Lengths ≡ paths_judged xs ss fair
  unfolding paths_judged
  judged-2 h = rw (ne_eqb (length xs % 3) 0 h)

  module _ (whole : length xs % 3 ≡ 0) (good : Bool) (eg : good ≡ good_starts (places xs) ss) where
    pub judged-4 : good ≡ false → Err Parts ≡ paths_judged xs ss fair
    unfolding paths_judged
    judged-4 h = rw (eq-eqb (length xs % 3) 0 whole, ← eg, h)

    module _ (up : good ≡ true) where
      pub judged-8 : fair ≡ false → Err View ≡ paths_judged xs ss fair
      unfolding paths_judged
      judged-8 h = rw (eq-eqb (length xs % 3) 0 whole, ← eg, up, h)

      module _ (nice : fair ≡ true) where
        pub judged-none : length ss ≡ 0 → Ok tt ≡ paths_judged xs ss fair
        unfolding paths_judged
        judged-none n = rw (eq-eqb (length xs % 3) 0 whole, ← eg, up, nice, handed-none xs ss n)

        module _ (some : length ss ≡ 0 → ⊥) (ok : Bool) (eo : ok ≡ points_ok (all_points xs)) where
          pub judged-9 : ok ≡ false → Err Point ≡ paths_judged xs ss fair
          unfolding paths_judged
          judged-9 h = rw (eq-eqb (length xs % 3) 0 whole, ← eg, up, nice, handed-all xs ss some, ← eo, h)

          pub judged-fine : ok ≡ true → Ok tt ≡ paths_judged xs ss fair
          unfolding paths_judged
          judged-fine h = rw (eq-eqb (length xs % 3) 0 whole, ← eg, up, nice, handed-all xs ss some, ← eo, h)

-- what passes
pub record Passed (xs : List Float) (ss : List ℕ) (fair : Bool) : Type 0 where
  pub good : good_starts (places xs) ss ≡ true
  pub nice : fair ≡ true
  pub near : points_ok (handed_over xs ss) ≡ true

pub judged-passed : (xs : List Float) (ss : List ℕ) (fair : Bool) → paths_judged xs ss fair ≡ Ok tt → Passed xs ss fair
unfolding paths_judged
judged-passed xs ss fair e =
    let w = by (eqb (length xs % 3) 0) (good_starts (places xs) ss) fair (points_ok (handed_over xs ss)) e in
    record { good = w.0; nice = w.1; near = w.2 }
  where
    fine : {A : Type 0} (k : Refusal) → Err k ≡ Ok (tt {0}) → A
    fine k q = let z : ◌≡◌ {A = ℕ} 0 1 = cc in absurd (omega arith)

    by : (a b c d : Bool) → cond a (cond b (cond c (cond d (Ok (tt {0})) (Err Point)) (Err View)) (Err Parts)) (Err Lengths) ≡ Ok (tt {0}) → (b ≡ true) × (c ≡ true) × (d ≡ true)
    by true true true true q = (refl, refl, refl)
    by true true true false q = fine Point q
    by true true false d q = fine View q
    by true false c d q = fine Parts q
    by false b c d q = fine Lengths q

-- ---- a call that is refused before, or goes on
pub unless-refused : {A : Type 0} {v : Result ⊤ Refusal} {k : Refusal} (a : Result A Refusal) → v ≡ Err k → Err k ≡ unless v a
unfolding unless
unless-refused a e = rw e

pub unless-fine : {A : Type 0} {v : Result ⊤ Refusal} (a : Result A Refusal) → v ≡ Ok tt → a ≡ unless v a
unfolding unless
unless-fine a e = rw e
