-- A stage: one path after the other, whatever is done for each. Assumes nothing.
use mathlib.Core.Path.{◌≡◌, refl, sym, ap, ◌∙◌}
use mathlib.Core.List.{List}
use Prim.Native.Nat.{ℕ, ◌+◌, ◌*◌, ◌≤◌, ◌<◌}
use native.Mathlib.Numerals.{add-one}
use native.Mathlib.Omega.{arith}
use lib.ListN.{length, take, drop, drop_of_length-le}
use lib.Seq.{slice, drop-cons}
use lib.Ieee.{Float}
use Rattle.geometry.specs.declared.vector.Vector.{Vector}
use Rattle.refusals.specs.declared.Refusal.{Refusal}
use Rattle.rows.specs.Rows.{view}
use Rattle.rows.specs.Points.{points}
use Rattle.paths.specs.Answers.{next}
use Rattle.paths.specs.Paths.{Paths, push, paths_of, opened, closed_starts, closed, one_path, each, stage}
use Rattle.paths.specs.Ends.{places, all_points, Ends, EndsStarts, held, EndsBoth}
use Rattle.paths.specs.Ranges.{range_of}
use Rattle.paths.specs.declared.Range.{Range}
use Rattle.paths.proofs.Ending.{ends_at, ends-refused, both_at, both-refused, refuses-both, answers-both}
use Rattle.paths.proofs.Parts.{length-points, span-slice}
use Rattle.std.specs.Prelude.{Err, Ok, Result}

-- ---- one path: opened, worked, closed
module _ (work : ℕ → List Vector → List Vector → Result (List Vector) Refusal) (p : List Vector) (xs : List Float) (ss : List ℕ) (n m : ℕ) where
  pub one-full : (us : List ℕ) {r : Result ℕ Refusal} {k : Refusal} → EndsStarts (push (length ss) (take m ss) n) us r → r ≡ Err k
      → EndsBoth (one_path work (places xs) (length ss) p (held n xs m ss)) xs us (Err k)
  unfolding one_path opened
  one-full us h e = refuses-both xs us (rw (length-points n xs, ends-refused h e))

  module _ (us : List ℕ) {r : Result ℕ Refusal} {q : ℕ} (h : EndsStarts (push (length ss) (take m ss) n) us r) (e : r ≡ Ok q) (ys : List Float) {s : Result ℕ Refusal} (w : Ends (work (places xs) p (points n xs)) ys s) where
    pub one-refused : {k : Refusal} → s ≡ Err k → EndsBoth (one_path work (places xs) (length ss) p (held n xs m ss)) ys us (Err k)
    unfolding one_path opened
    one-refused f = refuses-both ys us (rw (length-points n xs, ends_at h e, ends-refused w f))

    pub one-done : {l : ℕ} (z : ℕ) → s ≡ Ok l → take z us ≡ closed_starts (take q us) l → z ≤ q → EndsBoth (one_path work (places xs) (length ss) p (held n xs m ss)) ys us (Ok (l, z))
    unfolding one_path opened closed
    one-done {l} z f c b =
        let y = h.fits q e in
        answers-both l z ys us (rw (length-points n xs, ends_at h e, ends_at w f, length-points l ys, ← c)) (w.fits l f) (omega arith)

-- ---- all paths: what is left to do answers as the whole does
module _ (f : ℕ → ℕ → List Vector → Paths → Result Paths Refusal) (path : List Float) (starts : List ℕ) (xs₀ : List Float) (ss₀ : List ℕ) where
  pub record Staging (xs : List Float) (ss : List ℕ) (i n m : ℕ) : Type 0 where
    pub same : length xs ≡ length xs₀
    pub same-starts : length ss ≡ length ss₀
    pub upto : i ≤ length starts
    pub fits : n * 3 ≤ length xs
    pub fits-starts : m ≤ length ss
    pub left : each (f (places xs₀) (length ss₀)) (paths_of (all_points path) (drop i starts)) (held n xs m ss) ≡ stage f (all_points path) starts (places xs₀) (length ss₀)

  pub staging-start : Staging xs₀ ss₀ 0 0 0
  unfolding view stage
  staging-start = record { same = refl; same-starts = refl; upto = omega arith; fits = omega arith; fits-starts = omega arith; left = refl }

  module _ (xs : List Float) (ss : List ℕ) (i n m : ℕ) (h : Staging xs ss i n m) where
    module _ (l : i < length starts) (p : Range) (is : p ≡ range_of (places path) starts i)
        (ys : List Float) (us : List ℕ) {r : Result (ℕ × ℕ) Refusal} (w : EndsBoth (f (places xs) (length ss) (slice p.from p.end (all_points path)) (held n xs m ss)) ys us r) where
      onward : stage f (all_points path) starts (places xs₀) (length ss₀)
          ≡ next (f (places xs) (length ss) (slice p.from p.end (all_points path)) (held n xs m ss)) (each (f (places xs₀) (length ss₀)) (paths_of (all_points path) (drop (i + 1) starts)))
      unfolding each paths_of
      onward = sym h.left ∙ rw (drop-cons starts i 0 l, span-slice path starts i p is, h.same, h.same-starts, add-one)

      pub staging-turn : {a b : ℕ} → length ys ≡ length xs → length us ≡ length ss → r ≡ Ok (a, b) → Staging ys us (i + 1) a b
      staging-turn {a} {b} kx ks q = record {
        same = kx ∙ h.same;
        same-starts = ks ∙ h.same-starts;
        upto = omega arith;
        fits = (w.fits a b q).0;
        fits-starts = (w.fits a b q).1;
        left = sym (onward ∙ ap (λ (t : Result Paths Refusal). next t (each (f (places xs₀) (length ss₀)) (paths_of (all_points path) (drop (i + 1) starts)))) (both_at w q));
      }

      pub staging-refused : {k : Refusal} → r ≡ Err k → EndsBoth (stage f (all_points path) starts (places xs₀) (length ss₀)) ys us (Err k)
      staging-refused q =
          refuses-both ys us (onward ∙ ap (λ (t : Result Paths Refusal). next t (each (f (places xs₀) (length ss₀)) (paths_of (all_points path) (drop (i + 1) starts)))) (both-refused w q))

    pub staging-end : length starts ≤ i → EndsBoth (stage f (all_points path) starts (places xs₀) (length ss₀)) xs ss (Ok (n, m))
    unfolding each paths_of
    staging-end l = answers-both n m xs ss (sym h.left ∙ rw (drop_of_length-le starts {i = i} l)) h.fits h.fits-starts
