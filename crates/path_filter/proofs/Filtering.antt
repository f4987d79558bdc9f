-- The filter, for any test: a point's work, the loop over the points of a path, and a path. Assumes nothing.
use mathlib.Core.Path.{◌≡◌, refl, sym, ap, ◌∙◌}
use mathlib.Core.List.{List}
use Prim.Native.Nat.{ℕ, ◌+◌, ◌*◌, ◌≤◌, ◌<◌}
use native.Mathlib.Omega.{arith}
use lib.ListN.{length, take}
use lib.Seq.{slice, slice_empty}
use lib.Ieee.{Float}
use Rattle.geometry.specs.declared.vector.Vector.{Vector}
use Rattle.refusals.specs.declared.Refusal.{Refusal}
use Rattle.rows.specs.Rows.{row}
use Rattle.rows.specs.Points.{points, point_of}
use Rattle.paths.specs.Answers.{next}
use Rattle.paths.specs.Paths.{Paths, push, opened, closed_starts, closed}
use Rattle.paths.specs.Ends.{places, all_points, Ends, EndsStarts, held, EndsBoth}
use Rattle.paths.proofs.Ending.{ends_at, ends-refused, both_at, both-refused, refuses-both, answers-both}
use Rattle.paths.proofs.Parts.{length-points, part-cons}
use Rattle.path_filter.specs.Filter.{stepped, filtered_from, path_filter}
use Rattle.std.specs.Prelude.{Err, None, Ok, Option, Result, Some}

-- ---- a point
module _ (xs : List Float) (ss : List ℕ) (n m : ℕ) (t : Result (Option Vector) Refusal) where
  pub step-refused : {k : Refusal} → t ≡ Err k → EndsBoth (stepped (places xs) (length ss) t (held n xs m ss)) xs ss (Err k)
  unfolding stepped
  step-refused e = refuses-both xs ss (rw e)

  module _ {v : Vector} (e : t ≡ Ok (Some v)) (ys : List Float) {r : Result ℕ Refusal} (h : Ends (push (places xs) (points n xs) v) ys r) where
    pub keep-full : {k : Refusal} → r ≡ Err k → EndsBoth (stepped (places xs) (length ss) t (held n xs m ss)) ys ss (Err k)
    unfolding stepped
    keep-full f = refuses-both ys ss (rw (e, ends-refused h f))

    pub keep-on : {q : ℕ} → r ≡ Ok q → m ≤ length ss → EndsBoth (stepped (places xs) (length ss) t (held n xs m ss)) ys ss (Ok (q, m))
    unfolding stepped
    keep-on {q} f k = answers-both q m ys ss (rw (e, ends_at h f)) (h.fits q f) k

  module _ (e : t ≡ Ok None) (z : ℕ) (c : take z ss ≡ closed_starts (take m ss) n) (us : List ℕ) {r : Result ℕ Refusal} (h : EndsStarts (push (length ss) (take z ss) n) us r) where
    again : push (length ss) (closed_starts (take m ss) (length (points n xs))) (length (points n xs)) ≡ push (length ss) (take z ss) n
    again = rw (length-points n xs, c)

    pub drop-full : {k : Refusal} → r ≡ Err k → EndsBoth (stepped (places xs) (length ss) t (held n xs m ss)) xs us (Err k)
    unfolding stepped opened closed
    drop-full f = refuses-both xs us (rw (e, again, ends-refused h f))

    pub drop-on : {q : ℕ} → r ≡ Ok q → n * 3 ≤ length xs → EndsBoth (stepped (places xs) (length ss) t (held n xs m ss)) xs us (Ok (n, q))
    unfolding stepped opened closed
    drop-on {q} f k = answers-both n q xs us (rw (e, again, ends_at h f)) k (omega (arith, h.fits q f))

-- ---- point by point: what is left to test answers as the whole does
module _ (test : Vector → Result (Option Vector) Refusal) (path xs₀ : List Float) (ss₀ : List ℕ) (from end n₀ m₀ : ℕ) where
  pub record Filtering (xs : List Float) (ss : List ℕ) (i n m : ℕ) : Type 0 where
    pub same : length xs ≡ length xs₀
    pub same-starts : length ss ≡ length ss₀
    pub upto : i ≤ end
    pub within : end * 3 ≤ length path
    pub fits : n * 3 ≤ length xs
    pub fits-starts : m ≤ length ss
    pub left : filtered_from test (places xs₀) (length ss₀) (slice i end (all_points path)) (held n xs m ss)
        ≡ filtered_from test (places xs₀) (length ss₀) (slice from end (all_points path)) (held n₀ xs₀ m₀ ss₀)

  pub filtering-start : from ≤ end → end * 3 ≤ length path → n₀ * 3 ≤ length xs₀ → m₀ ≤ length ss₀ → Filtering xs₀ ss₀ from n₀ m₀
  filtering-start h k f g = record { same = refl; same-starts = refl; upto = h; within = k; fits = f; fits-starts = g; left = refl }

  module _ (xs : List Float) (ss : List ℕ) (i n m : ℕ) (h : Filtering xs ss i n m) where
    module _ (l : i < end) (v : Vector) (t : Result (Option Vector) Refusal) (ev : v ≡ point_of (row 3 i path)) (et : t ≡ test v)
        (ys : List Float) (us : List ℕ) {r : Result (ℕ × ℕ) Refusal} (w : EndsBoth (stepped (places xs) (length ss) t (held n xs m ss)) ys us r) where
      onward : filtered_from test (places xs₀) (length ss₀) (slice i end (all_points path)) (held n xs m ss)
          ≡ next (stepped (places xs) (length ss) t (held n xs m ss)) (filtered_from test (places xs₀) (length ss₀) (slice (i + 1) end (all_points path)))
      unfolding filtered_from
      onward = rw (part-cons path i end h.within v l ev, ← et, h.same, h.same-starts)

      pub filtering-turn : {a b : ℕ} → length ys ≡ length xs → length us ≡ length ss → r ≡ Ok (a, b) → Filtering ys us (i + 1) a b
      filtering-turn {a} {b} kx ks q = record {
        same = kx ∙ h.same;
        same-starts = ks ∙ h.same-starts;
        upto = omega arith;
        within = h.within;
        fits = (w.fits a b q).0;
        fits-starts = (w.fits a b q).1;
        left = sym (onward ∙ ap (λ (x : Result Paths Refusal). next x (filtered_from test (places xs₀) (length ss₀) (slice (i + 1) end (all_points path)))) (both_at w q)) ∙ h.left;
      }

      pub filtering-refused : {k : Refusal} → r ≡ Err k → EndsBoth (filtered_from test (places xs₀) (length ss₀) (slice from end (all_points path)) (held n₀ xs₀ m₀ ss₀)) ys us (Err k)
      filtering-refused q =
          refuses-both ys us (sym h.left ∙ onward ∙ ap (λ (x : Result Paths Refusal). next x (filtered_from test (places xs₀) (length ss₀) (slice (i + 1) end (all_points path)))) (both-refused w q))

    pub filtering-end : end ≤ i → EndsBoth (filtered_from test (places xs₀) (length ss₀) (slice from end (all_points path)) (held n₀ xs₀ m₀ ss₀)) xs ss (Ok (n, m))
    unfolding filtered_from
    filtering-end l =
        let e : i ≡ end = omega (arith, h.upto) in
        answers-both n m xs ss (sym h.left ∙ rw (e, slice_empty end (all_points path))) h.fits h.fits-starts

-- ---- opened, filtered, closed
module _ (test : Vector → Result (Option Vector) Refusal) (p : List Vector) (xs : List Float) (ss : List ℕ) (n m : ℕ) where
  pub path-full : (us : List ℕ) {r : Result ℕ Refusal} {k : Refusal} → EndsStarts (push (length ss) (take m ss) n) us r → r ≡ Err k → EndsBoth (path_filter test (places xs) (length ss) p (held n xs m ss)) xs us (Err k)
  unfolding path_filter opened
  path-full us h e = refuses-both xs us (rw (length-points n xs, ends-refused h e))

  module _ (us : List ℕ) {r : Result ℕ Refusal} {q : ℕ} (h : EndsStarts (push (length ss) (take m ss) n) us r) (e : r ≡ Ok q) (same : length us ≡ length ss)
      (ys : List Float) (vs : List ℕ) {c : Result (ℕ × ℕ) Refusal} (f : EndsBoth (filtered_from test (places xs) (length us) p (held n xs q us)) ys vs c) where
    begun : path_filter test (places xs) (length ss) p (held n xs m ss) ≡ next (filtered_from test (places xs) (length us) p (held n xs q us)) (λ (o : Paths). Ok (closed o))
    unfolding path_filter opened
    begun = rw (length-points n xs, ends_at h e, same)

    pub path-refused : {k : Refusal} → c ≡ Err k → EndsBoth (path_filter test (places xs) (length ss) p (held n xs m ss)) ys vs (Err k)
    path-refused g = refuses-both ys vs (begun ∙ ap (λ (x : Result Paths Refusal). next x (λ (o : Paths). Ok (closed o))) (both-refused f g))

    pub path-done : {a b : ℕ} (z : ℕ) → c ≡ Ok (a, b) → take z vs ≡ closed_starts (take b vs) a → z ≤ b → EndsBoth (path_filter test (places xs) (length ss) p (held n xs m ss)) ys vs (Ok (a, z))
    unfolding closed
    path-done {a} {b} z g k l =
        let y = (f.fits a b g).1 in
        answers-both a z ys vs (begun ∙ ap (λ (x : Result Paths Refusal). next x (λ (o : Paths). Ok (closed o))) (both_at f g) ∙ rw (length-points a ys, ← k)) (f.fits a b g).0 (omega arith)
