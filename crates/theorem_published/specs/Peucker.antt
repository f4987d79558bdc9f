-- Document 01's simplification against the published method of Ramer, Douglas and Peucker, as they describe it: with no scan for the farthest vertex, and
-- no count of rounds.
use Rattle.std.specs.Prelude.{◌≡◌, true, false, List, [], ◌∷◌, ◌++◌, ℕ, ◌+◌, ◌≤◌, ◌<◌, T, length, take, drop, Float}
use Rattle.std.specs.Float.Ieee.{lt, le}
use Rattle.floats.specs.Arith.{zero_f}
use Rattle.floats.specs.Numbers.{number}
use Rattle.geometry.specs.Vectors.{segment_distance}
use Rattle.geometry.specs.declared.vector.Vector.{Vector}
use Rattle.paths.specs.Paths.{front}
use Rattle.path_rdp.specs.Rdp.{vertex, first_vertex, last_vertex, farthest_of, simplified}
use Rattle.path_rdp.specs.Demand.{Accepted}

-- how far vertex i is from the segment that joins the path's ends
abbrev pub away : List Vector → ℕ → Float
away p i = segment_distance (vertex p i) (first_vertex p) (last_vertex p)

-- document 01's first farthest vertex stands at place k: between the ends, farther than each before it, and none is farther
pub record FirstFarthest (p : List Vector) (k : ℕ) : Type 0 where
  pub inside : (1 ≤ k) × (k + 2 ≤ length p)
  pub before : (i : ℕ) → 1 ≤ i → i < k → T (lt (away p i) (away p k))
  pub most : (i : ℕ) → 1 ≤ i → i + 2 ≤ length p → T (le (away p i) (away p k))

-- f simplifies by the published method, with the threshold t
pub record PublishedMethod (t : Float) (f : List Vector → List Vector) : Type 0 where
  -- a path of fewer than three vertices stays
  pub short : (p : List Vector) → length p < 3 → f p ≡ p
  -- where no vertex between the ends is farther than t, the ends alone are kept
  pub ends : (p : List Vector) → 3 ≤ length p → ((i : ℕ) → 1 ≤ i → i + 2 ≤ length p → T (le (away p i) t)) → f p ≡ first_vertex p ∷ last_vertex p ∷ []
  -- where the first farthest is farther than t, the path is split there; the two parts, which share that vertex, are simplified alike and joined, the
  -- vertex kept once
  pub split : (p : List Vector) (k : ℕ) → FirstFarthest p k → T (lt t (away p k)) → f p ≡ front (f (take (k + 1) p)) ++ f (drop k p)

-- Simplification is by the published method, where the threshold is not negative.
abbrev pub SimplifiedAsPublished : Type 0
SimplifiedAsPublished = (t : Float) → lt t zero_f ≡ false → PublishedMethod t (simplified t)

-- The method leaves no choice: whatever is by it simplifies each path that meets neither number 8 nor number 9 to the same vertices.
abbrev pub OnlyPublished : Type 0
OnlyPublished = (t : Float) (f : List Vector → List Vector) → PublishedMethod t f → (p : List Vector) → Accepted t p → f p ≡ simplified t p

-- ---- the scan
-- Where distances are numbers and the scan finds one above a threshold that is not negative, what it finds is the first farthest vertex, with its distance.
abbrev pub ScanFindsFirst : Type 0
ScanFindsFirst =
    (p : List Vector) → 3 ≤ length p → ((i : ℕ) → 1 ≤ i → i + 2 ≤ length p → T (number (away p i)))
    → (t : Float) → lt t zero_f ≡ false → lt t (farthest_of p).distance ≡ true → FirstFarthest p (farthest_of p).index × ((farthest_of p).distance ≡ away p (farthest_of p).index)

-- So it is on every path that meets neither number 8 nor number 9.
abbrev pub AcceptedScanFindsFirst : Type 0
AcceptedScanFindsFirst =
    (t : Float) (p : List Vector) → Accepted t p → 3 ≤ length p → lt t (farthest_of p).distance ≡ true
    → FirstFarthest p (farthest_of p).index × ((farthest_of p).distance ≡ away p (farthest_of p).index)

-- f simplifies by the method with the scan, which answers on every path, whatever is a NaN
pub record ScanMethod (t : Float) (f : List Vector → List Vector) : Type 0 where
  pub short : (p : List Vector) → length p < 3 → f p ≡ p
  pub ends : (p : List Vector) → 3 ≤ length p → lt t (farthest_of p).distance ≡ false → f p ≡ first_vertex p ∷ last_vertex p ∷ []
  pub split : (p : List Vector) → 3 ≤ length p → lt t (farthest_of p).distance ≡ true
      → f p ≡ front (f (take ((farthest_of p).index + 1) p)) ++ f (drop (farthest_of p).index p)

-- Simplification is by that method too, and it leaves no choice on any path.
abbrev pub SimplifiedByScan : Type 0
SimplifiedByScan = (t : Float) → lt t zero_f ≡ false → ScanMethod t (simplified t)

abbrev pub OnlyByScan : Type 0
OnlyByScan = (t : Float) → lt t zero_f ≡ false → (f : List Vector → List Vector) → ScanMethod t f → (p : List Vector) → f p ≡ simplified t p
