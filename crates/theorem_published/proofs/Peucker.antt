-- Simplification against Ramer, Douglas and Peucker: the proofs. Assumes nothing.
use mathlib.Core.Path.{◌≡◌, refl, sym, ap, ap₂, ◌∙◌, subst}
use mathlib.Core.Logic.{◌⊎◌, inl, inr}
use mathlib.Core.Bool.{Bool, true, false, not}
use mathlib.Core.List.{List, ◌++◌}
use Prim.Native.Nat.{ℕ, zero, suc, ◌+◌, ◌-◌, ◌≤◌, ◌<◌}
use native.Mathlib.Omega.{arith}
use lib.Dec.{T}
use lib.ListN.{length, take, drop, length-drop}
use lib.Seq.{length-take-le, get_or-take, get_or-drop}
use lib.Ieee.{Float, lt, le}
use lib.Ieee.Bits.{is_true}
use lib.Ieee.Fits.{and_l}
use lib.Ieee.Scale.{finite}
use Rattle.floats.specs.Arith.{zero_f}
use Rattle.floats.specs.Numbers.{number}
use Rattle.floats.proofs.Order.{finite_number, le-or-lt, le-number-l, le-number-r, le_trans, le-not-gt, lt-le-trans, not-gt→le}
use Rattle.geometry.specs.Limits.{Within}
use Rattle.geometry.specs.declared.vector.Vector.{Vector}
use Rattle.paths.specs.Paths.{front}
use Rattle.paths.specs.Ends.{nowhere}
use Rattle.path_rdp.specs.Rdp.{vertex, farthest_of, simplified, threshold_ok}
use Rattle.path_rdp.specs.Demand.{Accepted}
use Rattle.path_rdp.proofs.Scanning.{far-inside}
use Rattle.path_rdp.proofs.Splitting.{simplified-short, simplified-ends, simplified-split}
use Rattle.theorem_published.specs.Peucker.{away, FirstFarthest, PublishedMethod, SimplifiedAsPublished, OnlyPublished, ScanMethod, SimplifiedByScan, OnlyByScan}
use Rattle.theorem_published.proofs.Farthest.{most-far, scan-finds-first, accepted-distances, accepted-low, accepted-scan-finds-first}

-- ---- the method with the scan
pub simplified_by_scan : SimplifiedByScan
simplified_by_scan t low = record { short = simplified-short t low; ends = simplified-ends t low; split = simplified-split t low }

module _ (t : Float) (low : lt t zero_f ≡ false) (f : List Vector → List Vector) (m : ScanMethod t f) where
  scan-far : (n : ℕ) (p : List Vector) → 3 ≤ length p → length p ≤ suc n → ((q : List Vector) → length q ≤ n → f q ≡ simplified t q) → (b : Bool) → lt t (farthest_of p).distance ≡ b → f p ≡ simplified t p
  scan-far n p h l ih true e =
      let k = (farthest_of p).index in
      let w = far-inside p t low e in
      m.split p h e
      ∙ ap₂ (λ (x y : List Vector). front x ++ y) (ih (take (k + 1) p) (omega (arith, w.1, length-take-le (k + 1) p (omega (arith, w.1))))) (ih (drop k p) (omega (arith, w.0, length-drop k p)))
      ∙ sym (simplified-split t low p h e)
  scan-far n p h l ih false e = m.ends p h e ∙ sym (simplified-ends t low p h e)

  scan-up : (n : ℕ) (p : List Vector) → length p ≤ n → f p ≡ simplified t p
  scan-up zero p h = m.short p (omega arith) ∙ sym (simplified-short t low p (omega arith))
  scan-up (suc n) p h = by (λ (q : List Vector) l. scan-up n q l) (le-or-lt 3 (length p))
    where
      by : ((q : List Vector) → length q ≤ n → f q ≡ simplified t q) → (3 ≤ length p) ⊎ (length p < 3) → f p ≡ simplified t p
      by ih (inl s) = scan-far n p s h ih (lt t (farthest_of p).distance) refl
      by ih (inr s) = m.short p s ∙ sym (simplified-short t low p s)

pub only-by-scan : OnlyByScan
only-by-scan t low f m p = scan-up t low f m (length p) p (omega arith)

-- ---- the published method: there is one first farthest vertex at most
first-only : (p : List Vector) (j k : ℕ) → FirstFarthest p j → FirstFarthest p k → j ≡ k
first-only p j k F G = by (le-or-lt j k) (le-or-lt k j)
  where
    by : (j ≤ k) ⊎ (k < j) → (k ≤ j) ⊎ (j < k) → j ≡ k
    by (inl a) (inl b) = omega arith
    by (inl a) (inr b) = absurd (le-not-gt (away p k) (away p j) (F.most k G.inside.0 G.inside.1) (G.before j F.inside.0 b))
    by (inr a) c = absurd (le-not-gt (away p j) (away p k) (G.most j F.inside.0 F.inside.1) (F.before k G.inside.0 a))

module _ (t : Float) (low : lt t zero_f ≡ false) where
  -- no vertex farther than t: the scan finds none
  ends-near : (p : List Vector) → 3 ≤ length p → ((i : ℕ) → 1 ≤ i → i + 2 ≤ length p → T (le (away p i) t)) → (b : Bool) → lt t (farthest_of p).distance ≡ b → lt t (farthest_of p).distance ≡ false
  ends-near p h near false e = e
  ends-near p h near true e =
      let w = scan-finds-first p h (λ i a l. le-number-l (away p i) t (near i a l)) t low e in
      let k = (farthest_of p).index in
      let far : T (lt t (away p k)) = subst (λ (x : Float). T (lt t x)) w.1 (subst T (sym e) tt) in
      absurd (le-not-gt (away p k) t (near k w.0.inside.0 w.0.inside.1) far)

  split-far : (p : List Vector) (k : ℕ) → FirstFarthest p k → T (lt t (away p k)) → simplified t p ≡ front (simplified t (take (k + 1) p)) ++ simplified t (drop k p)
  split-far p k F far =
      let long : 3 ≤ length p = omega (arith, F.inside.0, F.inside.1) in
      let numbers : (i : ℕ) → 1 ≤ i → i + 2 ≤ length p → T (number (away p i)) = λ i a l. le-number-l (away p i) (away p k) (F.most i a l) in
      let d = (farthest_of p).distance in
      let above : lt t d ≡ true = is_true (lt t d) (lt-le-trans t (away p k) d far ((most-far p long numbers).1 k F.inside.0 F.inside.1)) in
      let same : (farthest_of p).index ≡ k = first-only p (farthest_of p).index k (scan-finds-first p long numbers t low above).0 F in
      simplified-split t low p long above ∙ ap (λ (j : ℕ). front (simplified t (take (j + 1) p)) ++ simplified t (drop j p)) same

pub simplified-as-published : SimplifiedAsPublished
simplified-as-published t low = record {
  short = simplified-short t low;
  ends = λ p h near. simplified-ends t low p h (ends-near t low p h near (lt t (farthest_of p).distance) refl);
  split = split-far t low;
}

-- ---- and it leaves no choice
module _ (t : Float) (p : List Vector) (ok : Accepted t p) where
  accepted-take : (k : ℕ) → k ≤ length p → Accepted t (take k p)
  accepted-take k h = record { threshold = ok.threshold; within = λ i l. at i (omega (arith, length-take-le k p h)) }
    where
      at : (i : ℕ) → i < k → Within (vertex (take k p) i)
      at i l = subst Within (sym (get_or-take k p i nowhere l)) (ok.within i (omega arith))

  accepted-drop : (k : ℕ) → Accepted t (drop k p)
  accepted-drop k = record { threshold = ok.threshold; within = λ i l. at i (omega (arith, length-drop k p)) }
    where
      at : (i : ℕ) → k + i < length p → Within (vertex (drop k p) i)
      at i l = subst Within (sym (get_or-drop k p i nowhere)) (ok.within (k + i) l)

  -- the scan finds none: no vertex is farther than t
  near-all : 3 ≤ length p → lt t (farthest_of p).distance ≡ false → (i : ℕ) → 1 ≤ i → i + 2 ≤ length p → T (le (away p i) t)
  unfolding threshold_ok
  near-all long e i h l =
      let d = (farthest_of p).distance in
      let w = most-far p long (accepted-distances t p ok) in
      let tn = finite_number t (and_l (finite t) (le zero_f t) ok.threshold) in
      le_trans (away p i) d t (w.1 i h l) (not-gt→le d t (le-number-r zero_f d w.0) tn (subst (λ (s : Bool). T (not s)) (sym e) tt))

module _ (t : Float) (f : List Vector → List Vector) (m : PublishedMethod t f) where
  only-far : (n : ℕ) (p : List Vector) → Accepted t p → 3 ≤ length p → length p ≤ suc n → ((q : List Vector) → Accepted t q → length q ≤ n → f q ≡ simplified t q)
      → (b : Bool) → lt t (farthest_of p).distance ≡ b → f p ≡ simplified t p
  only-far n p ok h l ih true e =
      let k = (farthest_of p).index in
      let low = accepted-low t p ok in
      let w = accepted-scan-finds-first t p ok h e in
      let a = w.0.inside.0 in
      let z = w.0.inside.1 in
      let fits : k + 1 ≤ length p = omega (arith, z) in
      m.split p k w.0 (subst (λ (x : Float). T (lt t x)) w.1 (subst T (sym e) tt))
      ∙ ap₂ (λ (x y : List Vector). front x ++ y) (ih (take (k + 1) p) (accepted-take t p ok (k + 1) fits) (omega (arith, z, length-take-le (k + 1) p fits))) (ih (drop k p) (accepted-drop t p ok k) (omega (arith, a, length-drop k p)))
      ∙ sym (simplified-split t low p h e)
  only-far n p ok h l ih false e = m.ends p h (near-all t p ok h e) ∙ sym (simplified-ends t (accepted-low t p ok) p h e)

  only-up : (n : ℕ) (p : List Vector) → Accepted t p → length p ≤ n → f p ≡ simplified t p
  only-up zero p ok h = m.short p (omega arith) ∙ sym (simplified-short t (accepted-low t p ok) p (omega arith))
  only-up (suc n) p ok h = by (λ (q : List Vector) k l. only-up n q k l) (le-or-lt 3 (length p))
    where
      by : ((q : List Vector) → Accepted t q → length q ≤ n → f q ≡ simplified t q) → (3 ≤ length p) ⊎ (length p < 3) → f p ≡ simplified t p
      by ih (inl s) = only-far n p ok s h ih (lt t (farthest_of p).distance) refl
      by ih (inr s) = m.short p s ∙ sym (simplified-short t (accepted-low t p ok) p s)

pub only-published : OnlyPublished
only-published t f m p ok = only-up t f m (length p) p ok (omega arith)
