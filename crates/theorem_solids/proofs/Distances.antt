-- Operations 0 and 1 answer as document 01 says; 2 and 3 alike, a hit with its distance from the first origin. Assumes nothing.
use Prim.Native.Nat.{ℕ, zero, suc}
use mathlib.Core.Path.{◌≡◌, refl, sym, ap, ◌∙◌}
use mathlib.Core.Bool.{Bool, true, false, not, ◌||◌, cond}
use mathlib.Core.List.{List, [], ◌∷◌, foldl}
use lib.Ieee.{Float}
use Rattle.floats.specs.Arith.{◌⊕◌, zero_f, hundredth}
use Rattle.geometry.specs.Rays.{position}
use Rattle.geometry.specs.Hits.{is_ok}
use Rattle.geometry.specs.declared.vector.Vector.{Vector}
use Rattle.geometry.specs.declared.ray.Ray.{Ray}
use Rattle.geometry.specs.declared.hit.Hit.{Hit}
use Rattle.refusals.specs.declared.Refusal.TheVariants.{Restarts}
use Rattle.check_parts.proofs.Parts.{never}
use Rattle.scene.specs.declared.entry.Op.{Op}
use Rattle.scene.specs.declared.entry.Op.TheVariants.{Intersection, Difference}
use Rattle.scene_shape.specs.Cuts.{both, restarted, takes_away, cut_contains, from_first, tell_of, accepted_or, step}
use Rattle.scene_shape.specs.Shapes.{Shape, cut, cut_from, shape_hit, shape_contains}
use Rattle.theorem_solids.specs.Distances.{last_or, last_from, last_hit, LastRay, rejected_or, rejected_from, rejected_hits, restart_sum, plus_restarts, TrueDistance, ButForDistance, TrueCutAlike}
use Rattle.std.specs.Prelude.{Err, Ok, Result}
use Rattle.refusals.specs.declared.Refusal.{Refusal}

-- ---- what tells a hit as it is never reads the sum
module _ (tell : Float → Hit → Hit) (plain : (sum : Float) (h : Hit) → tell sum h ≡ h) (a b : Ray → Result Hit Refusal) (inside : Vector → Bool) where
  module _ (again : Float → Ray → Result Hit Refusal) (after : Ray → Result Hit Refusal) (e : (sum : Float) (r : Ray) → again sum r ≡ after r) where
    last-accepted : (sum : Float) (r : Ray) (h : Hit) (t : Bool) → accepted_or tell again sum r h t ≡ cond t (Ok h) (after (restarted r h.t))
    unfolding accepted_or
    last-accepted sum r h true = ap Ok (plain sum h)
    last-accepted sum r h false = e _ _

    last_step : (sum : Float) (r : Ray) (z : Result Hit Refusal) → step tell again inside sum r z ≡ last_or after inside r z
    unfolding step last_or
    last_step sum r (Err n) = refl
    last_step sum r (Ok h) = last-accepted sum r h (not (is_ok h) || inside (position r h.t))

  last-from : (n : ℕ) (sum : Float) (r : Ray) → cut_from tell n a b inside sum r ≡ last_from n a b inside r
  unfolding cut_from last_from
  last-from zero sum r = last_step (λ _ _. Err Restarts) (λ _. Err Restarts) (λ _ _. refl) sum r (both (a r) (b r))
  last-from (suc n) sum r = last_step (cut_from tell n a b inside) (last_from n a b inside) (last-from n) sum r (both (a r) (b r))

pub last-ray : (a b : Shape) (r : Ray) → LastRay a b r
unfolding shape_hit tell_of
last-ray a b r = record {
  intersection = last-from (tell_of Intersection) (λ _ _. refl) (shape_hit a) (shape_hit b) (cut_contains Intersection (shape_contains a) (shape_contains b)) 64 zero_f r;
  difference = last-from (tell_of Difference) (λ _ _. refl) (shape_hit a) (shape_hit b) (cut_contains Difference (shape_contains a) (shape_contains b)) 64 zero_f r;
}

-- ---- what tells a hit from the first origin adds the sum over the hits rejected
sum_from : Float → List Float → Float
sum_from = foldl (λ (sum t : Float). sum ⊕ (t ⊕ hundredth))

-- the sum so far, and over these hits, then the last t
plus_from : Float → List Float → Result Hit Refusal → Result Hit Refusal
plus_from sum ts (Ok h) = Ok (from_first (sum_from sum ts) h)
plus_from sum ts (Err k) = Err k

one_more : (sum t : Float) (ts : List Float) (z : Result Hit Refusal) → plus_from (sum ⊕ (t ⊕ hundredth)) ts z ≡ plus_from sum (t ∷ ts) z
unfolding plus_from sum_from
one_more sum t ts (Ok h) = refl
one_more sum t ts (Err k) = refl

none_told : (sum : Float) → Err Restarts ≡ plus_from sum [] (Err Restarts)
unfolding plus_from
none_told sum = refl

module _ (a b : Ray → Result Hit Refusal) (inside : Vector → Bool) where
  module _ (again : Float → Ray → Result Hit Refusal) (after : Ray → Result Hit Refusal) (rest : Ray → List Float)
      (e : (sum : Float) (r : Ray) → again sum r ≡ plus_from sum (rest r) (after r)) where
    sum-accepted : (sum : Float) (r : Ray) (h : Hit) (t : Bool)
        → accepted_or from_first again sum r h t ≡ plus_from sum (cond t [] (h.t ∷ rest (restarted r h.t))) (cond t (Ok h) (after (restarted r h.t)))
    unfolding accepted_or plus_from sum_from
    sum-accepted sum r h true = refl
    sum-accepted sum r h false = e _ _ ∙ one_more sum h.t (rest (restarted r h.t)) (after (restarted r h.t))

    sum_step : (sum : Float) (r : Ray) (z : Result Hit Refusal) → step from_first again inside sum r z ≡ plus_from sum (rejected_or rest inside r z) (last_or after inside r z)
    unfolding step last_or rejected_or plus_from
    sum_step sum r (Err n) = refl
    sum_step sum r (Ok h) = sum-accepted sum r h (not (is_ok h) || inside (position r h.t))

  sum-from : (n : ℕ) (sum : Float) (r : Ray) → cut_from from_first n a b inside sum r ≡ plus_from sum (rejected_from n a b inside r) (last_from n a b inside r)
  unfolding cut_from last_from rejected_from
  sum-from zero sum r = sum_step (λ _ _. Err Restarts) (λ _. Err Restarts) (λ _. []) (λ sum _. none_told sum) sum r (both (a r) (b r))
  sum-from (suc n) sum r =
      sum_step (cut_from from_first n a b inside) (last_from n a b inside) (rejected_from n a b inside) (sum-from n) sum r (both (a r) (b r))

plus-sum : (ts : List Float) (z : Result Hit Refusal) → plus_from zero_f ts z ≡ plus_restarts ts z
unfolding plus_from sum_from plus_restarts restart_sum from_first
plus-sum ts (Ok h) = refl
plus-sum ts (Err k) = refl

sum_told : (o : Op) (a b : Shape) (r : Ray) (z : Result Hit Refusal) → z ≡ last_hit o a b r
    → cut_from from_first 64 (shape_hit a) (shape_hit b) (cut_contains o (shape_contains a) (shape_contains b)) zero_f r ≡ plus_restarts (rejected_hits o a b r) z
sum_told o a b r z e =
    sum-from (shape_hit a) (shape_hit b) (cut_contains o (shape_contains a) (shape_contains b)) 64 zero_f r ∙ plus-sum (rejected_hits o a b r) (last_hit o a b r)
    ∙ ap (plus_restarts (rejected_hits o a b r)) (sym e)

pub true-distance : (a b : Shape) (r : Ray) → TrueDistance a b r
unfolding shape_hit tell_of cut_contains takes_away
true-distance a b r = record {
  intersection = sum_told Intersection a b r (shape_hit (cut Intersection a b) r) (last-ray a b r).intersection;
  difference = sum_told Difference a b r (shape_hit (cut Difference a b) r) (last-ray a b r).difference;
}

-- ---- so but for the distance the answers are alike
by-ok : (x : Float) (h : Hit) (k : Bool) → h.ok ≡ k → ButForDistance (Ok h) (Ok (cond k (record { t = x; ok = true }) h))
by-ok x h true e = (e, λ f. never (sym f ∙ e))
by-ok x h false e = (refl, λ _. refl)

plus-alike : (ts : List Float) (z : Result Hit Refusal) → ButForDistance z (plus_restarts ts z)
unfolding plus_restarts
plus-alike ts (Ok h) = by-ok (restart_sum ts ⊕ h.t) h h.ok refl
plus-alike ts (Err k) = refl

pub true-cut-alike : (a b : Shape) (r : Ray) → TrueCutAlike a b r
true-cut-alike a b r = record {
  intersection = rw (true-distance a b r).intersection (plus-alike (rejected_hits Intersection a b r) (shape_hit (cut Intersection a b) r));
  difference = rw (true-distance a b r).difference (plus-alike (rejected_hits Difference a b r) (shape_hit (cut Difference a b) r));
}
