-- The public call, and demand 3 of it. Assumes nothing.
use mathlib.Core.Path.{◌≡◌, refl, sym, ap, ◌∙◌, subst}
use mathlib.Core.Bool.{Bool, true, false}
use mathlib.Core.List.{List, [], ◌∷◌, map}
use Prim.Native.Nat.{ℕ, ◌+◌, ◌<◌}
use native.Mathlib.Omega.{arith}
use lib.Dec.{T}
use lib.ListN.{length, take, length-take, length-drop}
use lib.Seq.{slice, get_or-take, get_or-drop}
use lib.Ieee.{Float, lt}
use Rattle.floats.specs.Arith.{zero_f}
use Rattle.geometry.specs.Limits.{Within}
use Rattle.geometry.specs.declared.vector.Vector.{Vector}
use Rattle.refusals.specs.declared.Refusal.{Refusal}
use Rattle.rows.specs.Points.{points}
use Rattle.rows.specs.Starts.{next_start}
use Rattle.paths.specs.Paths.{Paths, no_paths, paths_of, each, stage, with_points}
use Rattle.paths.specs.Ends.{all_points, nowhere, held, Finished}
use Rattle.paths.specs.Judged.{points_ok, paths_judged, unless}
use Rattle.paths.proofs.Judging.{judged-passed, points-within, handed-all, unless-refused, unless-fine}
use Rattle.paths.proofs.Closing.{finished-held}
use Rattle.paths.proofs.Adding.{extend-adds, stage-made}
use Rattle.path_rdp.specs.Rdp.{threshold_ok, vertex, simplified}
use Rattle.path_rdp.specs.Demand.{Accepted, Simplifies}
use Rattle.path_rdp.proofs.Splitting.{not_low, simplified-short, simplified-some}
use Rattle.path_rdp.proofs.Keeping.{simplified-keeps}
use Rattle.path_simplify.specs.Simplify.{path_simplify, simplify_paths, simplify_call}
use Rattle.path_simplify.specs.Kept.{Kept}
use Rattle.lists.specs.Lists.{Pairwise}
use Rattle.std.specs.Prelude.{Err, Ok, Result, ⊤}

holds : (b : Bool) → b ≡ true → T b
holds b e = subst T (sym e) tt

-- ---- the verdict, and the stage
module _ (xs : List Float) (ss : List ℕ) (t : Float) (b : Bool) (eb : b ≡ threshold_ok t) (v : Result ⊤ Refusal) (ev : v ≡ paths_judged xs ss b) where
  pub call-refused : (room startRoom : ℕ) {k : Refusal} → v ≡ Err k → Err k ≡ simplify_call xs ss t room startRoom
  unfolding simplify_call
  call-refused room startRoom e = unless-refused (simplify_paths t (all_points xs) ss room startRoom) e ∙ rw (ev, eb)

  pub call-fine : (room startRoom : ℕ) → v ≡ Ok tt → simplify_paths t (all_points xs) ss room startRoom ≡ simplify_call xs ss t room startRoom
  unfolding simplify_call
  call-fine room startRoom e = unless-fine (simplify_paths t (all_points xs) ss room startRoom) e ∙ rw (ev, eb)

  pub fine-low : v ≡ Ok tt → lt t zero_f ≡ false
  fine-low e = not_low t (holds (threshold_ok t) (sym eb ∙ (judged-passed xs ss b (sym ev ∙ e)).nice))

-- ---- demand 3
module _ (r : List Vector → List Vector → Type 0) (f : List Vector → List Vector) (none : f [] ≡ []) (some : (p : List Vector) → 0 < length p → 0 < length (f p)) where
  each-one : (p : List Vector) (ps qs : List (List Vector)) → (0 < length p → r p (f p)) → Pairwise r (with_points ps) (with_points qs) → Pairwise r (with_points (p ∷ ps)) (with_points (f p ∷ qs))
  unfolding with_points Pairwise
  each-one [] ps qs h ih = subst (λ (q : List Vector). Pairwise r (with_points ps) (with_points (q ∷ qs))) (sym none) ih
  each-one (v ∷ p) ps qs h ih = by (f (v ∷ p)) refl
    where
      by : (q : List Vector) → f (v ∷ p) ≡ q → Pairwise r ((v ∷ p) ∷ with_points ps) (with_points (q ∷ qs))
      by [] e = let l = some (v ∷ p) (omega arith) in let z : length (f (v ∷ p)) ≡ 0 = ap length e in absurd (omega arith)
      by (w ∷ q) e = (subst (λ (x : List Vector). r (v ∷ p) x) e (h (omega arith)), ih)

  each_all : (vs : List Vector) → ((s e : ℕ) → 0 < length (slice s e vs) → r (slice s e vs) (f (slice s e vs))) → (ss : List ℕ) → Pairwise r (with_points (paths_of vs ss)) (with_points (map f (paths_of vs ss)))
  unfolding paths_of with_points Pairwise
  each_all vs h [] = tt
  each_all vs h (s ∷ ss) = each-one (slice s (next_start (length vs) ss) vs) (paths_of vs ss) (map f (paths_of vs ss)) (h s (next_start (length vs) ss)) (each_all vs h ss)

-- a part of accepted points is accepted
part-accepted : (t : Float) (vs : List Vector) (s e : ℕ) → Accepted t vs → Accepted t (slice s e vs)
part-accepted t vs s e ok = record { threshold = ok.threshold; within = λ i h. near i h }
  where
    near : (i : ℕ) → i < length (slice s e vs) → Within (vertex (slice s e vs) i)
    near i h =
        let n = length-drop s (take e vs) in
        let m = length-take e vs in
        rw (get_or-drop s (take e vs) i nowhere, get_or-take e vs (s + i) nowhere (omega arith)) (ok.within (s + i) (omega arith))

-- the paths that are left of accepted points: one for each that has points, with all three parts of the demand
pub paths-kept : (t : Float) → T (threshold_ok t) → (vs : List Vector) → points_ok vs ≡ true → (ss : List ℕ) (room startRoom : ℕ) (o : Paths) → simplify_paths t vs ss room startRoom ≡ Ok o
    → Pairwise (λ (p q : List Vector). Accepted t p × Simplifies t p q) (with_points (paths_of vs ss)) (paths_of o.vertices o.starts)
paths-kept t fair vs near ss room startRoom o e =
    let low = not_low t fair in
    let ok : Accepted t vs = record { threshold = fair; within = points-within vs near } in
    let made = stage-made (path_simplify t) (simplified t) (λ n p us ws q. extend-adds n (simplified t p) us ws q) room startRoom vs ss o e in
    subst (Pairwise (λ (p q : List Vector). Accepted t p × Simplifies t p q) (with_points (paths_of vs ss))) (sym made)
    (each_all (λ (p q : List Vector). Accepted t p × Simplifies t p q) (simplified t) (simplified-short t low [] (omega arith)) (simplified-some t low) vs
    (λ a b l. (part-accepted t vs a b ok, simplified-keeps t (slice a b vs) l)) ss)

module _ (xs : List Float) (t : Float) (room startRoom : ℕ) (o : Paths) where
  fine-kept : (ss : List ℕ) → paths_judged xs ss (threshold_ok t) ≡ Ok tt → simplify_paths t (all_points xs) ss room startRoom ≡ Ok o → Kept t xs ss o.vertices o.starts
  unfolding stage each paths_of with_points Pairwise
  fine-kept [] j e = let q : no_paths ≡ o = cc in subst (λ (x : Paths). Kept t xs [] x.vertices x.starts) q tt
  fine-kept (s ∷ ss) j e =
      let w = judged-passed xs (s ∷ ss) (threshold_ok t) j in
      paths-kept t (holds (threshold_ok t) w.nice) (all_points xs) (subst (λ (vs : List Vector). points_ok vs ≡ true) (handed-all xs (s ∷ ss) (λ q. omega arith)) w.near) (s ∷ ss) room startRoom o e

  pub call_kept : (ss : List ℕ) → simplify_call xs ss t room startRoom ≡ Ok o → Kept t xs ss o.vertices o.starts
  unfolding simplify_call unless
  call_kept ss e = by (paths_judged xs ss (threshold_ok t)) (fine-kept ss) e
    where
      by : (v : Result ⊤ Refusal) → (v ≡ Ok tt → simplify_paths t (all_points xs) ss room startRoom ≡ Ok o → Kept t xs ss o.vertices o.starts)
          → unless v (simplify_paths t (all_points xs) ss room startRoom) ≡ Ok o → Kept t xs ss o.vertices o.starts
      by (Ok tt) h q = h refl q
      by (Err k) h q = let z : ◌≡◌ {A = ℕ} 0 1 = cc in absurd (omega arith)

-- a call that ends as it has to leaves what the demand asks for
pub call_ends : (xs : List Float) (ss : List ℕ) (t : Float) (room startRoom n m : ℕ) {ys : List Float} {us : List ℕ} {r : Result (ℕ × ℕ) Refusal} → Finished (simplify_call xs ss t room startRoom) n m ys us r
    → Finished (simplify_call xs ss t room startRoom) n m ys us r × ((i j : ℕ) → r ≡ Ok (i, j) → Kept t xs ss (points i ys) (take j us))
call_ends xs ss t room startRoom n m {ys} {us} w =
    (w, λ i j e. call_kept xs t room startRoom (held i ys j us) ss (finished-held (simplify_call xs ss t room startRoom) n m w e))
