-- Simplification keeps no more points than a path has, so that they fit where the path does. Assumes nothing.
use mathlib.Core.Path.{◌≡◌, refl, sym, ap, ◌∙◌}
use mathlib.Core.Bool.{Bool, true, false}
use mathlib.Core.List.{List, ◌++◌}
use Prim.Native.Nat.{ℕ, zero, suc, ◌+◌, ◌*◌, ◌≤◌}
use native.Mathlib.Omega.{arith}
use borrow.Author.Tests.{ltb-false}
use lib.Dec.{ltb}
use lib.ListN.{length, take, drop, length-append, length-drop}
use lib.Seq.{slice, length-take-le}
use lib.Ieee.{Float, lt}
use Rattle.floats.specs.Arith.{zero_f}
use Rattle.geometry.specs.declared.vector.Vector.{Vector}
use Rattle.refusals.specs.declared.Refusal.{Refusal}
use Rattle.rows.specs.Points.{points}
use Rattle.paths.specs.Paths.{push_all}
use Rattle.paths.specs.Ends.{places, all_points, Ends}
use Rattle.paths.proofs.Adding.{no_answer, same_answer}
use Rattle.paths.proofs.Ending.{ends_at, ends-refused}
use Rattle.paths.proofs.Parts.{length-points, part_length}
use Rattle.paths.proofs.Runs.{length_front, extend_fits}
use Rattle.path_rdp.specs.Rdp.{farthest_of, halved, thinned, rdp, simplified}
use Rattle.path_rdp.proofs.Scanning.{far-inside}
use Rattle.path_simplify.specs.Simplify.{path_simplify}
use Rattle.std.specs.Prelude.{Err, Ok, Result}

module _ (t : Float) (low : lt t zero_f ≡ false) where
  halves-few : (again : List Vector → List Vector) (p : List Vector) (s : Bool) → 3 ≤ length p → lt t (farthest_of p).distance ≡ s → ((q : List Vector) → length (again q) ≤ length q)
      → length (halved again p (farthest_of p).index s) ≤ length p
  unfolding halved
  halves-few again p true l e ih =
      let k = (farthest_of p).index in
      let w = far-inside p t low e in
      let one = ih (take (k + 1) p) in
      let two = ih (drop k p) in
      let n = length-take-le (k + 1) p (omega (arith, w.1)) in
      let m = length-drop k p in
      simp length-append (omega (arith, length_front (again (take (k + 1) p)), one, two, w.1))
  halves-few again p false l e ih = omega (arith, l)

  rdp-few : (n : ℕ) (p : List Vector) → length (rdp n t p) ≤ length p
  unfolding rdp thinned
  rdp-few zero p = omega arith
  rdp-few (suc n) p = short (ltb (length p) 3) (ltb-false (length p) 3) (λ h. halves-few (rdp n t) p (lt t (farthest_of p).distance) h refl (λ (q : List Vector). rdp-few n q))
    where
      short : (s : Bool) → (s ≡ false → 3 ≤ length p) → (3 ≤ length p → length (halved (rdp n t) p (farthest_of p).index (lt t (farthest_of p).distance)) ≤ length p) → length (thinned (rdp n t) t p s) ≤ length p
      short true g h = omega arith
      short false g h = h (g refl)

  pub simplified-few : (p : List Vector) → length (simplified t p) ≤ length p
  unfolding simplified
  simplified-few p = rdp-few (length p) p

-- what is kept of a path in a slice that is no shorter than the path's
module _ (t : Float) (low : lt t zero_f ≡ false) (path spare : List Float) (from end : ℕ) (inside : end * 3 ≤ length path) (long : length path ≤ length spare)
    {ys : List Float} {r : Result ℕ Refusal} (h : Ends (path_simplify t (places spare) (slice from end (all_points path)) (points 0 spare)) ys r) where
  kept-fits : push_all (places spare) (points 0 spare) (simplified t (slice from end (all_points path))) ≡ Ok (points 0 spare ++ simplified t (slice from end (all_points path)))
  kept-fits =
      extend_fits (places spare) (points 0 spare) (simplified t (slice from end (all_points path)))
      (omega (arith, length-points 0 spare, simplified-few t low (slice from end (all_points path)), part_length path from end inside))

  pub kept-count : {k : ℕ} → r ≡ Ok k → k ≡ length (simplified t (slice from end (all_points path)))
  kept-count {k} e =
      let s : points k ys ≡ points 0 spare ++ simplified t (slice from end (all_points path)) = same_answer (sym (ends_at h e) ∙ kept-fits) in
      omega (arith, length-points k ys, ap length s, length-append (points 0 spare) (simplified t (slice from end (all_points path))), length-points 0 spare)

  pub kept-all : {k : Refusal} {A : Type 0} → r ≡ Err k → A
  kept-all {k} e = no_answer k (sym (ends-refused h e) ∙ kept-fits)
