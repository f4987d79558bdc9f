-- How a call ends. Assumes nothing.
use mathlib.Core.Path.{◌≡◌, refl, sym, ap₂, ◌∙◌, subst}
use mathlib.Core.List.{List, ◌++◌}
use Prim.Native.Nat.{ℕ, ◌-◌, ◌*◌, ◌≤◌}
use native.Mathlib.Nat.{sub-zero}
use native.Mathlib.Omega.{arith}
use lib.ListN.{length, take, replicate}
use lib.Seq.{length-take-le, take_at}
use lib.Ieee.{Float}
use Rattle.floats.specs.Arith.{zero_f}
use Rattle.geometry.specs.declared.vector.Vector.{Vector}
use Rattle.refusals.specs.declared.Refusal.{Refusal}
use Rattle.rows.specs.Rows.{flat, padded}
use Rattle.rows.specs.Points.{points, point_of, point_row}
use Rattle.rows.proofs.Rows.{flat_view, view-flat, padded-take}
use Rattle.rows.proofs.Backs.{point-back}
use Rattle.paths.specs.Paths.{Paths, paths_with}
use Rattle.paths.specs.Ends.{held, told_both, Finished}
use Rattle.paths.proofs.Ending.{same-counts}
use Rattle.paths.proofs.Parts.{length-points}
use Rattle.std.specs.Prelude.{Err, Ok, Result}

module _ (xs ys : List Float) (ss us : List ℕ) where
  pub finished-refused : {c : Result (ℕ × ℕ) Refusal} (e : Refusal) → c ≡ Err e → ys ≡ take 0 xs ++ replicate (length xs - 0) zero_f → us ≡ take 0 ss ++ replicate (length ss - 0) 0
      → Finished (told_both c xs ss) (length xs) (length ss) ys us (Err e)
  finished-refused e p hy hu = rw p (record { answer = refl; points_laid = hy ∙ rw sub-zero; starts_laid = hu ∙ rw sub-zero })

  pub finished-both : {c : Result (ℕ × ℕ) Refusal} (n m : ℕ) → c ≡ Ok (n, m) → n * 3 ≤ length xs → m ≤ length ss
      → ys ≡ take (n * 3) xs ++ replicate (length xs - n * 3) zero_f → us ≡ take m ss ++ replicate (length ss - m) 0
      → Finished (told_both c xs ss) (length xs) (length ss) ys us (Ok (n, m))
  finished-both n m p hx hs hy hu =
      let fl : flat point_row (points n xs) ≡ take (n * 3) xs = flat_view 3 point_of point_row (λ b. refl) point-back n xs hx in
      rw p (record {
        answer = rw (length-points n xs, length-take-le m ss hs);
        points_laid = hy ∙ padded-take zero_f xs (n * 3) hx ∙ rw (← fl);
        starts_laid = hu ∙ padded-take 0 ss m hs;
      })

-- a call that is refused before anything is done has no counts
pub none-counted : (e : Refusal) {i j : ℕ} (n m : ℕ) → ◌≡◌ {A = Result (ℕ × ℕ) Refusal} (Err e) (Ok (n, m)) → (n * 3 ≤ i) × (m ≤ j)
none-counted e n m q = let z : ◌≡◌ {A = ℕ} 0 1 = cc in absurd (omega arith)

pub finished_as : {a b : Result Paths Refusal} (n n' m m' : ℕ) {xs : List Float} {ss : List ℕ} {r : Result (ℕ × ℕ) Refusal} → a ≡ b → n ≡ n' → m ≡ m' → Finished a n m xs ss r → Finished b n' m' xs ss r
finished_as {a} {b} n n' m m' {xs} {ss} {r} e f g w =
    subst (λ (x : Result Paths Refusal). Finished x n' m' xs ss r) e (subst (λ (x : ℕ). Finished a x m' xs ss r) f (subst (λ (x : ℕ). Finished a n x xs ss r) g w))

-- ---- what a call that is answered leaves in its slices is the answer
pub finished-held : (a : Result Paths Refusal) (n m : ℕ) {xs : List Float} {ss : List ℕ} {r : Result (ℕ × ℕ) Refusal} {i j : ℕ} → Finished a n m xs ss r → r ≡ Ok (i, j) → a ≡ Ok (held i xs j ss)
unfolding padded
finished-held (Ok p) n m {xs} {ss} {r} {i} {j} w e =
    let z = same-counts (sym e ∙ w.answer) in
    let hi : i ≡ length p.vertices = z.0 in
    let hj : j ≡ length p.starts = z.1 in
    let vs : points i xs ≡ p.vertices
    = ap₂ (λ (k : ℕ) (l : List Float). points k l) hi w.points_laid ∙ view-flat 3 point_of point_row (λ b. refl) (λ b. refl) p.vertices (replicate (n - length (flat point_row p.vertices)) zero_f) in
    let us : take j ss ≡ p.starts = ap₂ (λ (k : ℕ) (l : List ℕ). take k l) hj w.starts_laid ∙ take_at p.starts (replicate (m - length p.starts) 0) (length p.starts) refl in
    ap₂ (λ (x : List Vector) (y : List ℕ). Ok (paths_with x y)) (sym vs) (sym us)
finished-held (Err k) n m w e = let f = w.answer in let z : ◌≡◌ {A = ℕ} 0 1 = cc in absurd (omega arith)
