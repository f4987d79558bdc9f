-- How copied paths end. Assumes nothing.
use mathlib.Core.Path.{◌≡◌, refl, sym, ap, ◌∙◌, subst}
use mathlib.Core.Bool.{true, false}
use mathlib.Core.List.{List, []}
use Prim.Native.Nat.{ℕ, ◌*◌, ◌/◌, ◌≤◌, ◌<◌}
use native.Mathlib.Omega.{arith}
use borrow.Author.Tests.{le-leb, lt-leb}
use lib.ListN.{length, take}
use lib.Seq.{slice, take_all}
use lib.Ieee.{Float}
use Rattle.geometry.specs.declared.vector.Vector.{Vector}
use Rattle.refusals.specs.declared.Refusal.{Refusal}
use Rattle.refusals.specs.declared.Refusal.TheVariants.{Room}
use Rattle.rows.specs.Points.{points}
use Rattle.rows.specs.Rows.{view}
use Rattle.paths.specs.Answers.{next}
use Rattle.paths.specs.Paths.{Paths, paths_with, push_all}
use Rattle.paths.specs.Ends.{places, all_points, Ends, EndsBoth}
use Rattle.paths.proofs.Parts.{length-points}
use Rattle.paths.proofs.Ending.{ends_at, ends-refused, refuses-both, answers-both}
use Rattle.path_copy.specs.Copies.{copied_paths}
use Rattle.std.specs.Prelude.{Err, Ok, Result}

-- all points, after none
pub whole : (room : ℕ) (xs₀ path : List Float) {xs : List Float} {c : Result ℕ Refusal} → Ends (push_all room (points 0 xs₀) (slice 0 (places path) (all_points path))) xs c → Ends (push_all room [] (all_points path)) xs c
unfolding view
whole room xs₀ path {xs} {c} h =
    subst (λ (vs : List Vector). Ends (push_all room [] vs) xs c) (take_all (places path) (all_points path) (omega (arith, length-points (places path) path))) h

module _ (room startRoom : ℕ) (p : Paths) where
  pub starts-short : startRoom < length p.starts → (xs : List Float) (ss : List ℕ) → EndsBoth (copied_paths room startRoom p) xs ss (Err Room)
  unfolding copied_paths
  starts-short l xs ss = refuses-both xs ss (rw (lt-leb (length p.starts) startRoom l))

  module _ (h : length p.starts ≤ startRoom) (xs : List Float) {c : Result ℕ Refusal} (e : Ends (push_all room [] p.vertices) xs c) (ss : List ℕ) where
    pub points-short : (k : Refusal) → c ≡ Err k → EndsBoth (copied_paths room startRoom p) xs ss (Err k)
    unfolding copied_paths
    points-short k is = refuses-both xs ss (rw (le-leb (length p.starts) startRoom h, ends-refused e is))

    pub all-copied : (n : ℕ) → c ≡ Ok n → length ss ≡ startRoom → take (length p.starts) ss ≡ p.starts → EndsBoth (copied_paths room startRoom p) xs ss (Ok (n, (length p.starts)))
    unfolding copied_paths
    all-copied n is same copied =
        answers-both n (length p.starts) xs ss (rw (le-leb (length p.starts) startRoom h, ends_at e is, copied)) (e.fits n is) (omega (arith, same, h))
