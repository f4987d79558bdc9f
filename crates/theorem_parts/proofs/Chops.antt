-- The chop and simplification push the same points after whatever stands before them. Assumes nothing.
use mathlib.Core.Bool.{Bool, true, false}
use mathlib.Core.List.{List, [], ◌∷◌}
use Prim.Native.Nat.{ℕ, zero, suc}
use Rattle.geometry.specs.declared.vector.Vector.{Vector}
use Rattle.paths.specs.Answers.{next}
use Rattle.paths.specs.Paths.{push}
use Rattle.path_chop.specs.Chop.{spot_of, middle_of, stops, push_or, subdivide, chop_from, path_chop}
use Rattle.path_chop.specs.declared.Screen.{Screen}
use Rattle.path_chop.specs.declared.Spot.{Spot}
use Rattle.theorem_parts.proofs.Adders.{Pusher, pushes-none, pushes-one, pushes-then}
use Rattle.refusals.specs.declared.Refusal.{Refusal}
use Rattle.std.specs.Prelude.{Result}

or-pushes : (halve : ℕ → List Vector → Result (List Vector) Refusal) → Pusher halve → (v : Vector) (b : Bool) → Pusher (λ (room : ℕ) (vs : List Vector). push_or (halve room) room v vs b)
unfolding push_or
or-pushes halve H v true = pushes-one v
or-pushes halve H v false = H

module _ (c : Screen) where
  divides : (n : ℕ) (a b : Spot) → Pusher (λ (room : ℕ). subdivide c room n a b)
  unfolding subdivide
  divides zero a b = pushes-one b.at
  divides (suc n) a b =
      or-pushes (λ (room : ℕ) (us : List Vector). next (subdivide c room n a (middle_of c a b) us) (subdivide c room n (middle_of c a b) b))
      (pushes-then (λ (room : ℕ). subdivide c room n a (middle_of c a b)) (λ (room : ℕ). subdivide c room n (middle_of c a b) b) (divides n a (middle_of c a b)) (divides n (middle_of c a b) b))
      b.at (stops c a b)

  from-pushes : (n : ℕ) (a : Spot) (ps : List Vector) → Pusher (λ (room : ℕ). chop_from n c room a ps)
  unfolding chop_from
  from-pushes n a [] = pushes-none
  from-pushes n a (p ∷ ps) = pushes-then (λ (room : ℕ). subdivide c room n a (spot_of c p)) (λ (room : ℕ). chop_from n c room (spot_of c p) ps) (divides n a (spot_of c p)) (from-pushes n (spot_of c p) ps)

  pub chop-pushes : (n : ℕ) (p : List Vector) → Pusher (λ (room : ℕ). path_chop n c room p)
  unfolding path_chop
  chop-pushes n [] = pushes-none
  chop-pushes n (p ∷ ps) = pushes-then (λ (room : ℕ) (vs : List Vector). push room vs p) (λ (room : ℕ). chop_from n c room (spot_of c p) ps) (pushes-one p) (from-pushes n (spot_of c p) ps)
