-- What the check leaves of an accepted scene is read as the scene's own solids. Assumes nothing.
use Prim.Native.Nat.{ℕ}
use mathlib.Core.Path.{◌≡◌, sym, ap, ◌∙◌}
use mathlib.Core.List.{List}
use mathlib.Core.Bool.{Bool, true, false}
use lib.Ieee.{Float}
use Rattle.floats.specs.Arith.{zero_f}
use Rattle.geometry.specs.declared.vector.Vector.{Vector}
use Rattle.geometry.specs.declared.ray.Ray.{Ray}
use Rattle.rows.specs.Rows.{padded}
use Rattle.refusals.specs.declared.Refusal.{Refusal}
use Rattle.refusals.specs.declared.Refusal.TheVariants.{View}
use Rattle.scene_shape.specs.Shapes.{decode, solid_of, shape_hit, shape_contains}
use Rattle.check_scene.specs.Checks.{check_of, inverses_of, if_accepted, struck_after}
use Rattle.scene.specs.Scenes.{Scene}
use Rattle.check_scene.proofs.Accepted.{left_is, own-solid}
use Rattle.limits.specs.Limits.{within_ray}
use Rattle.query_solid.specs.Own.{own_hit, contained_after, own_contains}
use Rattle.std.specs.Prelude.{Err, Ok, Result}
use Rattle.geometry.specs.declared.hit.Hit.{Hit}

module _ (s : Scene) {v : Result ℕ Refusal} (told : v ≡ check_of s) where
  -- ---- accepted: vs is what stands in the slice of inverses
  module _ (n : ℕ) (is : v ≡ Ok n) (L : ℕ) (vs : List Float) (left : vs ≡ padded zero_f L (if_accepted v (inverses_of s))) where
    own : (i : ℕ) → decode 8 s.numbers vs s.marks i ≡ solid_of s.numbers s.marks i
    own i = own-solid s n (sym told ∙ is) L vs (left_is zero_f n is L (inverses_of s) left) i

    pub hit-is : (i : ℕ) (r : Ray) {b : Bool} {h : Result Hit Refusal} → b ≡ within_ray r → b ≡ true → h ≡ shape_hit (decode 8 s.numbers vs s.marks i) r → h ≡ own_hit s i r
    unfolding own_hit struck_after
    hit-is i r e t h = rw (← told, is, ← e, t, ← own i) h

    pub contains-is : (i : ℕ) (p : Vector) (f : Float) {b : Bool} → b ≡ shape_contains (decode 8 s.numbers vs s.marks i) p f → Ok b ≡ own_contains s i p f
    unfolding own_contains contained_after
    contains-is i p f h = rw (← told, is, ← own i) (ap Ok h)

  pub ray-refused : (n : ℕ) → v ≡ Ok n → (i : ℕ) (r : Ray) {b : Bool} → b ≡ within_ray r → b ≡ false → Err View ≡ own_hit s i r
  unfolding own_hit struck_after
  ray-refused n is i r e f = rw (← told, is, ← e, f)

  -- ---- and not
  module _ (k : Refusal) (is : v ≡ Err k) (i : ℕ) where
    pub hit-refused : (r : Ray) → Err k ≡ own_hit s i r
    unfolding own_hit struck_after
    hit-refused r = rw (← told, is)

    pub contains-refused : (p : Vector) (f : Float) → Err k ≡ own_contains s i p f
    unfolding own_contains contained_after
    contains-refused p f = rw (← told, is)
