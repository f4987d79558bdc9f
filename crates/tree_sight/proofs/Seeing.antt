-- The ways through the eye test. Assumes nothing.
use mathlib.Core.Path.{◌≡◌, sym, ap, ◌∙◌}
use mathlib.Core.Bool.{true, false}
use lib.Ieee.{Float, eq, le}
use Rattle.floats.specs.Arith.{zero_f}
use Rattle.geometry.specs.Vectors.{sub_v, div_scalar, length_of, distance_of}
use Rattle.geometry.specs.Rays.{ray_of}
use Rattle.geometry.specs.declared.vector.Vector.{Vector}
use Rattle.geometry.specs.declared.ray.Ray.{Ray}
use Rattle.tree_walk.specs.declared.Nearest.{Nearest}
use Rattle.tree_sight.specs.declared.Sight.{Sight}
use Rattle.tree_sight.specs.declared.Sight.TheVariants.{Visible, Hidden}
use Rattle.tree_sight.specs.Sights.{eye_ray, by_distance, sees}
use Rattle.std.specs.Prelude.{Ok, Result}
use Rattle.refusals.specs.declared.Refusal.{Refusal}

module _ (a : Result Nearest Refusal) (b : Nearest) (d : Float) (e : a ≡ Ok b) where
  pub judged-visible : le d b.hit.t ≡ true → Ok Visible ≡ by_distance a d
  unfolding by_distance
  judged-visible h = rw (e, h)

  pub judged-hidden : le d b.hit.t ≡ false → Ok Hidden ≡ by_distance a d
  unfolding by_distance
  judged-hidden h = rw (e, h)

module _ (nearest : Ray → Result Nearest Refusal) (eye point v : Vector) (d : Float) (ev : v ≡ sub_v eye point) (ed : d ≡ length_of v) where
  away : d ≡ distance_of eye point
  unfolding distance_of
  away = ed ∙ ap length_of ev

  pub sees-near : eq d zero_f ≡ true → Ok Visible ≡ sees nearest eye point
  unfolding sees
  sees-near z = rw (sym (ap (λ (x : Float). eq x zero_f) away) ∙ z)

  pub sees-far : eq d zero_f ≡ false → (q : Vector) → q ≡ div_scalar v d → (r : Ray) → r ≡ ray_of point q → (a : Result Nearest Refusal) → a ≡ nearest r → (s : Result Sight Refusal) → s ≡ by_distance a d
      → s ≡ sees nearest eye point
  unfolding sees eye_ray
  sees-far z q eq' r er a ea s es =
      let z' : eq (distance_of eye point) zero_f ≡ false = sym (ap (λ (x : Float). eq x zero_f) away) ∙ z in
      rw (es, ea, er, eq', ev, away, z')
