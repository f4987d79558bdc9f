-- The stripes of cylinders and cones (document 02, ii; `paths_striped` of cylinder.rs and cone.rs), path by path.
use Rattle.std.specs.Prelude.{cond, ◌||◌, List, [], ◌∷◌, map, ℕ, zero, suc, ◌+◌, ◌/◌, ltb, eqb, Float}
use Rattle.floats.specs.Arith.{◌⊗◌, zero_f}
use Rattle.geometry.specs.Vectors.{vec}
use Rattle.geometry.specs.declared.vector.Vector.{Vector}
use Rattle.degrees.specs.Degrees.{cosine_of, sine_of}
use Rattle.draw_solids.specs.declared.Flank.{Flank}
use Rattle.draw_solids.specs.declared.Flank.TheVariants.{Upright, Slanted}

-- a, a + step, a + 2 step and so on below 360, at most n of them
unfoldable pub degrees_from : ℕ → ℕ → ℕ → List ℕ
degrees_from step zero a = []
degrees_from step (suc n) a = cond (ltb a 360) (a ∷ degrees_from step n (a + step)) []

-- document 02's stripes: at each (360 / count, rounded down) degrees. None for count 0, nor for one above 360, which number 14 refuses;
-- a step of 1 or more has at most 360 of them.
unfoldable pub stripe_degrees : ℕ → List ℕ
stripe_degrees count = cond (eqb count 0 || ltb 360 count) [] (degrees_from (360 / count) 360 0)

-- a stripe where the cosine is c and the sine s: a cylinder's goes from z0 to z1, a cone's from its base to its apex
unfoldable pub stripe_by : Flank → Float → Float → List Vector
stripe_by (Upright radius z0 z1) c s = vec (radius ⊗ c) (radius ⊗ s) z0 ∷ vec (radius ⊗ c) (radius ⊗ s) z1 ∷ []
stripe_by (Slanted radius height) c s = vec (radius ⊗ c) (radius ⊗ s) zero_f ∷ vec zero_f zero_f height ∷ []

unfoldable pub round_striped : Flank → ℕ → List (List Vector)
round_striped f count = map (λ a. stripe_by f (cosine_of a) (sine_of a)) (stripe_degrees count)
