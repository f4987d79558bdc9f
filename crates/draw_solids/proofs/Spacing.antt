-- The stripes that are left, a step of at least one degree, and two runs of lines joined. Assumes nothing.
use mathlib.Core.Path.{◌≡◌, refl}
use mathlib.Core.List.{List, [], ◌∷◌, ◌++◌, map}
use Prim.Native.Nat.{ℕ, zero, suc, ◌+◌, ◌-◌, ◌*◌, ◌/◌, ◌≤◌, ◌<◌}
use native.Mathlib.Nat.{le-div_iff_mul-le}
use native.Mathlib.Omega.{arith}
use borrow.Author.Tests.{lt-ltb, le-ltb, eq-eqb, ne_eqb}
use lib.Ieee.{Float, nan}
use lib.ListN.{length, get_or}
use Rattle.geometry.specs.declared.vector.Vector.{Vector}
use Rattle.degrees.specs.Degrees.{cosine_of, sine_of, float_table}
use Rattle.degrees.proofs.Reading.{cosine-read, sine-read}
use Rattle.refusals.specs.declared.Refusal.{Refusal}
use Rattle.paths.specs.Ends.{places, held, EndsBoth}
use Rattle.draw_lines.specs.Pushing.{add_paths}
use Rattle.draw_lines.proofs.Adding.{Adding, adding-start, adding-turn, adding-refused, adding-last}
use Rattle.draw_solids.specs.Stripes.{degrees_from, stripe_degrees, stripe_by, round_striped}
use Rattle.draw_solids.specs.declared.Flank.{Flank}
use Rattle.std.specs.Prelude.{Err, Ok, Result}

-- as many places as are left do as well as more
module _ (step : ℕ) (h : 1 ≤ step) where
  pub enough : (n k a : ℕ) → 360 ≤ a + n → 360 ≤ a + k → degrees_from step n a ≡ degrees_from step k a
  unfolding degrees_from
  enough zero zero a l m = refl
  enough zero (suc k) a l m = rw (le-ltb a 360 (omega arith))
  enough (suc n) zero a l m = rw (le-ltb a 360 (omega arith))
  enough (suc n) (suc k) a l m = rw (enough n k (a + step) (omega arith) (omega arith))

abbrev stripe_at : Flank → ℕ → List Vector
stripe_at f a = stripe_by f (cosine_of a) (sine_of a)

-- the stripes from a degrees on
abbrev pub stripes_left : Flank → ℕ → ℕ → List (List Vector)
stripes_left f step a = map (stripe_at f) (degrees_from step (360 - a) a)

pub stripes-end : (f : Flank) (step a : ℕ) → 360 ≤ a → stripes_left f step a ≡ []
unfolding degrees_from
stripes-end f step a l = let e : 360 - a ≡ 0 = omega arith in rw e

-- the first of them, by what is read of the table, and the others
module _ (f : Flank) (table : List Float) (step : ℕ) (is : table ≡ float_table) (h : 1 ≤ step) (a : ℕ) (l : a < 360) where
  stripe-read : stripe_by f (get_or table (2 * a) nan) (get_or table (2 * a + 1) nan) ≡ stripe_at f a
  stripe-read = rw (cosine-read table is a l nan, sine-read table is a l nan)

  pub left-turns : stripes_left f step a ≡ (stripe_by f (get_or table (2 * a) nan) (get_or table (2 * a + 1) nan) ∷ []) ++ stripes_left f step (a + step)
  unfolding degrees_from
  left-turns =
      let e : 360 - a ≡ suc (359 - a) = omega arith in
      rw (e, lt-ltb a 360 l, enough step h (359 - a) (360 - (a + step)) (a + step) (omega arith) (omega arith), stripe-read)

-- ---- the stripes of a count
module _ (f : Flank) (count : ℕ) where
  pub uncounted : count ≡ 0 → round_striped f count ≡ []
  unfolding round_striped stripe_degrees
  uncounted e = rw (eq-eqb count 0 e)

  pub too_many : (count ≡ 0 → ⊥) → 360 < count → round_striped f count ≡ []
  unfolding round_striped stripe_degrees
  too_many z l = rw (ne_eqb count 0 z, lt-ltb 360 count l)

  pub counted : (count ≡ 0 → ⊥) → count ≤ 360 → round_striped f count ≡ map (λ a. stripe_by f (cosine_of a) (sine_of a)) (degrees_from (360 / count) 360 0)
  unfolding round_striped stripe_degrees
  counted z l = rw (ne_eqb count 0 z, le-ltb 360 count l)

pub step-one : (count : ℕ) → (count ≡ 0 → ⊥) → count ≤ 360 → 1 ≤ 360 / count
step-one count z l = (le-div_iff_mul-le {k = count} {x = 1} {y = 360} (omega (arith, z))).1 (omega arith)

-- ---- some lines, and then others
module _ (ps qs : List (List Vector)) (xs : List Float) (ss : List ℕ) (n m : ℕ) (f : n * 3 ≤ length xs) (g : m ≤ length ss)
    (ys : List Float) (us : List ℕ) {r : Result (ℕ × ℕ) Refusal} (w : EndsBoth (add_paths (places xs) (length ss) ps (held n xs m ss)) ys us r) where
  start : Adding (ps ++ qs) xs ss n m (ps ++ qs) xs ss n m
  start = adding-start (ps ++ qs) xs ss n m (ps ++ qs) refl f g

  pub joined-refused : {k : Refusal} → r ≡ Err k → EndsBoth (add_paths (places xs) (length ss) (ps ++ qs) (held n xs m ss)) ys us (Err k)
  joined-refused q = adding-refused (ps ++ qs) xs ss n m (ps ++ qs) xs ss n m start ps qs refl ys us w q

  pub joined : {a b : ℕ} → length ys ≡ length xs → length us ≡ length ss → r ≡ Ok (a, b) → (zs : List Float) (vs : List ℕ) {t : Result (ℕ × ℕ) Refusal}
      → EndsBoth (add_paths (places ys) (length us) qs (held a ys b us)) zs vs t → EndsBoth (add_paths (places xs) (length ss) (ps ++ qs) (held n xs m ss)) zs vs t
  joined {a} {b} kx ks q zs vs v =
      adding-last (ps ++ qs) xs ss n m qs ys us a b (adding-turn (ps ++ qs) xs ss n m (ps ++ qs) xs ss n m start ps qs refl ys us w kx ks q) qs refl zs vs v
