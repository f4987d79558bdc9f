-- A solid as document 01 has it, an entry with its parts and theirs, and its hit, box and insides, as functions of the solid alone.
use Rattle.std.specs.Prelude.{ℕ, zero, suc, Bool, false, List, Float, Err, None, Ok, Option, Result, Some}
use Rattle.floats.specs.Arith.{zero_f}
use Rattle.geometry.specs.Vectors.{vec}
use Rattle.geometry.specs.Hits.{no_hit}
use Rattle.geometry.specs.Boxes.{box_of, extend_box}
use Rattle.geometry.specs.declared.vector.Vector.{Vector}
use Rattle.geometry.specs.declared.ray.Ray.{Ray}
use Rattle.geometry.specs.declared.hit.Hit.{Hit}
use Rattle.geometry.specs.declared.bounding_box.BBox.{BBox}
use Rattle.matrix.specs.Matrices.{mul_position, mul_ray, mul_box}
use Rattle.matrix.specs.declared.Matrix.{Matrix}
use Rattle.solids.specs.Solids.{hit_of, solid_box, contains_of}
use Rattle.solids.specs.declared.solid.Solid.{Solid}
use Rattle.scene.specs.Entries.{entry_at, own_entry}
use Rattle.scene.specs.declared.entry.Op.{Op}
use Rattle.scene.specs.declared.entry.Entry.{Entry}
use Rattle.scene.specs.declared.entry.Entry.TheVariants.{Simple, Placed, Cut}
use Rattle.refusals.specs.declared.Refusal.TheVariants.{Restarts}
use Rattle.scene_shape.specs.Cuts.{rescaled, cut_contains, both, tell_of, step}
use Rattle.refusals.specs.declared.Refusal.{Refusal}

-- document 01's solid: a simple one, a placed part with its matrix and inverse, a cut; `none` is read where there is no entry, and misses every ray
pub data Shape : Type 0 where
  none : Shape
  simple : Solid → Shape
  placed : Matrix → Matrix → Shape → Shape
  cut : Op → Shape → Shape → Shape

-- an entry whose parts are read by f
unfoldable pub shape_of : (ℕ → Shape) → Option Entry → Shape
shape_of f (Some (Simple s)) = simple s
shape_of f (Some (Placed m v k)) = placed m v (f k)
shape_of f (Some (Cut o a b)) = cut o (f a) (f b)
shape_of f None = none

-- the solid at entry i, nested at most so deep, where `at` gives the entries
unfoldable pub read : ℕ → (ℕ → Option Entry) → ℕ → Shape
read zero at i = none
read (suc d) at i = shape_of (read d at) (at i)

-- with the inverses from a list beside the numbers
abbrev pub decode : ℕ → List Float → List Float → List ℕ → ℕ → Shape
decode d numbers inverses marks = read d (entry_at numbers inverses marks)

-- document 01's solid at entry i: each placing with its own inverse
abbrev pub solid_of : List Float → List ℕ → ℕ → Shape
solid_of numbers marks = read 8 (own_entry numbers marks)

unfoldable pub shape_contains : Shape → Vector → Float → Bool
shape_contains none p f = false
shape_contains (simple s) p f = contains_of s p f
shape_contains (placed m v s) p f = shape_contains s (mul_position v p) f
shape_contains (cut o a b) p f = cut_contains o (shape_contains a) (shape_contains b) p

-- a cut's hit with so many restarts left, of a ray that starts `sum` beyond the first origin, by what its parts answer; the 65th is refused
unfoldable pub cut_from : (Float → Hit → Hit) → ℕ → (Ray → Result Hit Refusal) → (Ray → Result Hit Refusal) → (Vector → Bool) → Float → Ray → Result Hit Refusal
cut_from tell zero a b inside sum r = step tell (λ _ _. Err Restarts) inside sum r (both (a r) (b r))
cut_from tell (suc n) a b inside sum r = step tell (cut_from tell n a b inside) inside sum r (both (a r) (b r))

unfoldable pub shape_hit : Shape → Ray → Result Hit Refusal
shape_hit none r = Ok no_hit
shape_hit (simple s) r = Ok (hit_of s r)
shape_hit (placed m v s) r = rescaled (mul_ray v r).scale (shape_hit s (mul_ray v r).ray)
shape_hit (cut o a b) r = cut_from (tell_of o) 64 (shape_hit a) (shape_hit b) (cut_contains o (shape_contains a) (shape_contains b)) zero_f r

-- a cut's hit, with so many restarts left, of the parts a and b that `at` gives
abbrev pub cut_hit : Op → ℕ → (ℕ → Shape) → ℕ → ℕ → Float → Ray → Result Hit Refusal
cut_hit o restarts at a b = cut_from (tell_of o) restarts (shape_hit (at a)) (shape_hit (at b)) (cut_contains o (shape_contains (at a)) (shape_contains (at b)))

unfoldable pub shape_box : Shape → BBox
shape_box none = box_of (vec zero_f zero_f zero_f) (vec zero_f zero_f zero_f)
shape_box (simple s) = solid_box s
shape_box (placed m v s) = mul_box m (shape_box s)
shape_box (cut o a b) = extend_box (shape_box a) (shape_box b)
