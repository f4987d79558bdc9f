-- What code answers together with the slices that it was lent, read as an answer of the definitions.
use Rattle.std.specs.Prelude.{◌≡◌, List, [], ℕ, ◌*◌, ◌/◌, ◌≤◌, length, take, replicate, Float, Err, Ok, Result}
use Rattle.floats.specs.Arith.{zero_f}
use Rattle.geometry.specs.declared.vector.Vector.{Vector}
use Rattle.rows.specs.Points.{points, point_of, point_row}
use Rattle.rows.specs.Rows.{flat, padded}
use Rattle.paths.specs.Paths.{Paths, paths_with}
use Rattle.refusals.specs.declared.Refusal.{Refusal}

-- how many points a slice has places for, and all of them
abbrev pub places : List Float → ℕ
places xs = length xs / 3

abbrev pub all_points : List Float → List Vector
all_points xs = points (places xs) xs

-- what is read past the end of a list of points
abbrev pub nowhere : Vector
nowhere = point_of []

-- ---- one slice; `read n` is what its first n rows hold, of k elements each
abbrev pub told : {A B : Type 0} → (ℕ → List A → List B) → Result ℕ Refusal → List A → Result (List B) Refusal
told read (Ok n) xs = Ok (read n xs)
told read (Err k) xs = Err k

-- a function that adds to what a slice holds ends so: a is what it has to answer
pub record Grown {A B : Type 0} (k : ℕ) (read : ℕ → List A → List B) (a : Result (List B) Refusal) (xs : List A) (r : Result ℕ Refusal) : Type 0 where
  pub is : told read r xs ≡ a
  pub fits : (n : ℕ) → r ≡ Ok n → n * k ≤ length xs

-- points, in rows of 3, and starts
abbrev pub Ends : Result (List Vector) Refusal → List Float → Result ℕ Refusal → Type 0
Ends a xs r = Grown 3 points a xs r

abbrev pub EndsStarts : Result (List ℕ) Refusal → List ℕ → Result ℕ Refusal → Type 0
EndsStarts a ss r = Grown 1 take a ss r

-- ---- both
abbrev pub held : ℕ → List Float → ℕ → List ℕ → Paths
held n xs m ss = paths_with (points n xs) (take m ss)

abbrev pub told_both : Result (ℕ × ℕ) Refusal → List Float → List ℕ → Result Paths Refusal
told_both (Ok (n, m)) xs ss = Ok (held n xs m ss)
told_both (Err k) xs ss = Err k

pub record EndsBoth (a : Result Paths Refusal) (xs : List Float) (ss : List ℕ) (r : Result (ℕ × ℕ) Refusal) : Type 0 where
  pub is : told_both r xs ss ≡ a
  pub fits : (n m : ℕ) → r ≡ Ok (n, m) → (n * 3 ≤ length xs) × (m ≤ length ss)

-- ---- how a public call ends: how many points and paths there are, or the refusal; the result and then zeros, or zeros throughout
abbrev pub counted : Result Paths Refusal → Result (ℕ × ℕ) Refusal
counted (Ok p) = Ok (length p.vertices, length p.starts)
counted (Err k) = Err k

abbrev pub laid_points : Result Paths Refusal → ℕ → List Float
laid_points (Ok p) n = padded zero_f n (flat point_row p.vertices)
laid_points (Err k) n = replicate n zero_f

abbrev pub laid_starts : Result Paths Refusal → ℕ → List ℕ
laid_starts (Ok p) n = padded 0 n p.starts
laid_starts (Err k) n = replicate n 0

-- a is the answer, n and m are the lengths of the slices for points and starts
pub record Finished (a : Result Paths Refusal) (n m : ℕ) (xs : List Float) (ss : List ℕ) (r : Result (ℕ × ℕ) Refusal) : Type 0 where
  pub answer : r ≡ counted a
  pub points_laid : xs ≡ laid_points a n
  pub starts_laid : ss ≡ laid_starts a m

-- a lent slice that is left as zeros, by what it held before
abbrev pub Zeroed : {A : Type 0} → A → List A → List A → Type 0
Zeroed z before after = after ≡ replicate (length before) z
