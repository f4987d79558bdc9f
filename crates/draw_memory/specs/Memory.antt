-- What is kept of the ends of earlier paths: eight points, three numbers each, and of each what became of it; the ninth number says whose place is taken next.
use Rattle.std.specs.Prelude.{◌≡◌, Bool, cond, ◌&&◌, List, ℕ, zero, suc, ◌+◌, ◌<◌, ◌%◌, length, get_or, eqb, Float, Err, None, Ok, Option, Result, Some}
use Rattle.std.specs.Float.{binary64}
use Rattle.std.specs.Float.Ieee.{to_bits}
use Rattle.floats.specs.Numbers.{number}
use Rattle.geometry.specs.declared.vector.Vector.{Vector}
use Rattle.rows.specs.Rows.{row}
use Rattle.rows.specs.Points.{point_of}
use Rattle.refusals.specs.declared.Refusal.{Refusal}

-- 0 for dropped, 1 for kept, 2 for neither
unfoldable pub outcome_of : Result (Option Vector) Refusal → ℕ
outcome_of (Ok None) = 0
outcome_of (Ok (Some v)) = 1
outcome_of (Err k) = 2

-- the place that is taken next
abbrev pub next_place : List ℕ → ℕ
next_place known = get_or known 8 0 % 8

-- one and the same number, bit by bit: == would take -0 for +0. A NaN is the same as none
unfoldable pub same_number : Float → Float → Bool
same_number a b = number a && (number b && eqb (to_bits binary64 a) (to_bits binary64 b))

unfoldable pub same_point : Vector → Vector → Bool
same_point a b = same_number a.x b.x && (same_number a.y b.y && same_number a.z b.z)

-- what is kept of the first that is v among n points, from place k on; 2 if none is
unfoldable pub recalled_from : List Float → List ℕ → Vector → ℕ → ℕ → ℕ
recalled_from ends known v zero k = 2
recalled_from ends known v (suc n) k = cond (same_point (point_of (row 3 k ends)) v) (get_or known k 0) (recalled_from ends known v n (k + 1))

unfoldable pub recalled : List Float → List ℕ → Vector → ℕ
recalled ends known v = recalled_from ends known v 8 0

-- c is what is kept of a point that is v
pub record Recalled (ends : List Float) (known : List ℕ) (v : Vector) (c : ℕ) : Type 0 where
  pub place : ℕ
  pub there : place < 8
  pub same : point_of (row 3 place ends) ≡ v
  pub is : get_or known place 0 ≡ c

-- whatever is kept of a point is what the test makes of it
pub record Remembered (test : Vector → Result (Option Vector) Refusal) (ends : List Float) (known : List ℕ) : Type 0 where
  pub wide : length ends ≡ 24
  pub wide_known : length known ≡ 9
  pub each : (k : ℕ) → k < 8 → get_or known k 0 < 2 → outcome_of (test (point_of (row 3 k ends))) ≡ get_or known k 0
