-- Runs of points: the count so far, or the refusal that was met, is handed on.
use Rattle.std.specs.Prelude.{◌≡◌, List, ℕ, ◌*◌, ◌≤◌, length, Float, Ok, Result}
use Rattle.geometry.specs.declared.vector.Vector.{Vector}
use Rattle.rows.specs.Points.{points}
use Rattle.paths.specs.Answers.{next}
use Rattle.paths.specs.Paths.{push_all}
use Rattle.paths.specs.Ends.{places, told, Ends}
use Rattle.refusals.specs.declared.Refusal.{Refusal}

abbrev pub FitPoints : Result ℕ Refusal → List Float → Type 0
FitPoints c xs = (n : ℕ) → c ≡ Ok n → n * 3 ≤ length xs

pub record Pushes (l : List Vector) (c : Result ℕ Refusal) (xs ys : List Float) (r : Result ℕ Refusal) : Type 0 where
  pub ends : Ends (next (told points c xs) (λ (vs : List Vector). push_all (places xs) vs l)) ys r
