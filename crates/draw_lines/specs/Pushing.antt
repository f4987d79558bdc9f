-- Paths pushed one after the other, each opened by `new_path`; one without points vanishes.
use Rattle.std.specs.Prelude.{◌≡◌, List, ℕ, ◌*◌, ◌≤◌, length, Float, Ok, Result}
use Rattle.geometry.specs.declared.vector.Vector.{Vector}
use Rattle.paths.specs.Answers.{next}
use Rattle.paths.specs.Paths.{Paths, push_all, one_path, each}
use Rattle.paths.specs.Ends.{places, told_both, EndsBoth}
use Rattle.refusals.specs.declared.Refusal.{Refusal}

-- a path's points as they are
abbrev pub copied : ℕ → List Vector → List Vector → Result (List Vector) Refusal
copied room p vs = push_all room vs p

unfoldable pub add_paths : ℕ → ℕ → List (List Vector) → Paths → Result Paths Refusal
add_paths room startRoom ps out = each (one_path copied room startRoom) ps out

-- ---- runs of them: the counts so far, or the refusal that was met, are handed on
abbrev pub Fit : Result (ℕ × ℕ) Refusal → List Float → List ℕ → Type 0
Fit c xs ss = (n m : ℕ) → c ≡ Ok (n, m) → (n * 3 ≤ length xs) × (m ≤ length ss)

pub record Adds (ps : List (List Vector)) (c : Result (ℕ × ℕ) Refusal) (xs : List Float) (ss : List ℕ) (ys : List Float) (us : List ℕ) (r : Result (ℕ × ℕ) Refusal) : Type 0 where
  pub ends : EndsBoth (next (told_both c xs ss) (add_paths (places xs) (length ss) ps)) ys us r
