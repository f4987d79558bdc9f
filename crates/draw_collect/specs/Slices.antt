-- The slices that lines are collected in: vectors of `wide` numbers and `many` starts, one after the other.
use Rattle.std.specs.Prelude.{List, ℕ, ◌*◌, ◌/◌, ◌≤◌, length, take, drop, Float, Result}
use Rattle.scene.specs.Entries.{entry_at}
use Rattle.paths.specs.Answers.{next}
use Rattle.paths.specs.Paths.{Paths, no_paths}
use Rattle.paths.specs.Ends.{places, held, told_both}
use Rattle.scene_shape.specs.Shapes.{Shape}
use Rattle.view.specs.declared.RenderArgs.{RenderArgs}
use Rattle.path_append.specs.Append.{appended}
use Rattle.draw_arcs.specs.Stances.{Placement}
use Rattle.draw_arcs.specs.declared.Stance.{Stance}
use Rattle.draw_collect.specs.Lined.{Lined, read_lined, own_lines}
use Rattle.draw_collect.specs.Collect.{LineRoom, collected, sifted}
use Rattle.refusals.specs.declared.Refusal.{Refusal}

abbrev pub room_of : ℕ → ℕ → List Float → List ℕ → LineRoom
room_of wide many chopped choppedStarts = record { points = wide / 3; starts = many; chopped = places chopped; begins = length choppedStarts }

-- the drawn value at entry i of a scene with its inverses
abbrev pub lined_at : ℕ → List Float → List Float → List ℕ → List Float → List ℕ → List ℕ → ℕ → Lined
lined_at depth numbers inverses marks points starts owners = read_lined depth (entry_at numbers inverses marks) (own_lines marks points starts owners)

-- the lines of entry a and then of entry b
abbrev pub collected_both : Placement → LineRoom → (ℕ → Lined) → ℕ → ℕ → Result Paths Refusal
collected_both t w lined a b = next (collected t w (lined a) no_paths) (collected t w (lined b))

-- the paths that the first vector holds, and those of the second
abbrev pub first_held : ℕ → ℕ → ℕ → List Float → ℕ → List ℕ → Paths
first_held wide many n xs m ss = held n (take wide xs) m (take many ss)

-- so many vectors are there, and the first holds n points and m starts
pub record Lent (depth wide many n m : ℕ) (xs : List Float) (ss : List ℕ) : Type 0 where
  pub long : depth * wide ≤ length xs
  pub broad : depth * many ≤ length ss
  pub points_fit : n * 3 ≤ length (take wide xs)
  pub starts_fit : m ≤ length (take many ss)

-- there is a place for the placing of each level
pub record Spare (depth : ℕ) (t : Stance) : Type 0 where
  pub enough : depth ≤ t.placings.free
  pub most : t.placings.free ≤ 8

-- the second vector's paths, if there are any, sifted and appended to the first's
abbrev pub joined : RenderArgs → LineRoom → Shape → ℕ → ℕ → ℕ → List Float → ℕ → List ℕ → Result (ℕ × ℕ) Refusal → Result Paths Refusal
joined a w s wide many n xs m ss c =
    next (told_both c (take wide (drop wide xs)) (take many (drop many ss)))
    (λ (q : Paths). next (sifted a w s q) (appended w.points w.starts (first_held wide many n xs m ss)))
