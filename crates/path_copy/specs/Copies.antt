-- Paths copied to slices with so many places: number 13 where one is too short.
use Rattle.std.specs.Prelude.{cond, List, [], ℕ, length, leb, Err, Ok, Result}
use Rattle.geometry.specs.declared.vector.Vector.{Vector}
use Rattle.refusals.specs.declared.Refusal.TheVariants.{Room}
use Rattle.paths.specs.Answers.{next}
use Rattle.paths.specs.Paths.{Paths, paths_with, push_all}
use Rattle.refusals.specs.declared.Refusal.{Refusal}

-- the points are pushed one after the other, and there is a place for each start
unfoldable pub copied_paths : ℕ → ℕ → Paths → Result Paths Refusal
copied_paths room startRoom p =
    cond (leb (length p.starts) startRoom) (next (push_all room [] p.vertices) (λ (vs : List Vector). Ok (paths_with vs p.starts))) (Err Room)
