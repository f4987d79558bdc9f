-- Simplification leaves starts that rise, within the room of its slices. Assumes nothing.
use mathlib.Core.Path.{◌≡◌}
use mathlib.Core.List.{List}
use Prim.Native.Nat.{ℕ}
use lib.Ieee.{Float}
use Rattle.geometry.specs.declared.vector.Vector.{Vector}
use Rattle.paths.specs.Paths.{Paths, no_paths, one_path, paths_of, stage}
use Rattle.paths.proofs.Laying.{Laid, laid_none, one-laid, each_laid}
use Rattle.path_rdp.specs.Rdp.{simplified}
use Rattle.path_simplify.specs.Simplify.{path_simplify, simplify_paths}
use Rattle.std.specs.Prelude.{Ok}

pub simplify-laid : (t : Float) (vs : List Vector) (ss : List ℕ) (room startRoom : ℕ) {q : Paths} → simplify_paths t vs ss room startRoom ≡ Ok q → Laid room startRoom q
unfolding stage
simplify-laid t vs ss room startRoom {q} e = each_laid (one_path (path_simplify t) room startRoom) (one-laid (simplified t)) (paths_of vs ss) no_paths q e laid_none
