-- Paths one after the other.
use Rattle.std.specs.Prelude.{List, [], ◌∷◌, ◌++◌, length}
use Rattle.paths.specs.Paths.{Paths, paths_with, no_paths}
use Rattle.path_append.specs.Append.{shifted}

-- the points of the first and then of the second, whose starts are moved on by the points before them
unfoldable pub followed : Paths → Paths → Paths
followed p q = paths_with (p.vertices ++ q.vertices) (p.starts ++ shifted (length p.vertices) q.starts)

-- all of them, one after the other
unfoldable pub followed_all : List Paths → Paths
followed_all [] = no_paths
followed_all (p ∷ ps) = followed p (followed_all ps)
