use Prim.Native.Nat.{◌-◌}
use lib.ListN.{length}
use lib.Ieee.{Float}
use Rattle.rows.specs.Rows.{padded}
use Rattle.geometry.specs.declared.ray.Ray.{Ray}
use Rattle.tree_walk.specs.Walks.{entry_hit}
use Rattle.tree_cover.specs.Seeking.{seek_rows}
use Rattle.query_scene.proofs.Copies.{Copied}
use Rattle.query_cover.specs.Covered.{bytes_past}
use Rattle.query_cover.proofs.tell.Given as goal

abbrev pub invariant-loop-k : goal.invariant-loop-k
invariant-loop-k l = Copied (padded 0 (length l.initial.told) (bytes_past (λ (d : Float) (r : Ray). seek_rows d (entry_hit l.numbers l.inverses l.marks r) r l.node_boxes l.node_marks l.order) l.eye l.n l.tested)) l.initial.told (length l.initial.told) l.told l.k
