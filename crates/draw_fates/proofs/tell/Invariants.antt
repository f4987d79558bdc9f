use Prim.Native.Nat.{◌-◌}
use lib.ListN.{length}
use Rattle.rows.specs.Rows.{padded}
use Rattle.geometry.specs.declared.ray.Ray.{Ray}
use Rattle.tree_walk.specs.Walks.{entry_hit, walk_rows}
use Rattle.query_scene.specs.Queries.{hides}
use Rattle.query_scene.proofs.Copies.{Copied}
use Rattle.draw_fates.specs.Fates.{words_by}
use Rattle.draw_fates.proofs.tell.Given as goal

abbrev pub invariant-loop-k : goal.invariant-loop-k
invariant-loop-k l = Copied (padded 0 (length l.initial.told) (words_by l.matrix (hides (λ (r : Ray). walk_rows (entry_hit l.numbers l.inverses l.marks r) r l.node_boxes l.node_marks l.order) l.eye) l.n l.tested)) l.initial.told (length l.initial.told) l.told l.k
