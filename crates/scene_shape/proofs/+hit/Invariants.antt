use Rattle.std.proofs.Common.{◌+◌, ◌*◌}
use Rattle.scene_shape.proofs.+hit.Given as goal

abbrev pub decreases-cut_hit : goal.decreases-cut_hit
decreases-cut_hit l = 70 * l.depth + l.restarts + 2

abbrev pub decreases-entry_hit : goal.decreases-entry_hit
decreases-entry_hit l = 70 * l.depth + 1

abbrev pub decreases-part_hit : goal.decreases-part_hit
decreases-part_hit l = 70 * l.above
