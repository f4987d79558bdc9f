use Rattle.std.proofs.Common.{◌+◌, ◌*◌}
use Rattle.scene_shape.proofs.+contains.Given as goal

abbrev pub decreases-cut_contains : goal.decreases-cut_contains
decreases-cut_contains l = 2 * l.depth + 1

abbrev pub decreases-entry_contains : goal.decreases-entry_contains
decreases-entry_contains l = 2 * l.depth
