use Rattle.std.proofs.Common.{◌+◌, ◌*◌}
use Rattle.draw_collect.proofs.+paths.Given as goal

abbrev pub decreases-entry_paths : goal.decreases-entry_paths
decreases-entry_paths l = 2 * l.depth

abbrev pub decreases-part_paths : goal.decreases-part_paths
decreases-part_paths l = 2 * l.depth + 1
