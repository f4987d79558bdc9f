use Rattle.draw.proofs.Ranges.{all_finished}
use Rattle.draw.proofs.draw_with.Goals as goal

pub returns-clause-finished : goal.returns-clause-finished
returns-clause-finished c = all_finished _ _ _ _ c.draw_range.ensures.finished
