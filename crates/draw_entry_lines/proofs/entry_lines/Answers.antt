use Rattle.floats.specs.Arith.{zero_f}
use Rattle.draw_clear.proofs.Clearing.{cleared}
use Rattle.draw.proofs.Endings.{drawn-finished, zeros-as}
use Rattle.draw_entry_lines.proofs.entry_lines.Goals as goal

pub returns-clause-finished : goal.returns-clause-finished
returns-clause-finished c = drawn-finished c.checked_lines-r.ensures c.checked_lines-r.auto.out c.checked_lines-r.auto.begins c.finish.ensures

pub returns-clause-zeroed : goal.returns-clause-zeroed
returns-clause-zeroed c = zeros-as zero_f c.checked_lines-r.auto.work (cleared zero_f c.checked_lines-r.new.work c.clear.ensures)

pub returns-clause-zeroed_2 : goal.returns-clause-zeroed_2
returns-clause-zeroed_2 c = zeros-as 0 c.checked_lines-r.auto.work_starts (cleared 0 c.checked_lines-r.new.work_starts c.clear_starts.ensures)
