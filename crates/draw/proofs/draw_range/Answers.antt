use Rattle.draw.proofs.Endings.{drawn-finished, zeros-as}
use Rattle.floats.specs.Arith.{zero_f}
use Rattle.draw.proofs.draw_range.Goals as goal

pub finish-requires : goal.finish-requires
finish-requires c = c.drawing-r.ensures.fits

pub returns-clause-finished : goal.returns-clause-finished
returns-clause-finished c = drawn-finished c.drawing-r.ensures c.drawing-r.auto.out c.drawing-r.auto.begins c.finish.ensures

pub returns-clause-zeroed : goal.returns-clause-zeroed
returns-clause-zeroed c = zeros-as zero_f c.drawing-r.auto.work c.clear_work.ensures.zeroed

pub returns-clause-zeroed_2 : goal.returns-clause-zeroed_2
returns-clause-zeroed_2 c = zeros-as 0 c.drawing-r.auto.work_starts c.clear_work.ensures.zeroed_2

pub returns-clause-zeroed_3 : goal.returns-clause-zeroed_3
returns-clause-zeroed_3 c = zeros-as zero_f c.drawing-r.auto.chopped c.clear_work.ensures.zeroed_3

pub returns-clause-zeroed_4 : goal.returns-clause-zeroed_4
returns-clause-zeroed_4 c = zeros-as 0 c.drawing-r.auto.chopped_starts c.clear_work.ensures.zeroed_4

pub returns-clause-zeroed_5 : goal.returns-clause-zeroed_5
returns-clause-zeroed_5 c = zeros-as zero_f c.drawing-r.auto.node_boxes c.clear_work.ensures.zeroed_5

pub returns-clause-zeroed_6 : goal.returns-clause-zeroed_6
returns-clause-zeroed_6 c = zeros-as 0 c.drawing-r.auto.node_marks c.clear_work.ensures.zeroed_6

pub returns-clause-zeroed_7 : goal.returns-clause-zeroed_7
returns-clause-zeroed_7 c = zeros-as 0 c.drawing-r.auto.order c.clear_work.ensures.zeroed_7
