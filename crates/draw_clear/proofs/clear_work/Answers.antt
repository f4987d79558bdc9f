use Rattle.draw_clear.proofs.Clearing.{cleared}
use Rattle.floats.specs.Arith.{zero_f}
use Rattle.draw_clear.proofs.clear_work.Goals as goal

pub returns : goal.returns
returns c =
    let args = c.args in
    record {
      zeroed = cleared zero_f args.work.now c.clear.ensures;
      zeroed_2 = cleared 0 args.work_starts.now c.clear_starts.ensures;
      zeroed_3 = cleared zero_f args.chopped.now c.clear-2.ensures;
      zeroed_4 = cleared 0 args.chopped_starts.now c.clear_starts-2.ensures;
      zeroed_5 = cleared zero_f args.node_boxes.now c.clear-3.ensures;
      zeroed_6 = cleared 0 args.node_marks.now c.clear_marks.ensures;
      zeroed_7 = cleared 0 args.order.now c.clear_marks-2.ensures;
    }
