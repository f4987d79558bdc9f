use Rattle.check_scene.proofs.Verdicts.{cleared}
use Rattle.floats.specs.Arith.{zero_f}
use mathlib.Core.Path.{refl}
use Rattle.query_scene.proofs.clear_all.Goals as goal

pub returns : goal.returns
returns c =
    record {
      node_boxes_after = cleared zero_f c.args.node_boxes.now refl c.clear.ensures;
      node_marks_after = cleared 0 c.args.node_marks.now refl c.clear_marks.ensures;
      order_after = cleared 0 c.args.order.now refl c.clear_marks-2.ensures;
    }
