use Rattle.host.proofs.TreeCalls.{built-so}
use Rattle.host.proofs.trees.larnt_build.Goals as goal

pub returns : goal.returns
returns c =
    let e = c.build-b.ensures in built-so e.answer _ _ _ _ _ (c.answer_number.ensures, (e.boxes_are, (e.marks_are, (e.order_is, c.node_count.ensures))))
