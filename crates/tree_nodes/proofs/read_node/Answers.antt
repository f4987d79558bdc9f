use borrow.Author.Rules.{rules}
use Rattle.tree_nodes.proofs.read_node.Goals as goal

pub returns : goal.returns
returns c =
    rw (c.read_box-bx.ensures, c.read_triple-m.ensures)
