use Rattle.text_heads.proofs.Numbers.{rest-row}
use Rattle.text_heads.specs.Heads.{view_of}
use Rattle.text_heads.proofs.view_of.Goals as goal

pub returns : goal.returns
unfolding view_of
returns c =
    let pre = c.requires in rw (c.matrix_of.ensures, c.read_numbers-n.ensures, rest-row _ (pre))
