use Rattle.scene.specs.Entries.{matrix_numbers}
use Rattle.test_leaves.specs.Records.{inverse_right}
use Rattle.test_leaves.proofs.inverse_right.Goals as goal

pub returns : goal.returns
unfolding inverse_right matrix_numbers
returns c =
    simp (← c.numbers_from.ensures, ← c.matrix_of-given.ensures, ← c.inverse_with_determinant-i.ensures, ← c.all_same.ensures)
