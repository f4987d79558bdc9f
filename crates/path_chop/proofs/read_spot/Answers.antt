use Rattle.path_chop.proofs.read_spot.Goals as goal

pub returns : goal.returns
returns c =
    simp c.read_box-b.ensures
