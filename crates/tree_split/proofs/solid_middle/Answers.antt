use Rattle.tree_split.proofs.solid_middle.Goals as goal

pub returns : goal.returns
returns c =
    rw (c.centroid-c.ensures, c.solid_box.ensures)
