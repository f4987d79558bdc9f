use Rattle.draw_memory.proofs.remember.Goals as goal

pub returns : goal.returns
returns c =
    (rw (← c.index-k.ensures.0) c.write_point.ensures, rw c.index-k.ensures.0)
