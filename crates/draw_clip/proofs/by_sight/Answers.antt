use Rattle.std.proofs.lemmas.Result.{err_from_is_err_and}
use Rattle.draw_clip.specs.Clip.{by_sight}
use Rattle.draw_clip.proofs.by_sight.Goals as goal

pub returns-in-Visible : goal.returns-in-Visible
unfolding by_sight
returns-in-Visible c =
    rw (c.in_ok-s.was, c.in-Visible.is)

pub returns-in-Hidden : goal.returns-in-Hidden
unfolding by_sight
returns-in-Hidden c =
    rw (c.in_ok-s.was, c.in-Hidden.is)

pub returns-in_err-s : goal.returns-in_err-s
unfolding by_sight
returns-in_err-s c =
    let p = err_from_is_err_and c.from_residual.result c.from_residual.ensures.1 in rw (p.1, p.2) (rw c.in_err-s.was)
