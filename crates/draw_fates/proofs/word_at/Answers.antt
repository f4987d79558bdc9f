use native.Mathlib.Omega.{arith}
use Rattle.draw_fates.proofs.Ways.{after, at_place}
use Rattle.draw_fates.proofs.word_at.Goals as goal

pub returns-then-k-n : goal.returns-then-k-n
returns-then-k-n c =
    after _ _ _ _ _ c.if-k-n.true

pub read_point-p-requires : goal.read_point-p-requires
read_point-p-requires c =
    let pre = c.requires in omega (arith, pre, c.if-k-n.false)

pub returns : goal.returns
returns c =
    at_place _ _ _ _ _ c.if-k-n.false _ c.read_point-p.ensures _ c.point_fate.ensures _ c.word.ensures
