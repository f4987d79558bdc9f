use native.Mathlib.Omega.{arith}
use Rattle.query_cover.proofs.Answers.{byte-after, byte-is}
use Rattle.query_cover.proofs.byte_at.Goals as goal

pub returns-then-k-n : goal.returns-then-k-n
returns-then-k-n c =
    byte-after _ _ _ _ _ c.if-k-n.true

pub read_point-p-requires : goal.read_point-p-requires
read_point-p-requires c =
    let pre = c.requires in omega (arith, pre, c.if-k-n.false)

pub returns : goal.returns
returns c =
    byte-is _ _ _ _ _ c.if-k-n.false _ c.read_point-p.ensures _ c.sight.ensures _ c.byte.ensures
