use Rattle.scene_merge.proofs.Laying.{number-first, number-second, number_past}
use Rattle.floats.specs.Arith.{zero_f}
use lib.Ieee.{nan}
use Rattle.scene_merge.proofs.number_at.Goals as goal

pub returns-then-k-n : goal.returns-then-k-n
returns-then-k-n c =
    let args = c.args in let pre = c.requires in number-first args.n args.m args.first.now args.second.now args.k nan zero_f pre.0 c.if-k-n.true

pub returns-then-j-m : goal.returns-then-j-m
returns-then-j-m c =
    let args = c.args in let pre = c.requires in number-second args.n args.m args.first.now args.second.now args.k nan zero_f pre.0 pre.1 c.if-k-n.false c.if-j-m.true

pub returns : goal.returns
returns c =
    let args = c.args in let pre = c.requires in number_past args.n args.m args.first.now args.second.now args.k nan zero_f pre.0 pre.1 c.if-k-n.false c.if-j-m.false
