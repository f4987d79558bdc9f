use Rattle.path_append.proofs.Joining.{low-movable, starts-full, points-full, joined}
use native.Mathlib.Omega.{arith}
use lib.ListN.{length, take, drop}
use Rattle.path_append.proofs.append.Goals as goal

pub returns-then-many-m : goal.returns-then-many-m
returns-then-many-m c =
    starts-full _ _ _ _ _ _ c.args.work.now c.args.begins.now c.requires.0 c.requires.1 c.requires.2 c.requires.3 c.requires.4 c.requires.5 c.if-many-m.true _ _

pub returns-then-wide-n : goal.returns-then-wide-n
returns-then-wide-n c =
    points-full _ _ _ _ _ _ c.args.work.now c.args.begins.now c.requires.0 c.requires.1 c.requires.2 c.requires.3 c.requires.4 c.requires.5 c.if-many-m.false c.if-wide-n.true _ _

pub shift-requires : goal.shift-requires
shift-requires c =
    (omega arith, omega arith, low-movable c.args.n c.args.p (length c.args.work.now) (take c.args.q (drop c.args.many c.args.begins.now)) c.requires.6 (omega arith) (omega arith))

pub returns : goal.returns
returns c =
    joined _ _ _ _ _ _ c.args.work.now c.args.begins.now c.requires.0 c.requires.1 c.requires.2 c.requires.3 c.requires.4 c.requires.5 c.if-many-m.false c.if-wide-n.false _ _ c.shift.ensures c.copy.ensures
