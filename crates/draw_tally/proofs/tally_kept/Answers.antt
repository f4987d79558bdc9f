use Rattle.std.proofs.lemmas.Result.{err_from_is_err_and}
use native.Mathlib.Omega.{arith}
use Rattle.draw_tally.proofs.Fewer.{kept-count, kept-all}
use Rattle.draw_tally.proofs.Turning.{path-full, added_full, added}
use Rattle.draw_tally.proofs.tally_kept.Goals as goal

pub returns-then-begins-m : goal.returns-then-begins-m
returns-then-begins-m c =
    path-full _ _ _ _ c.if-begins-m.true

pub path_simplify-requires : goal.path_simplify-requires
path_simplify-requires c =
    let pre = c.requires in (pre.0, pre.1, omega arith, pre.3)

pub returns-then-room-n : goal.returns-then-room-n
returns-then-room-n c =
    let args = c.args in let pre = c.requires in added_full _ _ _ _ (kept-count _ pre.3 args.path.now args.spare.now args.from args.end pre.1 pre.2 c.path_simplify.ensures c.in_ok-k.was) c.if-begins-m.false c.if-room-n.true

pub returns-in_err-k : goal.returns-in_err-k
returns-in_err-k c =
    let p = err_from_is_err_and c.from_residual.result c.from_residual.ensures.1 in rw (p.1, p.2) (let args = c.args in let pre = c.requires in kept-all _ pre.3 args.path.now args.spare.now args.from args.end pre.1 pre.2 c.path_simplify.ensures c.in_err-k.was)

pub returns : goal.returns
returns c =
    let args = c.args in let pre = c.requires in added _ _ _ _ (kept-count _ pre.3 args.path.now args.spare.now args.from args.end pre.1 pre.2 c.path_simplify.ensures c.in_ok-k.was) c.if-begins-m.false c.if-room-n.false c.paths_left-l.ensures
