use Rattle.paths.proofs.Closing.{finished-refused, finished-both}
use native.Mathlib.Omega.{arith}
use Rattle.paths.proofs.finish.Goals as goal

pub overflow_mul-n : goal.overflow_mul-n
overflow_mul-n c =
    let good = c.well_formed in let pre = c.requires in omega (arith, (pre _ _ c.in-Ok.is).0, good)

pub clear-requires-in-Ok : goal.clear-requires-in-Ok
clear-requires-in-Ok c =
    let pre = c.requires in (pre _ _ c.in-Ok.is).0

pub clear_starts-requires-in-Ok : goal.clear_starts-requires-in-Ok
clear_starts-requires-in-Ok c =
    let pre = c.requires in (pre _ _ c.in-Ok.is).1

pub returns-in-Err : goal.returns-in-Err
returns-in-Err c =
    let args = c.args in finished-refused args.out.now _ args.starts.now _ _ c.in-Err.is c.clear.ensures c.clear_starts.ensures

pub returns-in-Ok : goal.returns-in-Ok
returns-in-Ok c =
    let args = c.args in let pre = c.requires in finished-both args.out.now _ args.starts.now _ _ _ c.in-Ok.is (pre _ _ c.in-Ok.is).0 (pre _ _ c.in-Ok.is).1 c.clear-in-Ok.ensures c.clear_starts-in-Ok.ensures
