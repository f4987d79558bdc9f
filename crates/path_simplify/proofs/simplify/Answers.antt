use Rattle.path_simplify.proofs.Calls.{call-refused, call-fine, fine-low, call_ends}
use Rattle.paths.proofs.Closing.{none-counted, finished_as}
use Rattle.paths.specs.Ends.{places}
use lib.ListN.{length}
use mathlib.Core.Path.{refl, ◌∙◌}
use Rattle.path_simplify.proofs.simplify.Goals as goal

pub finish-requires : goal.finish-requires
finish-requires c =
    none-counted _

pub simplify_paths-r-requires : goal.simplify_paths-r-requires
simplify_paths-r-requires c =
    fine-low _ _ _ _ c.threshold_ok.ensures _ c.judge-v.ensures c.in-Ok.is

pub finish-requires-in-Ok : goal.finish-requires-in-Ok
finish-requires-in-Ok c =
    c.simplify_paths-r.ensures.fits

pub returns-in-Err : goal.returns-in-Err
returns-in-Err c =
    let args = c.args in
    let w = call_ends args.path.now args.starts.now args.threshold (places args.out.now) (length args.begins.now) (length args.out.now) (length args.begins.now)
    (finished_as _ _ _ _ (call-refused _ _ _ _ c.threshold_ok.ensures _ c.judge-v.ensures _ _ c.in-Err.is) refl refl c.finish.ensures) in
    record { finished = w.0; kept = w.1 }

pub returns-in-Ok : goal.returns-in-Ok
returns-in-Ok c =
    let args = c.args in
    let w = call_ends args.path.now args.starts.now args.threshold (places args.out.now) (length args.begins.now) (length args.out.now) (length args.begins.now)
    (finished_as _ _ _ _ (c.simplify_paths-r.ensures.is ∙ call-fine _ _ _ _ c.threshold_ok.ensures _ c.judge-v.ensures _ _ c.in-Ok.is)
    c.simplify_paths-r.auto.out c.simplify_paths-r.auto.begins c.finish-in-Ok.ensures) in
    record { finished = w.0; kept = w.1 }
