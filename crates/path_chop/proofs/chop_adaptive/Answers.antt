use Rattle.path_chop.proofs.Halving.{call-refused, call-fine}
use Rattle.paths.proofs.Closing.{none-counted, finished_as}
use mathlib.Core.Path.{refl, ◌∙◌}
use Rattle.path_chop.proofs.chop_adaptive.Goals as goal

pub finish-requires : goal.finish-requires
finish-requires c =
    none-counted _

pub finish-requires-in-Ok : goal.finish-requires-in-Ok
finish-requires-in-Ok c =
    c.chop_paths-r.ensures.fits

pub returns-in-Err : goal.returns-in-Err
returns-in-Err c =
    finished_as _ _ _ _ (call-refused _ _ _ _ _ _ c.is_ok.ensures _ c.judge-v.ensures c.in-Err.is) refl refl c.finish.ensures

pub returns-in-Ok : goal.returns-in-Ok
returns-in-Ok c =
    finished_as _ _ _ _ (c.chop_paths-r.ensures.is ∙ call-fine _ _ _ _ _ _ c.is_ok.ensures _ c.judge-v.ensures _ c.args-in-Ok.ensures c.in-Ok.is) c.chop_paths-r.auto.out c.chop_paths-r.auto.begins c.finish-in-Ok.ensures
