use Rattle.draw_outlines.proofs.Alone.{fit_none, bad-length, no-solid, too-deep, bad-view, outline-is}
use Rattle.paths.proofs.Closing.{none-counted, finished_as}
use mathlib.Core.Path.{refl, ◌∙◌}
use Rattle.draw_outlines.proofs.outline_alone.Goals as goal

pub finish-requires : goal.finish-requires
finish-requires c =
    none-counted _

pub returns-then-placings-ne0 : goal.returns-then-placings-ne0
returns-then-placings-ne0 c =
    let args = c.args in finished_as _ _ _ _ (bad-length args.solid args.eye args.placings.now args.view _ _ c.if-placings-ne0.true) refl refl c.finish.ensures

pub finish-requires-then-n-gt7 : goal.finish-requires-then-n-gt7
finish-requires-then-n-gt7 c =
    none-counted _

pub returns-then-n-gt7 : goal.returns-then-n-gt7
returns-then-n-gt7 c =
    let args = c.args in finished_as _ _ _ _ (too-deep args.solid args.eye args.placings.now args.view _ _ c.if-placings-ne0.false c.in-Some.is c.if-n-gt7.true) refl refl c.finish-then-n-gt7.ensures

pub finish-requires-then-not-is_ok : goal.finish-requires-then-not-is_ok
finish-requires-then-not-is_ok c =
    none-counted _

pub returns-then-not-is_ok : goal.returns-then-not-is_ok
returns-then-not-is_ok c =
    let args = c.args in finished_as _ _ _ _ (bad-view args.solid args.eye args.placings.now args.view _ _ c.if-placings-ne0.false c.in-Some.is c.if-n-gt7.false c.is_ok.ensures c.if-not-is_ok.true) refl refl c.finish-then-not-is_ok.ensures

pub outline-r-requires : goal.outline-r-requires
outline-r-requires c =
    let args = c.args in fit_none args.out.now args.begins.now

pub finish-requires-in-Some : goal.finish-requires-in-Some
finish-requires-in-Some c =
    c.outline-r.ensures.ends.fits

pub finish-requires-in-None : goal.finish-requires-in-None
finish-requires-in-None c =
    none-counted _

pub returns-else-not-is_ok : goal.returns-else-not-is_ok
returns-else-not-is_ok c =
    let args = c.args in finished_as _ _ _ _ (c.outline-r.ensures.ends.is ∙ outline-is args.solid args.eye args.placings.now args.view _ _ c.if-placings-ne0.false c.in-Some.is c.if-n-gt7.false c.is_ok.ensures c.if-not-is_ok.false c.args-in-Some.ensures c.placings_from.ensures c.stance_at-t.ensures args.out.now args.begins.now) c.outline-r.auto.out c.outline-r.auto.begins c.finish-in-Some.ensures

pub returns-in-None : goal.returns-in-None
returns-in-None c =
    let args = c.args in finished_as _ _ _ _ (no-solid args.solid args.eye args.placings.now args.view _ _ c.if-placings-ne0.false c.in-None.is) refl refl c.finish-in-None.ensures
