use Rattle.std.proofs.lemmas.Result.{err_from_is_err_and}
use Rattle.draw_lines.proofs.Adding.{adding-start, adding-turn, adding-refused, adding-end}
use Rattle.draw_lines.proofs.Owning.{own_turn, own-end}
use mathlib.Core.Path.{refl, ◌∙◌}
use Rattle.draw_lines.proofs.handed_paths.Goals as goal

pub loop-j-init : goal.loop-j-init
loop-j-init c =
    let pre = c.requires in adding-start _ _ _ _ _ _ refl pre.0 pre.1

pub own_path-requires : goal.own_path-requires
own_path-requires c =
    (c.loop-j-test.true, c.loop-j.invariant.fits, c.loop-j.invariant.fits-starts)

pub shape_of-out-in_err-p : goal.shape_of-out-in_err-p
shape_of-out-in_err-p c =
    c.own_path.auto.out ∙ c.loop-j.invariant.same

pub shape_of-begins-in_err-p : goal.shape_of-begins-in_err-p
shape_of-begins-in_err-p c =
    c.own_path.auto.begins ∙ c.loop-j.invariant.same-starts

pub returns-in_err-p : goal.returns-in_err-p
returns-in_err-p c =
    let p = err_from_is_err_and c.from_residual.result c.from_residual.ensures.1 in rw (p.1, p.2) (adding-refused _ _ _ _ _ _ _ _ _ _ c.loop-j.invariant _ _ (own_turn _ _ _ _ _ c.loop-j-test.true) _ _ c.own_path.ensures c.in_err-p.was)

pub loop-j-preserved : goal.loop-j-preserved
loop-j-preserved c =
    adding-turn _ _ _ _ _ _ _ _ _ _ c.loop-j.invariant _ _ (own_turn _ _ _ _ _ c.loop-j-test.true) _ _ c.own_path.ensures c.own_path.auto.out c.own_path.auto.begins c.in_ok-p.was

pub shape_of-out : goal.shape_of-out
shape_of-out c =
    c.loop-j.invariant.same

pub shape_of-begins : goal.shape_of-begins
shape_of-begins c =
    c.loop-j.invariant.same-starts

pub returns : goal.returns
returns c =
    adding-end _ _ _ _ _ _ _ _ _ _ c.loop-j.invariant (own-end _ _ _ _ _ c.loop-j-test.false)
