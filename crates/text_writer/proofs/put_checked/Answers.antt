use Rattle.std.proofs.lemmas.Result.{err_from_is_err_and}
use mathlib.Core.Path.{refl, sym}
use native.Mathlib.Omega.{arith}
use lib.ListN.{length}
use lib.Seq.{length-take-le}
use Rattle.scene.specs.Scenes.{scene_of}
use Rattle.text_writer.proofs.Written.{within-refused, scene-refused, view-refused, listed-formed, few-listed, all-put}
use Rattle.text_writer.proofs.put_checked.Goals as goal

pub returns-then-not-is_ok : goal.returns-then-not-is_ok
returns-then-not-is_ok c =
    let args = c.args in (view-refused (scene_of args.numbers.now args.marks.now args.points.now args.starts.now args.owners.now) args.view (length args.text.now) c.check.ensures.verdict c.in_ok-n.was c.is_ok.ensures c.if-not-is_ok.true args.text.now, within-refused _ _)

pub slice_bounds-drawn-end : goal.slice_bounds-drawn-end
slice_bounds-drawn-end c =
    let args = c.args in omega (arith, few-listed (scene_of args.numbers.now args.marks.now args.points.now args.starts.now args.owners.now) args.view 0 c.check.ensures.verdict c.in_ok-n.was 1024 c.check.new.drawn c.check.ensures.drawn_are, c.check.auto.drawn)

pub slice_bounds-put_yard-end : goal.slice_bounds-put_yard-end
slice_bounds-put_yard-end c =
    let args = c.args in sym (length-take-le _ c.check.new.drawn (omega (arith, few-listed (scene_of args.numbers.now args.marks.now args.points.now args.starts.now args.owners.now) args.view 0 c.check.ensures.verdict c.in_ok-n.was 1024 c.check.new.drawn c.check.ensures.drawn_are, c.check.auto.drawn)))

pub put_yard-requires : goal.put_yard-requires
put_yard-requires c =
    let args = c.args in listed-formed (scene_of args.numbers.now args.marks.now args.points.now args.starts.now args.owners.now) args.view 0 c.check.ensures.verdict c.in_ok-n.was 1024 c.check.new.drawn c.check.ensures.drawn_are

pub returns-in_err-n : goal.returns-in_err-n
returns-in_err-n c =
    let p = err_from_is_err_and c.from_residual.result c.from_residual.ensures.1 in rw (p.1, p.2) (let args = c.args in (scene-refused (scene_of args.numbers.now args.marks.now args.points.now args.starts.now args.owners.now) args.view (length args.text.now) c.check.ensures.verdict c.in_err-n.was args.text.now, within-refused _ _))

pub shape_of-text : goal.shape_of-text
shape_of-text c =
    c.put_yard.auto.text

pub returns : goal.returns
returns c =
    let args = c.args in (all-put (scene_of args.numbers.now args.marks.now args.points.now args.starts.now args.owners.now) args.view (length args.text.now) c.check.ensures.verdict c.in_ok-n.was 1024 c.check.new.drawn c.check.ensures.drawn_are c.is_ok.ensures c.if-not-is_ok.false refl c.put_yard.ensures, c.put_yard.ensures.fits)
