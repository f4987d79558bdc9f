use Rattle.std.proofs.lemmas.Result.{err_from_is_err_and}
use Prim.Native.Nat.{◌*◌, ◌/◌}
use mathlib.Core.Path.{sym}
use native.Mathlib.Omega.{arith}
use lib.ListN.{length, take, drop}
use lib.Seq.{length-take-le}
use Rattle.draw_collect.specs.Slices.{lined_at}
use Rattle.draw_render.proofs.Staging.{tail-lines}
use Rattle.draw_entry_lines.proofs.Lines.{lines-refused, lines-put}
use Rattle.draw_entry_lines.proofs.listed_lines.Goals as goal

pub overflow_mul-wide : goal.overflow_mul-wide
overflow_mul-wide c =
    let good = c.well_formed in omega (arith, good)

pub slice_bounds-put_lines-end-2 : goal.slice_bounds-put_lines-end-2
slice_bounds-put_lines-end-2 c =
    sym (length-take-le _ c.all_paths.new.work (omega (arith, c.all_paths.auto.work)))

pub slice_bounds-put_lines-end-4 : goal.slice_bounds-put_lines-end-4
slice_bounds-put_lines-end-4 c =
    sym (length-take-le _ c.all_paths.new.begins (omega (arith, c.all_paths.auto.begins)))

pub put_lines-requires : goal.put_lines-requires
put_lines-requires c =
    ((c.all_paths.ensures.fits _ _ c.in_ok-n.was).0, (c.all_paths.ensures.fits _ _ c.in_ok-n.was).1)

pub returns-in_err-n : goal.returns-in_err-n
returns-in_err-n c =
    let p = err_from_is_err_and c.from_residual.result c.from_residual.ensures.1 in rw (p.1, p.2) (let args = c.args in lines-refused args.view (length args.work.now / 24 * 3) (length args.work_starts.now / 8) args.out.now args.begins.now (lined_at 8 args.numbers.now args.inverses.now args.marks.now args.points.now args.starts.now args.owners.now) (take args.some (drop args.first args.listed.now)) c.args-2.ensures c.all_paths.new.work c.all_paths.new.begins (tail-lines _ _ _ args.first args.some args.listed.now _ _ c.all_paths.ensures) c.in_err-n.was _ _)

pub returns : goal.returns
returns c =
    let args = c.args in lines-put args.view (length args.work.now / 24 * 3) (length args.work_starts.now / 8) args.out.now args.begins.now (lined_at 8 args.numbers.now args.inverses.now args.marks.now args.points.now args.starts.now args.owners.now) (take args.some (drop args.first args.listed.now)) c.args-2.ensures c.all_paths.new.work c.all_paths.new.begins (tail-lines _ _ _ args.first args.some args.listed.now _ _ c.all_paths.ensures) c.in_ok-n.was c.all_paths.new.chopped c.all_paths.new.chopped_starts c.all_paths.auto.chopped c.all_paths.auto.chopped_starts _ _ c.put_lines.ensures
