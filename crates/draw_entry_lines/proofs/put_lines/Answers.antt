use mathlib.Core.Path.{sym}
use lib.Seq.{length-take-le}
use Rattle.draw_entry_lines.proofs.Lines.{copied-lines, chopped-lines}
use Rattle.draw_entry_lines.proofs.put_lines.Goals as goal

pub slice_bounds-copy_paths-end : goal.slice_bounds-copy_paths-end
slice_bounds-copy_paths-end c =
    sym (length-take-le _ c.args.work.now c.requires.0)

pub slice_bounds-copy_paths-end-then-not-stepping : goal.slice_bounds-copy_paths-end-then-not-stepping
slice_bounds-copy_paths-end-then-not-stepping c =
    sym (length-take-le _ c.args.work_starts.now c.requires.1)

pub returns-then-not-stepping : goal.returns-then-not-stepping
returns-then-not-stepping c =
    let args = c.args in copied-lines args.view _ _ args.work.now args.work_starts.now args.n args.m c.requires.0 c.stepping.ensures _ _ c.if-not-stepping.true c.copy_paths.ensures

pub slice_bounds-chop_lines-end : goal.slice_bounds-chop_lines-end
slice_bounds-chop_lines-end c =
    sym (length-take-le _ c.args.work.now c.requires.0)

pub slice_bounds-chop_lines-end-2 : goal.slice_bounds-chop_lines-end-2
slice_bounds-chop_lines-end-2 c =
    sym (length-take-le _ c.args.work_starts.now c.requires.1)

pub returns : goal.returns
returns c =
    let args = c.args in chopped-lines args.view _ _ args.work.now args.work_starts.now args.n args.m c.requires.0 c.stepping.ensures _ _ c.if-not-stepping.false c.args-2.ensures c.chop_lines.ensures
