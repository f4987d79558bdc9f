use Rattle.std.proofs.lemmas.Result.{err_from_is_err_and}
use Rattle.draw_collect.proofs.Listing.{collecting-start, collecting-refused, collecting-turn, collecting-end}
use lib.Seq.{length-take-le, get_or-take}
use lib.ListN.{take}
use native.Mathlib.Omega.{arith}
use mathlib.Core.Path.{sym, ◌∙◌}
use Rattle.draw_collect.proofs.all_paths.Goals as goal

pub loop-i-init : goal.loop-i-init
loop-i-init c =
    let args = c.args in let pre = c.requires in collecting-start args.args args.wide args.many _ (take args.count args.listed.now) args.work.now args.begins.now args.chopped.now args.chopped_starts.now pre.1

pub offset_bounds-listed-i : goal.offset_bounds-listed-i
offset_bounds-listed-i c =
    let good = c.well_formed in let pre = c.requires in omega (arith, c.loop-i-test.true, pre.0, good)

pub bounds-listed-i : goal.bounds-listed-i
bounds-listed-i c =
    let pre = c.requires in omega (arith, c.loop-i-test.true, pre.0)

pub entry_paths-requires : goal.entry_paths-requires
entry_paths-requires c =
    (c.loop-i.invariant.lent, record { enough = omega (arith, c.stance_of.ensures.1); most = omega (arith, c.stance_of.ensures.1) })

pub shape_of-work-in_err-p : goal.shape_of-work-in_err-p
shape_of-work-in_err-p c =
    c.entry_paths.auto.work ∙ c.loop-i.invariant.same

pub shape_of-begins-in_err-p : goal.shape_of-begins-in_err-p
shape_of-begins-in_err-p c =
    c.entry_paths.auto.begins ∙ c.loop-i.invariant.same-starts

pub shape_of-chopped-in_err-p : goal.shape_of-chopped-in_err-p
shape_of-chopped-in_err-p c =
    c.entry_paths.auto.chopped ∙ c.loop-i.invariant.same-chopped

pub shape_of-chopped_starts-in_err-p : goal.shape_of-chopped_starts-in_err-p
shape_of-chopped_starts-in_err-p c =
    c.entry_paths.auto.chopped_starts ∙ c.loop-i.invariant.same-chopped-starts

pub returns-in_err-p : goal.returns-in_err-p
returns-in_err-p c =
    let p = err_from_is_err_and c.from_residual.result c.from_residual.ensures.1 in rw (p.1, p.2) (let args = c.args in let pre = c.requires in collecting-refused args.args args.wide args.many _ (take args.count args.listed.now) args.work.now args.begins.now args.chopped.now args.chopped_starts.now c.loop-i.work c.loop-i.begins c.loop-i.chopped c.loop-i.chopped_starts c.loop-i.p c.loop-i.q c.loop-i.i c.loop-i.invariant _ (omega (arith, c.loop-i-test.true, pre.0, length-take-le args.count args.listed.now pre.0)) (c.index.ensures.0 ∙ sym (get_or-take args.count args.listed.now c.loop-i.i 0 c.loop-i-test.true)) c.entry_paths.new.work c.entry_paths.new.begins c.stance_of.ensures.0 c.entry_paths.ensures c.in_err-p.was)

pub loop-i-smaller : goal.loop-i-smaller
loop-i-smaller c =
    omega (arith, c.loop-i-test.true)

pub loop-i-preserved : goal.loop-i-preserved
loop-i-preserved c =
    let args = c.args in let pre = c.requires in collecting-turn args.args args.wide args.many _ (take args.count args.listed.now) args.work.now args.begins.now args.chopped.now args.chopped_starts.now c.loop-i.work c.loop-i.begins c.loop-i.chopped
    c.loop-i.chopped_starts c.loop-i.p c.loop-i.q c.loop-i.i c.loop-i.invariant _ (omega (arith, c.loop-i-test.true, pre.0, length-take-le args.count args.listed.now pre.0))
    (c.index.ensures.0 ∙ sym (get_or-take args.count args.listed.now c.loop-i.i 0 c.loop-i-test.true)) c.entry_paths.new.work c.entry_paths.new.begins c.stance_of.ensures.0 c.entry_paths.ensures
    c.in_ok-p.was _ _ c.entry_paths.auto.work c.entry_paths.auto.begins c.entry_paths.auto.chopped
    c.entry_paths.auto.chopped_starts

pub shape_of-work : goal.shape_of-work
shape_of-work c =
    c.loop-i.invariant.same

pub shape_of-begins : goal.shape_of-begins
shape_of-begins c =
    c.loop-i.invariant.same-starts

pub shape_of-chopped : goal.shape_of-chopped
shape_of-chopped c =
    c.loop-i.invariant.same-chopped

pub shape_of-chopped_starts : goal.shape_of-chopped_starts
shape_of-chopped_starts c =
    c.loop-i.invariant.same-chopped-starts

pub returns : goal.returns
returns c =
    let args = c.args in let pre = c.requires in collecting-end args.args args.wide args.many _ (take args.count args.listed.now) args.work.now args.begins.now args.chopped.now args.chopped_starts.now c.loop-i.work c.loop-i.begins c.loop-i.chopped c.loop-i.chopped_starts c.loop-i.p c.loop-i.q c.loop-i.i c.loop-i.invariant (omega (arith, c.loop-i-test.false, length-take-le args.count args.listed.now pre.0))
