use native.Mathlib.Omega.{arith}
use mathlib.Core.Path.{refl}
use Rattle.path_rdp.proofs.Scanning.{peak-low}
use Rattle.path_simplify.proofs.Thinning.{split-short, split-not, split_at, split-inside}
use Rattle.path_simplify.proofs.split.Goals as goal

pub returns-then-b-a-lt2 : goal.returns-then-b-a-lt2
returns-then-b-a-lt2 c =
    let args = c.args in let pre = c.requires in split-short args.threshold args.path.now args.a args.b pre.1 c.if-b-a-lt2.true pre.0

pub returns-then-k-low : goal.returns-then-k-low
returns-then-k-low c =
    let args = c.args in let pre = c.requires in split-not args.threshold args.path.now args.a args.b pre.1 c.if-b-a-lt2.false _ refl (peak-low _ _ c.greatest_square-k.ensures _ _ pre.3 c.if-k-low.true)

pub settled-f-requires : goal.settled-f-requires
settled-f-requires c =
    let args = c.args in let pre = c.requires in let long = c.if-b-a-lt2.false in (omega (arith, long), omega (arith, pre.1), c.greatest_square-k.ensures)

pub returns-then-not-f-threshold : goal.returns-then-not-f-threshold
returns-then-not-f-threshold c =
    let args = c.args in let pre = c.requires in split-not args.threshold args.path.now args.a args.b pre.1 c.if-b-a-lt2.false _ c.settled-f.ensures c.if-not-f-threshold.true

pub overflow_add-result : goal.overflow_add-result
overflow_add-result c =
    let args = c.args in let pre = c.requires in omega (arith, c.well_formed.0.0, pre.1, split-inside args.threshold args.path.now args.a args.b pre.1 c.if-b-a-lt2.false _ c.settled-f.ensures pre.2 c.if-not-f-threshold.false)

pub returns : goal.returns
returns c =
    let args = c.args in let pre = c.requires in split_at args.threshold args.path.now args.a args.b pre.1 c.if-b-a-lt2.false _ c.settled-f.ensures c.if-not-f-threshold.false
