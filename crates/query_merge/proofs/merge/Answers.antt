use Rattle.query_merge.proofs.Answers.{mergeable-so, merges-refused, merges-into}
use Rattle.query_merge.specs.Merging.{sizes_of}
use Rattle.check_scene.proofs.Verdicts.{cleared}
use Rattle.floats.specs.Arith.{zero_f}
use mathlib.Core.Path.{refl}
use Rattle.query_merge.proofs.merge.Goals as goal

pub fill-requires : goal.fill-requires
unfolding sizes_of
fill-requires c =
    mergeable-so _ _ _ c.judged-r.ensures c.in-Ok.is

pub returns-in-Err : goal.returns-in-Err
unfolding sizes_of
returns-in-Err c =
    let args = c.args in merges-refused _ _ _ c.judged-r.ensures c.in-Err.is (cleared zero_f args.out_numbers.now refl c.clear.ensures) (cleared 0 args.out_marks.now refl c.clear_marks.ensures) (cleared zero_f args.out_points.now refl c.clear-in-Err.ensures) (cleared 0 args.out_starts.now refl c.clear_starts.ensures) (cleared 0 args.out_owners.now refl c.clear_marks-in-Err.ensures)

pub returns-in-Ok : goal.returns-in-Ok
unfolding sizes_of
returns-in-Ok c =
    merges-into _ _ _ c.judged-r.ensures c.in-Ok.is c.fill.ensures
