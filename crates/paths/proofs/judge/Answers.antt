use Rattle.paths.proofs.Judging.{judged-2, judged-4, judged-8, judged-none, judged-9, judged-fine}
use Rattle.paths.proofs.judge.Goals as goal

pub returns-then-path-ne0 : goal.returns-then-path-ne0
returns-then-path-ne0 c =
    judged-2 c.args.path.now c.args.starts.now c.args.fair c.if-path-ne0.true

pub returns-then-not-good_starts : goal.returns-then-not-good_starts
returns-then-not-good_starts c =
    let args = c.args in judged-4 args.path.now args.starts.now args.fair c.if-path-ne0.false _ c.good_starts.ensures c.if-not-good_starts.true

pub returns-then-not-fair : goal.returns-then-not-fair
returns-then-not-fair c =
    let args = c.args in judged-8 args.path.now args.starts.now args.fair c.if-path-ne0.false _ c.good_starts.ensures c.if-not-good_starts.false c.if-not-fair.true

pub returns-then-starts-eq0 : goal.returns-then-starts-eq0
returns-then-starts-eq0 c =
    let args = c.args in judged-none args.path.now args.starts.now args.fair c.if-path-ne0.false _ c.good_starts.ensures c.if-not-good_starts.false c.if-not-fair.false c.if-starts-eq0.true

pub returns-then-not-points_ok : goal.returns-then-not-points_ok
returns-then-not-points_ok c =
    let args = c.args in judged-9 args.path.now args.starts.now args.fair c.if-path-ne0.false _ c.good_starts.ensures c.if-not-good_starts.false c.if-not-fair.false c.if-starts-eq0.false _ c.points_ok.ensures c.if-not-points_ok.true

pub returns : goal.returns
returns c =
    let args = c.args in judged-fine args.path.now args.starts.now args.fair c.if-path-ne0.false _ c.good_starts.ensures c.if-not-good_starts.false c.if-not-fair.false c.if-starts-eq0.false _ c.points_ok.ensures c.if-not-points_ok.false
