use mathlib.Core.Path.{◌∙◌}
use Rattle.query_cover.proofs.Answers.{batch-fits, all_told}
use Rattle.query_cover.proofs.covered_all.Goals as goal

pub tell-requires : goal.tell-requires
tell-requires c =
    batch-fits _ _ _ _ _ c.judge-b.ensures _ c.answered-n.ensures

pub returns : goal.returns
returns c =
    all_told _ _ _ _ _ _ _ _ c.check-v.ensures.verdict _ _ c.check-v.ensures.inverses_are _ (c.judge-b.ensures ∙ rw c.within_point.ensures) _ c.answered-n.ensures _ c.tell.ensures
