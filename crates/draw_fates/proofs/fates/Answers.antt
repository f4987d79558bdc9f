use Rattle.query_cover.proofs.Answers.{batch-fits}
use Rattle.draw_fates.proofs.Ways.{all-fates}
use Rattle.draw_fates.proofs.fates.Goals as goal

pub tell-requires : goal.tell-requires
tell-requires c =
    batch-fits _ _ _ _ _ c.judge-b.ensures _ c.answered-n.ensures

pub returns : goal.returns
returns c =
    all-fates _ _ _ _ _ _ _ _ c.check-v.ensures.verdict _ _ c.check-v.ensures.inverses_are _ c.is_ok.ensures _ c.judge-b.ensures _ c.answered-n.ensures _ c.tell.ensures
