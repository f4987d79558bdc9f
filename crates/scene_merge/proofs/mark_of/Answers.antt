use Rattle.scene_merge.proofs.Raising.{mark-last}
use Rattle.scene_merge.proofs.mark_of.Goals as goal

pub returns : goal.returns
returns c =
    mark-last _ _ c.requires c.if-place-eq0.false c.if-place-eq1.false c.if-place-eq2.false
