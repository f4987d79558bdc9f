use Rattle.tree_glance.proofs.Sighting.{as-seen}
use Rattle.tree_glance.proofs.sight.Goals as goal
use Rattle.tree_glance.proofs.sight.Goals.{then-trusted+in_default, else-trusted}

pub glimpse-requires : goal.glimpse-requires
glimpse-requires c =
    let pre = c.requires in ((pre.0 c.if-trusted.true).0, pre.1, (pre.0 c.if-trusted.true).1, (pre.0 c.if-trusted.true).2, pre.2, pre.3)

pub returns-in-Some : goal.returns-in-Some
returns-in-Some c =
    (as-seen _ _ c.glimpse.ensures.0 _ c.in-Some.is, c.glimpse.ensures.1)

pub returns : goal.returns
returns c =
    let pre = c.requires in (
      c.visible.ensures,
      elim c.if-trusted.branch [
        | then-trusted+in_default w ↦ rw (w.cover-is, w.stack-is) w.glimpse.ensures.1
        | else-trusted w ↦ rw (w.cover-is, w.stack-is) pre.2
      ],
    )
