use Rattle.path_rdp.proofs.Scanning.{stays}
use Rattle.path_rdp.specs.Rdp as Rdp
use Rattle.path_rdp.proofs.tried.Goals as goal

pub returns-then-not-q-best : goal.returns-then-not-q-best
returns-then-not-q-best c =
    record { far = stays _ _ _ _ c.requires c.if-not-q-best.true; root = c.requires }

pub returns-then-d-f : goal.returns-then-d-f
unfolding Rdp.farther
returns-then-d-f c =
    record { far = rw (← c.root-d.ensures, c.if-d-f.true); root = c.root-d.ensures }

pub returns : goal.returns
unfolding Rdp.farther
returns c =
    let pre = c.requires in record { far = rw (← c.root-d.ensures, c.if-d-f.false); root = pre }
