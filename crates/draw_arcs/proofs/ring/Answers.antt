use Rattle.std.proofs.lemmas.Result.{err_from_is_err_and}
use Rattle.draw_arcs.specs.Stances.{placement_of}
use Rattle.draw_arcs.specs.Rings.{ring_of}
use Rattle.draw_lines.proofs.Adding.{adds-refused, adds_one}
use Rattle.draw_arcs.proofs.ring.Goals as goal

pub one_ring-requires : goal.one_ring-requires
one_ring-requires c =
    let pre = c.requires in ((pre _ _ c.in_ok-n.was).0, (pre _ _ c.in_ok-n.was).1)

pub returns-in_err-n : goal.returns-in_err-n
returns-in_err-n c =
    let p = err_from_is_err_and c.from_residual.result c.from_residual.ensures.1 in rw (p.1, p.2) (adds-refused _ _ _ c.in_err-n.was)

pub returns : goal.returns
unfolding ring_of
returns c =
    let args = c.args in adds_one (ring_of (placement_of args.t) args.f args.radius) args.out.now args.begins.now _ _ c.in_ok-n.was c.one_ring.ensures
