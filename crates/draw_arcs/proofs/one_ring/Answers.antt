use Rattle.std.proofs.lemmas.Result.{err_from_is_err_and}
use Rattle.draw_arcs.specs.Stances.{placement_of}
use Rattle.draw_arcs.specs.Rings.{ring_in}
use Rattle.paths.proofs.Stages.{one-full, one-refused, one-done}
use Rattle.draw_lines.specs.Pushing.{copied}
use native.Mathlib.Omega.{arith}
use Rattle.draw_arcs.proofs.one_ring.Goals as goal

pub close-z-requires : goal.close-z-requires
close-z-requires c =
    omega (arith, c.new_path.ensures.fits _ c.in_ok-q.was)

pub returns-in_err-q : goal.returns-in_err-q
returns-in_err-q c =
    let args = c.args in
    let p = err_from_is_err_and c.from_residual.result c.from_residual.ensures.1 in
    rw (p.1, p.2) (one-full copied (ring_in args.stepping (placement_of args.t) args.f args.radius) args.out.now args.begins.now args.n args.m _ c.new_path.ensures c.in_err-q.was)

pub returns-in_err-l : goal.returns-in_err-l
returns-in_err-l c =
    let args = c.args in
    let p = err_from_is_err_and c.from_residual-in_err-l.result c.from_residual-in_err-l.ensures.1 in
    rw (p.1, p.2) (one-refused copied (ring_in args.stepping (placement_of args.t) args.f args.radius) args.out.now args.begins.now args.n args.m _ c.new_path.ensures c.in_ok-q.was _ c.ring_points.ensures c.in_err-l.was)

pub returns : goal.returns
returns c =
    let args = c.args in one-done copied (ring_in args.stepping (placement_of args.t) args.f args.radius) args.out.now args.begins.now args.n args.m _ c.new_path.ensures c.in_ok-q.was _ c.ring_points.ensures _ c.in_ok-l.was c.close-z.ensures.0 c.close-z.ensures.1
