use Rattle.std.proofs.lemmas.Result.{err_from_is_err_and}
use Rattle.draw_rings.specs.Pieces.{pieces}
use Rattle.draw_arcs.specs.Rings.{ring_point, ends_halving}
use Rattle.draw_arcs.specs.Stances.{placement_of}
use Rattle.draw_arcs.proofs.Pushing.{no-depth, stopped, no_middle, only_end, half-refused, half-done}
use Rattle.draw_arcs.proofs.+pieces.Goals as goal

pub returns-then-depth-eq0 : goal.returns-then-depth-eq0
returns-then-depth-eq0 t c =
    let args = c.args in
    let ends = ends_halving args.stepping (placement_of args.t) args.f in
    only_end (ring_point args.f) args.out.now args.n args.q (pieces ends args.radius args.depth args.p args.q) (no-depth ends args.radius args.depth args.p args.q c.if-depth-eq0.true) _ c.ring_point.ensures _ c.push.ensures

pub returns-then-ends_halving : goal.returns-then-ends_halving
returns-then-ends_halving t c =
    let args = c.args in
    let ends = ends_halving args.stepping (placement_of args.t) args.f in
    only_end (ring_point args.f) args.out.now args.n args.q (pieces ends args.radius args.depth args.p args.q) (stopped ends args.radius args.depth args.p args.q _ c.ends_halving.ensures c.if-ends_halving.true) _ c.ring_point-then-ends_halving.ensures _ c.push-then-ends_halving.ensures

pub returns-in-None : goal.returns-in-None
returns-in-None t c =
    let args = c.args in
    let ends = ends_halving args.stepping (placement_of args.t) args.f in
    only_end (ring_point args.f) args.out.now args.n args.q (pieces ends args.radius args.depth args.p args.q) (no_middle ends args.radius args.depth args.p args.q _ c.ring_middle-m.ensures c.in-None.is) _ c.ring_point-in-None.ensures _ c.push-in-None.ensures

pub returns-in_err-i-in-Some : goal.returns-in_err-i-in-Some
returns-in_err-i-in-Some t c =
    let args = c.args in
    let ends = ends_halving args.stepping (placement_of args.t) args.f in
    let p = err_from_is_err_and c.from_residual.result c.from_residual.ensures.1 in
    rw (p.1, p.2)
    (half-refused (ring_point args.f) args.out.now args.n ends args.radius args.depth args.p args.q _ c.ends_halving.ensures c.if-ends_halving.false c.if-depth-eq0.false _ c.ring_middle-m.ensures _ c.in-Some.is _ c.pieces.ensures c.in_err-i-in-Some.was)

pub returns-in_ok-i-in-Some : goal.returns-in_ok-i-in-Some
returns-in_ok-i-in-Some t c =
    let args = c.args in
    let ends = ends_halving args.stepping (placement_of args.t) args.f in
    half-done (ring_point args.f) args.out.now args.n ends args.radius args.depth args.p args.q _ c.ends_halving.ensures c.if-ends_halving.false c.if-depth-eq0.false _ c.ring_middle-m.ensures _ c.in-Some.is _ c.pieces.ensures c.in_ok-i-in-Some.was c.pieces.auto.out _ c.pieces-in-Some.ensures
