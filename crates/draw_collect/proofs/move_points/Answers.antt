use Rattle.draw_collect.proofs.Vectors.{rest_is, put_rest}
use Rattle.path_transform.specs.Transform.{transformed}
use Rattle.paths.proofs.Parts.{length-points}
use lib.ListN.{length-drop, take, length}
use Prim.Native.Nat.{◌≤◌, ◌*◌}
use mathlib.Core.List.{◌++◌}
use mathlib.Core.Path.{◌∙◌, ap}
use Rattle.draw_collect.proofs.Moved.{moved-part, moved_none}
use native.Mathlib.Omega.{arith}
use Rattle.draw_collect.proofs.move_points.Goals as goal

pub overflow_mul-at : goal.overflow_mul-at
overflow_mul-at c =
    omega (arith, c.requires, c.if-n-end.true, c.well_formed)

pub offset_bounds-xs-at : goal.offset_bounds-xs-at
offset_bounds-xs-at c =
    omega (arith, c.requires, c.if-n-end.true, c.well_formed)

pub slice_bounds-transform-count : goal.slice_bounds-transform-count
slice_bounds-transform-count c =
    omega (arith, c.requires, c.if-n-end.true)

pub slice_bounds-transform-start : goal.slice_bounds-transform-start
slice_bounds-transform-start c =
    omega (arith, c.requires, c.if-n-end.true)

pub slice_bounds-transform-end : goal.slice_bounds-transform-end
slice_bounds-transform-end c =
    omega (arith, c.requires, c.if-n-end.true)

pub overflow_sub-end : goal.overflow_sub-end
overflow_sub-end c =
    omega (arith, c.if-n-end.true)

pub transform-requires : goal.transform-requires
transform-requires c =
    let args = c.args in let pre = c.requires in let h : args.n * 3 ≤ length args.xs.now = omega (arith, pre, c.if-n-end.true) in
    rw (rest_is args.xs.now _ h, length-drop) (omega (arith, pre, c.if-n-end.true))

pub returns-then-n-end : goal.returns-then-n-end
returns-then-n-end c =
    let args = c.args in let pre = c.requires in let h : args.n * 3 ≤ length args.xs.now = omega (arith, pre, c.if-n-end.true) in
    moved-part args.matrix args.xs.now args.n args.end c.if-n-end.true (pre) _
    (put_rest args.xs.now _ h _ ∙ ap (λ t. take (args.n * 3) args.xs.now ++ t) (c.transform.ensures ∙ ap (transformed args.matrix _) (rest_is args.xs.now _ h)))

pub returns-else-n-end : goal.returns-else-n-end
returns-else-n-end c =
    let args = c.args in moved_none args.matrix _ args.n (omega (arith, c.if-n-end.false, length-points args.end args.xs.now))
