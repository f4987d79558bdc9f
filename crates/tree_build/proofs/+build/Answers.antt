use Rattle.std.proofs.Common.{◌≡◌, ◌+◌, ◌<◌, ℕ, length, take, List, [], subst, sym, arith}
use mathlib.Core.Path.{subst⁻¹}
use Rattle.tree_nodes.specs.declared.Node.{Node}
use Rattle.tree_build.proofs.Recursion.{Planned, each-o, inside, half, length-L, length_r, short-left, full-here, full-left, built-both, built-leaf}
use Rattle.tree_build.specs.Slices.{NodeRoom, BuiltAs}
use Rattle.tree_split.specs.Build.{box_at, Fits, tree_for}
use Rattle.tree_sort.proofs.Sorting.{second-half, second-length}
use Rattle.lists.proofs.Properties.{each_take, each-drop}
use Rattle.lists.specs.Lists.{Each}
use Rattle.tree_nodes.proofs.Nodes.{node-same, node-other}
use Rattle.tree_nodes.specs.Nodes.{node_at}
use Rattle.std.specs.Prelude.{Option}
use Rattle.tree_build.proofs.+build.Goals as goal

pub returns-then-at-eq0 : goal.returns-then-at-eq0
returns-then-at-eq0 t c =
    let a = c.args in
    let q = c.requires.1 in
    let d = c.decide-p in
    let D : Planned (box_at a.boxes.now) a.order.now d.new.order d.result = record { some = q.some; plan = d.ensures.0; order = d.ensures.1 } in
    let w = c.write_node in
    let n : Node = record { bx = d.result.bx; first = a.start; count = length d.new.order; axis = d.result.axis } in
    built-leaf _ _ _ _ D (node_at a.node_boxes.now a.node_marks.now) (node_at w.new.boxes w.new.marks) a.places a.node a.free a.start c.if-at-eq0.true q.early q.within
    (node-same a.node_boxes.now w.new.boxes a.node_marks.now w.new.marks a.node n w.ensures.boxes_after w.ensures.marks_after (omega (arith, q.long, q.early, q.within)) (omega (arith, q.wide, q.early, q.within)))
    (node-other a.node_boxes.now w.new.boxes a.node_marks.now w.new.marks a.node n w.ensures.boxes_after w.ensures.marks_after)

pub returns-then-places-free : goal.returns-then-places-free
returns-then-places-free t c =
    let a = c.args in
    let q = c.requires.1 in
    let d = c.decide-p in
    let D : Planned (box_at a.boxes.now) a.order.now d.new.order d.result = record { some = q.some; plan = d.ensures.0; order = d.ensures.1 } in
    full-here _ _ _ _ D c.if-at-eq0.false a.places a.free c.if-places-free.true

pub slice_bounds-build-end : goal.slice_bounds-build-end
slice_bounds-build-end t c =
    let a = c.args in
    let q = c.requires.1 in
    let d = c.decide-p in
    let D : Planned (box_at a.boxes.now) a.order.now d.new.order d.result = record { some = q.some; plan = d.ensures.0; order = d.ensures.1 } in
    half _ _ _ _ D c.if-at-eq0.false

pub slice_bounds-build-end-2 : goal.slice_bounds-build-end-2
slice_bounds-build-end-2 t c =
    let a = c.args in
    let q = c.requires.1 in
    let d = c.decide-p in
    let D : Planned (box_at a.boxes.now) a.order.now d.new.order d.result = record { some = q.some; plan = d.ensures.0; order = d.ensures.1 } in
    sym (length-L _ _ _ _ D c.if-at-eq0.false)

pub build-requires : goal.build-requires
build-requires t c =
    let a = c.args in
    let q = c.requires.1 in
    let d = c.decide-p in
    let D : Planned (box_at a.boxes.now) a.order.now d.new.order d.result = record { some = q.some; plan = d.ensures.0; order = d.ensures.1 } in
    let z = c.if-at-eq0.false in
    let w = c.write_node-2 in
    let ll = length-L _ _ _ _ D z in
    let i = inside _ _ _ _ D z in (
      omega (arith, ll, i, c.decreases),
      (
        each_take (Fits a.boxes.now) d.result.at d.new.order (each-o _ _ _ _ D (Fits a.boxes.now) c.requires.0),
        record {
          long = omega (arith, q.long, w.auto.boxes);
          wide = omega (arith, q.wide, w.auto.marks);
          early = omega arith;
          within = omega (arith, c.if-places-free.false);
          some = omega (arith, ll, z);
          upto = omega (arith, ll, i, q.upto);
          short = omega (arith, ll, i, q.short);
        },
        omega (arith, c.requires.2, d.auto.work),
        omega (arith, c.requires.3, d.auto.spare),
      ),
    )

pub offset_bounds-order-at : goal.offset_bounds-order-at
offset_bounds-order-at t c =
    let a = c.args in
    let q = c.requires.1 in
    let d = c.decide-p in
    let D : Planned (box_at a.boxes.now) a.order.now d.new.order d.result = record { some = q.some; plan = d.ensures.0; order = d.ensures.1 } in
    omega (arith, inside _ _ _ _ D c.if-at-eq0.false, q.upto)

pub slice_bounds-build-count : goal.slice_bounds-build-count
slice_bounds-build-count t c =
    let a = c.args in
    let q = c.requires.1 in
    let d = c.decide-p in
    let D : Planned (box_at a.boxes.now) a.order.now d.new.order d.result = record { some = q.some; plan = d.ensures.0; order = d.ensures.1 } in
    let z = c.if-at-eq0.false in
    let b = c.build in
    let k : length b.new.order ≡ length (take d.result.at d.new.order) = b.auto.order in
    omega (arith, second-length d.new.order b.new.order [] d.result.at (half _ _ _ _ D z) k, half _ _ _ _ D z)

pub slice_bounds-build-start : goal.slice_bounds-build-start
slice_bounds-build-start t c =
    let a = c.args in
    let q = c.requires.1 in
    let d = c.decide-p in
    let D : Planned (box_at a.boxes.now) a.order.now d.new.order d.result = record { some = q.some; plan = d.ensures.0; order = d.ensures.1 } in
    let z = c.if-at-eq0.false in
    let b = c.build in
    let k : length b.new.order ≡ length (take d.result.at d.new.order) = b.auto.order in
    omega (arith, second-length d.new.order b.new.order [] d.result.at (half _ _ _ _ D z) k, half _ _ _ _ D z)

pub overflow_add-start : goal.overflow_add-start
overflow_add-start t c =
    let a = c.args in
    let q = c.requires.1 in
    let d = c.decide-p in
    let D : Planned (box_at a.boxes.now) a.order.now d.new.order d.result = record { some = q.some; plan = d.ensures.0; order = d.ensures.1 } in
    omega (arith, inside _ _ _ _ D c.if-at-eq0.false, q.upto)

pub build-requires-2 : goal.build-requires-2
build-requires-2 t c =
    let a = c.args in
    let q = c.requires.1 in
    let d = c.decide-p in
    let D : Planned (box_at a.boxes.now) a.order.now d.new.order d.result = record { some = q.some; plan = d.ensures.0; order = d.ensures.1 } in
    let z = c.if-at-eq0.false in
    let b = c.build in
    let k : length b.new.order ≡ length (take d.result.at d.new.order) = b.auto.order in
    let w = c.write_node-2 in
    let left = subst (λ (r : Option ℕ). BuiltAs r (node_at w.new.boxes w.new.marks) (node_at b.new.node_boxes b.new.node_marks) a.places a.free (a.free + 2) a.start b.new.order (tree_for (box_at a.boxes.now) (take d.result.at d.new.order))) c.in_ok-f.was b.ensures in
    let e = second-half d.new.order b.new.order [] d.result.at (half _ _ _ _ D z) k in
    let lr = length_r _ _ _ _ D z in
    let i = inside _ _ _ _ D z in
    let sl = short-left _ _ _ _ D z in (
      subst⁻¹ (λ (l : List ℕ). length l < t) e (omega (arith, lr, i, z, c.decreases)),
      (
        subst⁻¹ (λ (l : List ℕ). Each (Fits a.boxes.now) l) e (each-drop (Fits a.boxes.now) d.result.at d.new.order (each-o _ _ _ _ D (Fits a.boxes.now) c.requires.0)),
        subst⁻¹ (λ (l : List ℕ). NodeRoom b.new.node_boxes b.new.node_marks a.places (a.free + 1) c.in_ok-f.f (a.start + d.result.at) (length l)) e
            (record {
              long = omega (arith, q.long, w.auto.boxes, b.auto.node_boxes);
              wide = omega (arith, q.wide, w.auto.marks, b.auto.node_marks);
              early = omega (arith, left.0);
              within = omega (arith, left.0, left.1.fits);
              some = omega (arith, lr, i);
              upto = omega (arith, lr, i, q.upto);
              short = omega (arith, lr, i, sl, left.0, q.short);
            }),
        omega (arith, c.requires.2, d.auto.work, b.auto.work),
        omega (arith, c.requires.3, d.auto.spare, b.auto.spare),
      ),
    )

pub returns-in_err-f : goal.returns-in_err-f
returns-in_err-f t c =
    let a = c.args in
    let q = c.requires.1 in
    let d = c.decide-p in
    let D : Planned (box_at a.boxes.now) a.order.now d.new.order d.result = record { some = q.some; plan = d.ensures.0; order = d.ensures.1 } in
    let z = c.if-at-eq0.false in
    let b = c.build in
    let k : length b.new.order ≡ length (take d.result.at d.new.order) = b.auto.order in
    let w = c.write_node-2 in
    let left = subst (λ (r : Option ℕ). BuiltAs r (node_at w.new.boxes w.new.marks) (node_at b.new.node_boxes b.new.node_marks) a.places a.free (a.free + 2) a.start b.new.order (tree_for (box_at a.boxes.now) (take d.result.at d.new.order))) c.in_err-f.was b.ensures in
    rw c.from_residual.ensures (full-left _ _ _ _ D z a.places a.free left)

pub returns : goal.returns
returns t c =
    let a = c.args in
    let q = c.requires.1 in
    let d = c.decide-p in
    let D : Planned (box_at a.boxes.now) a.order.now d.new.order d.result = record { some = q.some; plan = d.ensures.0; order = d.ensures.1 } in
    let z = c.if-at-eq0.false in
    let b = c.build in
    let k : length b.new.order ≡ length (take d.result.at d.new.order) = b.auto.order in
    let w = c.write_node-2 in
    let left = subst (λ (r : Option ℕ). BuiltAs r (node_at w.new.boxes w.new.marks) (node_at b.new.node_boxes b.new.node_marks) a.places a.free (a.free + 2) a.start b.new.order (tree_for (box_at a.boxes.now) (take d.result.at d.new.order))) c.in_ok-f.was b.ensures in
    let b₂ = c.build-2 in
    let n : Node = record { bx = d.result.bx; first = a.free; count = 0; axis = d.result.axis } in
    built-both _ _ _ _ D z a.places a.node a.free a.start (node_at a.node_boxes.now a.node_marks.now) (node_at w.new.boxes w.new.marks)
    (node_at b.new.node_boxes b.new.node_marks) (node_at b₂.new.node_boxes b₂.new.node_marks) q.early
    (node-same a.node_boxes.now w.new.boxes a.node_marks.now w.new.marks a.node n w.ensures.boxes_after w.ensures.marks_after (omega (arith, q.long, q.early, q.within)) (omega (arith, q.wide, q.early, q.within)))
    (node-other a.node_boxes.now w.new.boxes a.node_marks.now w.new.marks a.node n w.ensures.boxes_after w.ensures.marks_after)
    c.in_ok-f.f b.new.order b₂.new.order left k b₂.result b₂.ensures
