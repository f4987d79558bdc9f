use Rattle.tree_build.proofs.Whole.{cleared, Cleared, stored-none, ready, done, full}
use Rattle.tree_build.specs.Slices.{LaidOut}
use Rattle.tree_split.specs.Build.{box_at, Fits, tree_for}
use Rattle.floats.specs.Arith.{zero_f}
use lib.Seq.{length-take-le, length_front}
use lib.ListN.{length, take, drop, replicate}
use native.Mathlib.Omega.{arith}
use Prim.Native.Nat.{ℕ, ◌-◌}
use mathlib.Core.List.{◌++◌}
use mathlib.Core.Path.{refl, sym, ap, ◌∙◌, subst}
use Rattle.tree_build.proofs.build_tree.Goals as goal
use Rattle.std.specs.Prelude.{Option}

pub returns-then-n-eq0 : goal.returns-then-n-eq0
returns-then-n-eq0 c =
    let args = c.args in let a = args in
    stored-none (box_at a.boxes.now) (take a.n a.order.now) _ _ _ _ _ _ _ (ap (λ (k : ℕ). take k a.order.now) c.if-n-eq0.true) (cleared zero_f a.node_boxes.now _ _ c.clear.ensures refl) (cleared 0 a.node_marks.now _ _ c.clear_marks.ensures refl)
    (cleared 0 a.order.now _ _ (c.clear_marks-2.ensures ∙ ap (λ (k : ℕ). take k a.order.now ++ replicate (length a.order.now - k) 0) c.if-n-eq0.true) refl)

pub returns-then-places-eq0 : goal.returns-then-places-eq0
returns-then-places-eq0 c =
    let args = c.args in let pre = c.requires in let a = args in let C : Cleared a.node_boxes.now c.clear.new.xs a.node_marks.now c.clear_marks.new.xs a.order.now c.clear_marks-2.new.xs a.n c.places-places.result = record {
      within = pre.0;
      some = c.if-n-eq0.false;
      count = c.places-places.ensures;
      node-boxes = cleared zero_f a.node_boxes.now _ _ c.clear.ensures refl;
      node-marks = cleared 0 a.node_marks.now _ _ c.clear_marks.ensures refl;
      order = c.clear_marks-2.ensures;
    } in
    full (box_at a.boxes.now) _ _ _ _ _ _ _ _ C _ _ _ (omega (arith, c.if-places-eq0.true)) C.node-boxes C.node-marks (cleared 0 c.clear_marks-2.new.xs _ _ c.clear_marks-then-places-eq0.ensures c.clear_marks-2.auto.xs)

pub slice_bounds-lay_out-end-2 : goal.slice_bounds-lay_out-end-2
slice_bounds-lay_out-end-2 c =
    let args = c.args in let pre = c.requires in sym (length-take-le args.n c.clear_marks-2.new.xs (omega (arith, pre.0, c.clear_marks-2.auto.xs)))

pub lay_out-r-requires : goal.lay_out-r-requires
lay_out-r-requires c =
    let args = c.args in let pre = c.requires in let a = args in let C : Cleared a.node_boxes.now c.clear.new.xs a.node_marks.now c.clear_marks.new.xs a.order.now c.clear_marks-2.new.xs a.n c.places-places.result = record {
      within = pre.0;
      some = c.if-n-eq0.false;
      count = c.places-places.ensures;
      node-boxes = cleared zero_f a.node_boxes.now _ _ c.clear.ensures refl;
      node-marks = cleared 0 a.node_marks.now _ _ c.clear_marks.ensures refl;
      order = c.clear_marks-2.ensures;
    } in
    ready (box_at a.boxes.now) _ _ _ _ _ _ _ _ C (Fits a.boxes.now) c.if-places-eq0.false pre.1 pre.2

pub returns-in-Some : goal.returns-in-Some
returns-in-Some c =
    let args = c.args in let pre = c.requires in let a = args in let C : Cleared a.node_boxes.now c.clear.new.xs a.node_marks.now c.clear_marks.new.xs a.order.now c.clear_marks-2.new.xs a.n c.places-places.result = record {
      within = pre.0;
      some = c.if-n-eq0.false;
      count = c.places-places.ensures;
      node-boxes = cleared zero_f a.node_boxes.now _ _ c.clear.ensures refl;
      node-marks = cleared 0 a.node_marks.now _ _ c.clear_marks.ensures refl;
      order = c.clear_marks-2.ensures;
    } in
    let G = subst (λ (r : Option ℕ). LaidOut r c.lay_out-r.new.node_boxes c.lay_out-r.new.node_marks c.lay_out-r.new.order c.places-places.result (length c.clear.new.xs) (length c.clear_marks.new.xs) (tree_for (box_at a.boxes.now) (take a.n c.clear_marks-2.new.xs))) c.in-Some.is c.lay_out-r.ensures in
    done (box_at a.boxes.now) _ _ _ _ _ _ _ _ C c.in-Some.f c.lay_out-r.new.node_boxes c.lay_out-r.new.node_marks c.lay_out-r.new.order G c.lay_out-r.auto.order

pub returns-in-None : goal.returns-in-None
returns-in-None c =
    let args = c.args in let pre = c.requires in let a = args in let C : Cleared a.node_boxes.now c.clear.new.xs a.node_marks.now c.clear_marks.new.xs a.order.now c.clear_marks-2.new.xs a.n c.places-places.result = record {
      within = pre.0;
      some = c.if-n-eq0.false;
      count = c.places-places.ensures;
      node-boxes = cleared zero_f a.node_boxes.now _ _ c.clear.ensures refl;
      node-marks = cleared 0 a.node_marks.now _ _ c.clear_marks.ensures refl;
      order = c.clear_marks-2.ensures;
    } in
    let G = subst (λ (r : Option ℕ). LaidOut r c.lay_out-r.new.node_boxes c.lay_out-r.new.node_marks c.lay_out-r.new.order c.places-places.result (length c.clear.new.xs) (length c.clear_marks.new.xs) (tree_for (box_at a.boxes.now) (take a.n c.clear_marks-2.new.xs))) c.in-None.is c.lay_out-r.ensures in
    full (box_at a.boxes.now) _ _ _ _ _ _ _ _ C _ _ _ G (cleared zero_f c.lay_out-r.new.node_boxes _ _ c.clear-in-None.ensures (c.lay_out-r.auto.node_boxes ∙ c.clear.auto.xs))
    (cleared 0 c.lay_out-r.new.node_marks _ _ c.clear_marks-in-None.ensures (c.lay_out-r.auto.node_marks ∙ c.clear_marks.auto.xs))
    (cleared 0 (c.lay_out-r.new.order ++ drop a.n c.clear_marks-2.new.xs) _ _ c.clear_marks-in-None-2.ensures (length_front c.clear_marks-2.new.xs c.lay_out-r.new.order a.n c.lay_out-r.auto.order ∙ c.clear_marks-2.auto.xs))
