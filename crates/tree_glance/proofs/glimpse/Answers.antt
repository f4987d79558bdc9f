use mathlib.Core.Path.{refl, ap, ◌∙◌}
use Rattle.std.specs.Prelude.{Some}
use native.Mathlib.Omega.{arith}
use borrow.Author.Tests.{not-false}
use Rattle.geometry.specs.declared.ray.Ray.{Ray}
use Rattle.tree_walk.specs.Walks.{entry_hit, walk_rows}
use Rattle.tree_glance.proofs.Endings.{aimed-usable}
use Rattle.tree_glance.proofs.Sighting.{near-seen, length-reached, aimed, aimed-ray, told-as, told-hidden, covering-tells, kept-fits, kept-none, seen_as, turned}
use Rattle.tree_glance.proofs.glimpse.Goals as goal

pub returns-then-distance : goal.returns-then-distance
returns-then-distance c =
    let pre = c.requires in (near-seen _ _ _ _ pre.5 c.if-distance.true, pre.4)

pub returns-then-not-b : goal.returns-then-not-b
returns-then-not-b c =
    let pre = c.requires in (tt, pre.4)

pub covered-requires : goal.covered-requires
covered-requires c =
    let pre = c.requires in (pre.4.wide, kept-fits _ _ _ _ _ pre.4)

pub shape_of-cover-then-covered : goal.shape_of-cover-then-covered
shape_of-cover-then-covered c =
    refl

pub returns-then-covered : goal.returns-then-covered
returns-then-covered c =
    let args = c.args in let pre = c.requires in (
      told-hidden args.eye args.point c.sub-v.result args.distance c.sub-v.ensures pre.5 c.div_scalar.result c.div_scalar.ensures c.new-r.result c.new-r.ensures c.aim-b.result c.aim-b.ensures c.if-distance.false (λ (r : Ray). walk_rows (entry_hit args.numbers.now args.inverses.now args.marks.now r) r args.node_boxes.now args.node_marks.now args.order.now) (covering-tells (entry_hit args.numbers.now args.inverses.now args.marks.now c.aim-b.result.ray)
          c.aim-b.result.ray args.distance args.node_boxes.now args.node_marks.now args.order.now args.cover.now args.stack.now pre.0 pre.4 (aimed-usable c.aim-b.result (aimed args.eye args.point c.sub-v.result args.distance c.sub-v.ensures pre.5 c.div_scalar.result c.div_scalar.ensures c.new-r.result c.new-r.ensures c.aim-b.result c.aim-b.ensures pre.3 (not-false _ c.if-not-b.false)))
          (λ i. pre.1 c.if-calm.true _ i) (turned (λ (r : Ray). entry_hit args.numbers.now args.inverses.now args.marks.now r) c.aim-b.result.ray c.new-r.result args.distance args.node_boxes.now {cover = args.cover.now} (aimed-ray args.eye args.point c.sub-v.result args.distance c.sub-v.ensures pre.5 c.div_scalar.result c.div_scalar.ensures c.new-r.result c.new-r.ensures c.aim-b.result c.aim-b.ensures) (c.covered.ensures c.if-covered.true))),
      pre.4,
    )

pub look-requires : goal.look-requires
look-requires c =
    let args = c.args in let pre = c.requires in (pre.0, pre.1, (aimed args.eye args.point c.sub-v.result args.distance c.sub-v.ensures pre.5 c.div_scalar.result c.div_scalar.ensures c.new-r.result c.new-r.ensures c.aim-b.result c.aim-b.ensures pre.3 (not-false _ c.if-not-b.false)), length-reached args.eye args.point c.sub-v.result args.distance c.sub-v.ensures pre.5 pre.2 pre.3, pre.4)

pub bounds-cover-0 : goal.bounds-cover-0
bounds-cover-0 c =
    omega (arith, c.look.ensures.1.wide)

pub returns-in_err-g : goal.returns-in_err-g
returns-in_err-g c =
    rw c.from_residual.ensures (tt, c.look.ensures.1)

pub returns-in-Hidden : goal.returns-in-Hidden
returns-in-Hidden c =
    let args = c.args in let pre = c.requires in (seen_as _ _ _ (c.in_ok-g.was ∙ ap Some c.in-Hidden.is) (told-as args.eye args.point c.sub-v.result args.distance c.sub-v.ensures pre.5 c.div_scalar.result c.div_scalar.ensures c.new-r.result c.new-r.ensures c.aim-b.result c.aim-b.ensures c.if-distance.false (λ (r : Ray). walk_rows (entry_hit args.numbers.now args.inverses.now args.marks.now r) r args.node_boxes.now args.node_marks.now args.order.now) c.look.result c.look.ensures.0), c.look.ensures.1)

pub returns-in-Visible : goal.returns-in-Visible
returns-in-Visible c =
    let args = c.args in let pre = c.requires in (seen_as _ _ _ (c.in_ok-g.was ∙ ap Some c.in-Visible.is) (told-as args.eye args.point c.sub-v.result args.distance c.sub-v.ensures pre.5 c.div_scalar.result c.div_scalar.ensures c.new-r.result c.new-r.ensures c.aim-b.result c.aim-b.ensures c.if-distance.false (λ (r : Ray). walk_rows (entry_hit args.numbers.now args.inverses.now args.marks.now r) r args.node_boxes.now args.node_marks.now args.order.now) c.look.result c.look.ensures.0), kept-none _ _ _ _ _ c.look.ensures.1)
