use mathlib.Core.Path.{ap, ◌∙◌}
use Rattle.geometry.specs.Boxes.{box_test}
use Rattle.geometry.specs.declared.bounding_box.BBox.{BBox}
use Rattle.tree_glance.proofs.Spots.{enters-not, enters-behind, enters-told}
use Rattle.tree_glance.proofs.enters.Goals as goal

pub returns-then-s : goal.returns-then-s
returns-then-s c =
    let args = c.args in enters-not _ _ _ _ _ (c.intersect-s.ensures ∙ ap (λ (b : BBox). box_test b args.r) c.read_box.ensures) c.if-s.true

pub returns-then-s-2 : goal.returns-then-s-2
returns-then-s-2 c =
    let args = c.args in enters-behind _ _ _ _ _ (c.intersect-s.ensures ∙ ap (λ (b : BBox). box_test b args.r) c.read_box.ensures) c.if-s.false c.if-s-2.true

pub returns : goal.returns
returns c =
    let args = c.args in enters-told _ _ _ _ _ (c.intersect-s.ensures ∙ ap (λ (b : BBox). box_test b args.r) c.read_box.ensures) c.if-s.false c.if-s-2.false

pub read_box-requires : goal.read_box-requires
read_box-requires c =
    c.requires
