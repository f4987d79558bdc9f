use Rattle.draw_lines.proofs.Adding.{adds_then, adds-as}
use mathlib.Core.Path.{◌∙◌}
use Rattle.draw_lines.specs.Cubes.{sides}
use Rattle.draw_lines.proofs.sides.Goals as goal

pub line-c1-requires : goal.line-c1-requires
line-c1-requires c =
    let pre = c.requires in pre

pub line-c2-requires : goal.line-c2-requires
line-c2-requires c =
    c.line-c1.ensures.ends.fits

pub line-c3-requires : goal.line-c3-requires
line-c3-requires c =
    c.line-c2.ensures.ends.fits

pub line-requires : goal.line-requires
line-requires c =
    c.line-c3.ensures.ends.fits

pub shape_of-out : goal.shape_of-out
shape_of-out c =
    c.line.auto.out ∙ c.line-c3.auto.out ∙ c.line-c2.auto.out ∙ c.line-c1.auto.out

pub shape_of-begins : goal.shape_of-begins
shape_of-begins c =
    c.line.auto.begins ∙ c.line-c3.auto.begins ∙ c.line-c2.auto.begins ∙ c.line-c1.auto.begins

pub returns : goal.returns
unfolding sides
returns c =
    let args = c.args in adds-as _ (sides args.min args.max args.s) (adds_then _ _ _ _ _ _ _ _ _ c.line-c1.ensures c.line-c1.auto.out c.line-c1.auto.begins (adds_then _ _ _ _ _ _ _ _ _ c.line-c2.ensures c.line-c2.auto.out c.line-c2.auto.begins (adds_then _ _ _ _ _ _ _ _ _ c.line-c3.ensures c.line-c3.auto.out c.line-c3.auto.begins c.line.ensures))) (rw (c.new.ensures, c.new-2.ensures, c.new-3.ensures, c.new-4.ensures, c.new-5.ensures, c.new-6.ensures, c.new-7.ensures, c.new-8.ensures))
