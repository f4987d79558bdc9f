use Rattle.draw_lines.proofs.Adding.{adds_then, adds-as}
use mathlib.Core.Path.{◌∙◌}
use Rattle.draw_lines.specs.Cubes.{across}
use Rattle.draw_lines.proofs.across.Goals as goal

pub line-c1-requires : goal.line-c1-requires
line-c1-requires c =
    let pre = c.requires in pre

pub line-requires : goal.line-requires
line-requires c =
    c.line-c1.ensures.ends.fits

pub shape_of-out : goal.shape_of-out
shape_of-out c =
    c.line.auto.out ∙ c.line-c1.auto.out

pub shape_of-begins : goal.shape_of-begins
shape_of-begins c =
    c.line.auto.begins ∙ c.line-c1.auto.begins

pub returns : goal.returns
unfolding across
returns c =
    let args = c.args in adds-as _ (across args.s args.z) (adds_then _ _ _ _ _ _ _ _ _ c.line-c1.ensures c.line-c1.auto.out c.line-c1.auto.begins c.line.ensures) (rw (c.new.ensures, c.new-2.ensures, c.new-3.ensures, c.new-4.ensures))
