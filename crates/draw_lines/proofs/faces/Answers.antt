use Rattle.draw_lines.proofs.Adding.{adds_then}
use mathlib.Core.Path.{◌∙◌}
use Rattle.draw_lines.specs.Cubes.{faces}
use Rattle.draw_lines.proofs.faces.Goals as goal

pub across-c1-requires : goal.across-c1-requires
across-c1-requires c =
    let pre = c.requires in pre

pub across-requires : goal.across-requires
across-requires c =
    c.across-c1.ensures.ends.fits

pub shape_of-out : goal.shape_of-out
shape_of-out c =
    c.across.auto.out ∙ c.across-c1.auto.out

pub shape_of-begins : goal.shape_of-begins
shape_of-begins c =
    c.across.auto.begins ∙ c.across-c1.auto.begins

pub returns : goal.returns
unfolding faces
returns c =
    adds_then _ _ _ _ _ _ _ _ _ c.across-c1.ensures c.across-c1.auto.out c.across-c1.auto.begins c.across.ensures
