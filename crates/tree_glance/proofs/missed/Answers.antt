use mathlib.Core.Path.{ap, ◌∙◌}
use Rattle.geometry.specs.declared.bounding_box.BBox.{BBox}
use Rattle.tree_beams.specs.Beams.{misses_box}
use Rattle.tree_glance.proofs.missed.Goals as goal

pub read_box-requires : goal.read_box-requires
read_box-requires c =
    c.requires

pub returns : goal.returns
returns c =
    c.misses.ensures ∙ ap (λ (x : BBox). misses_box x c.args.b) c.read_box.ensures
