use mathlib.Core.Path.{refl}
use Rattle.geometry.proofs.bounding_box.BBox.new.Goals as goal

pub returns : goal.returns
returns c =
    refl
