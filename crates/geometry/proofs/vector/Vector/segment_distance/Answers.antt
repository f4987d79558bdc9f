use mathlib.Core.Path.{sym, ap, ◌∙◌}
use Rattle.sqrt.specs.Root.{sqrt_of}
use Rattle.geometry.proofs.Segments.{segment-root}
use Rattle.geometry.proofs.vector.Vector.segment_distance.Goals as goal

pub returns : goal.returns
returns c =
    c.root.ensures ∙ ap sqrt_of c.segment_square.ensures ∙ sym (segment-root _ _ _)
