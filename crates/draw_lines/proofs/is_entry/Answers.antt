use mathlib.Core.Path.{refl}
use Rattle.draw_lines.proofs.is_entry.Goals as goal

pub returns : goal.returns
returns c =
    refl
