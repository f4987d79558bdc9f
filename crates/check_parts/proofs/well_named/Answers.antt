use Rattle.check_parts.proofs.Parts.{known-cleared}
use native.Mathlib.Omega.{arith}
use Rattle.check_parts.proofs.well_named.Goals as goal

pub enter_all-requires : goal.enter_all-requires
enter_all-requires c =
    let args = c.args in let pre = c.requires in (pre.0, (omega (arith, pre.1, c.clear_marks.auto.xs), known-cleared _ _ args.named.now c.clear_marks.ensures))
