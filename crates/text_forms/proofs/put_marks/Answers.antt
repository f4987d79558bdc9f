use Rattle.rows.proofs.Rows.{written_is}
use lib.ListN.{length-set}
use native.Mathlib.Omega.{arith}
use mathlib.Core.List.{[], ◌∷◌}
use Prim.Native.Nat.{◌*◌}
use Rattle.text_forms.proofs.put_marks.Goals as goal

pub bounds-marks-at-2 : goal.bounds-marks-at-2
bounds-marks-at-2 c =
    simp length-set (omega arith)

pub bounds-marks-at-3 : goal.bounds-marks-at-3
bounds-marks-at-3 c =
    simp length-set (omega arith)

pub bounds-marks-at-4 : goal.bounds-marks-at-4
bounds-marks-at-4 c =
    simp length-set (omega arith)

pub returns : goal.returns
returns c =
    written_is (c.args.i * 4) (c.args.kind ∷ c.args.detail ∷ c.args.first ∷ c.args.second ∷ []) c.args.marks.now
