use Rattle.check_scene.proofs.Filling.{Filling}
use Rattle.check_scene.specs.Placings.{placing_ok, inverse_at}
use Rattle.scene.specs.Entries.{marks_at, numbers_at}
use Rattle.rows.specs.Entries.{numbers_of}
use Rattle.check_scene.proofs.placings.invert_all.Given as goal

abbrev pub invariant-loop-i : goal.invariant-loop-i
invariant-loop-i l = Filling 16 numbers_of (inverse_at l.numbers l.marks) (λ k. placing_ok (marks_at l.marks k) (numbers_at l.numbers k)) l.n l.initial.inverses l.inverses l.i
