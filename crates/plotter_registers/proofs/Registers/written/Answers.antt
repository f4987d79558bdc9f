use mathlib.Core.Path.{sym, ◌∙◌}
use Rattle.plotter_registers.specs.Plotter as Plotter
use Rattle.plotter_registers.proofs.Accepting.{accepted-below}
use Rattle.plotter_registers.proofs.Registers.written.Goals as goal

pub stored-requires : goal.stored-requires
stored-requires c =
    accepted-below _ _ _ (sym c.judged-answer.ensures ∙ c.in-Ok.is)

pub returns-in-Ok : goal.returns-in-Ok
unfolding Plotter.write_of Plotter.after_write Plotter.write_number
returns-in-Ok c =
    simp (← c.judged-answer.ensures, c.write_number-number.ensures, c.in-Ok.is, c.stored.ensures)

pub returns-in-Err : goal.returns-in-Err
unfolding Plotter.write_of Plotter.after_write Plotter.write_number
returns-in-Err c =
    simp (← c.judged-answer.ensures, c.write_number-number.ensures, c.in-Err.is)
