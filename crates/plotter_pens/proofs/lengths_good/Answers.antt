use Rattle.plotter_pens.proofs.Answers.{lengths-yard, lengths-lines, lengths-few, lengths-last}
use Rattle.plotter_pens.proofs.lengths_good.Goals as goal

pub returns-then-yard-ne0 : goal.returns-then-yard-ne0
returns-then-yard-ne0 c =
    lengths-yard _ _ _ c.if-yard-ne0.true

pub returns-then-lines-ne0 : goal.returns-then-lines-ne0
returns-then-lines-ne0 c =
    lengths-lines _ _ _ c.if-yard-ne0.false c.if-lines-ne0.true

pub returns-then-marks-yard_starts : goal.returns-then-marks-yard_starts
returns-then-marks-yard_starts c =
    lengths-few _ _ _ c.if-yard-ne0.false c.if-lines-ne0.false c.if-marks-yard_starts.true

pub returns : goal.returns
returns c =
    lengths-last _ _ _ c.if-yard-ne0.false c.if-lines-ne0.false c.if-marks-yard_starts.false
