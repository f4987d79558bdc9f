use mathlib.Core.Path.{◌∙◌}
use Rattle.rows.proofs.Starts.{good_none, good-late, good-from-zero}
use Rattle.rows.proofs.good_starts.Goals as goal

pub returns-then-starts-eq0 : goal.returns-then-starts-eq0
returns-then-starts-eq0 c =
    good_none c.args.points c.args.starts.now c.if-starts-eq0.true

pub returns-then-starts-ne0 : goal.returns-then-starts-ne0
returns-then-starts-ne0 c =
    let args = c.args in good-late args.points args.starts.now c.if-starts-eq0.false c.if-starts-ne0.true

pub returns : goal.returns
returns c =
    let args = c.args in c.rising.ensures ∙ good-from-zero args.points args.starts.now c.if-starts-eq0.false c.if-starts-ne0.false
