use Rattle.rows.proofs.Starts.{end-next, end-last}
use Rattle.rows.proofs.end_of.Goals as goal

pub returns-then-j-starts : goal.returns-then-j-starts
returns-then-j-starts c =
    end-next c.args.starts.now c.args.points c.args.i c.if-j-starts.true

pub returns : goal.returns
returns c =
    end-last c.args.starts.now c.args.points c.args.i c.if-j-starts.false
