use Rattle.paths.proofs.Verbs.{new-at, new-full}
use Rattle.paths.proofs.new_path.Goals as goal

pub returns-then-m-starts : goal.returns-then-m-starts
returns-then-m-starts c =
    new-at c.args.starts.now c.args.m c.args.n c.requires c.if-m-starts.true

pub returns : goal.returns
returns c =
    new-full c.args.starts.now c.args.m c.args.n c.requires c.if-m-starts.false
