use borrow.Author.Rules.{rules}
use Rattle.rows.proofs.Rows.{filled-start, filled-turn, filled-end}
use Rattle.rows.proofs.clear_to.Goals as goal

pub loop-i-init : goal.loop-i-init
loop-i-init g c =
    filled-start c.args.zero _ _ (search rules)

pub loop-i-preserved : goal.loop-i-preserved
loop-i-preserved g c =
    filled-turn c.args.zero _ _ _ _ c.loop-i.invariant (rw c.loop-i.auto.xs c.loop-i-test.true)

pub shape_of-xs : goal.shape_of-xs
shape_of-xs g c =
    c.loop-i.invariant.same

pub returns : goal.returns
returns g c =
    filled-end c.args.zero _ _ _ _ c.loop-i.invariant (rw c.loop-i.auto.xs c.loop-i-test.false)
