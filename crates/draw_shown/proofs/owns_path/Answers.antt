use Rattle.draw_shown.proofs.Showing.{owning-start, owning-turn, owning-found, owning-none}
use native.Mathlib.Omega.{arith}
use Rattle.draw_shown.proofs.owns_path.Goals as goal

pub loop-j-init : goal.loop-j-init
loop-j-init c =
    owning-start _ _ _

pub returns-then-owned : goal.returns-then-owned
returns-then-owned c =
    let args = c.args in owning-found args.starts.now args.owners.now args.i c.loop-j.j c.loop-j.invariant c.loop-j-test.true c.owned.ensures c.if-owned.true

pub loop-j-smaller : goal.loop-j-smaller
loop-j-smaller c =
    omega (arith, c.loop-j-test.true)

pub loop-j-preserved : goal.loop-j-preserved
loop-j-preserved c =
    let args = c.args in owning-turn args.starts.now args.owners.now args.i c.loop-j.j c.loop-j.invariant c.loop-j-test.true c.owned.ensures c.if-owned.false

pub returns : goal.returns
returns c =
    let args = c.args in owning-none args.starts.now args.owners.now args.i c.loop-j.j c.loop-j.invariant c.loop-j-test.false
