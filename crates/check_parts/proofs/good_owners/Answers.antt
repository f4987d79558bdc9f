use Rattle.check_parts.proofs.Owners.{owned-start, owned-other, owned-falls, owned-turn, owned-end}
use Rattle.check_parts.proofs.good_owners.Goals as goal

pub loop-i-init : goal.loop-i-init
loop-i-init c =
    owned-start _ _

pub returns-then-not-round_entry : goal.returns-then-not-round_entry
returns-then-not-round_entry c =
    owned-other _ _ _ c.loop-i.invariant c.loop-i-test.true c.round_entry.ensures c.if-not-round_entry.true

pub returns-then-next-owners : goal.returns-then-next-owners
returns-then-next-owners c =
    owned-falls _ _ _ c.loop-i.invariant c.loop-i-test.true c.round_entry.ensures c.if-not-round_entry.false c.next_owner-next.ensures c.if-next-owners.true

pub loop-i-preserved : goal.loop-i-preserved
loop-i-preserved c =
    owned-turn _ _ _ c.loop-i.invariant c.loop-i-test.true c.round_entry.ensures c.if-not-round_entry.false c.next_owner-next.ensures c.if-next-owners.false

pub returns : goal.returns
returns c =
    owned-end _ _ _ c.loop-i.invariant c.loop-i-test.false
