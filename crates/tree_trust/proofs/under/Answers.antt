use mathlib.Core.Path.{◌≡◌}
use mathlib.Core.Bool.{Bool, true, ◌&&◌}
use Rattle.tree_trust.specs.Trust.{is_under}
use Rattle.tree_trust.proofs.under.Goals as goal

last : {a b c : Bool} → a ≡ true → b ≡ true → c ≡ (a && (b && c))
last e f = rw (e, f)

pub returns-then-a-b-2 : goal.returns-then-a-b-2
unfolding is_under
returns-then-a-b-2 c =
    last c.if-a-b.true c.if-a-b-2.true

pub returns-else-a-b-2 : goal.returns-else-a-b-2
unfolding is_under
returns-else-a-b-2 c =
    simp (c.if-a-b.true, c.if-a-b-2.false)

pub returns-else-a-b : goal.returns-else-a-b
unfolding is_under
returns-else-a-b c =
    simp c.if-a-b.false
