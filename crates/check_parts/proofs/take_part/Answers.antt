use borrow.Author.Tests.{eq-eqb, ne_eqb, lt-ltb, le-ltb}
use Rattle.check_parts.proofs.take_part.Goals as goal

pub returns-then-named-p-eq0 : goal.returns-then-named-p-eq0
returns-then-named-p-eq0 c =
    record { value = simp (lt-ltb _ _ c.if-p-i.true, eq-eqb _ _ c.if-named-p-eq0.true); named_after = simp (lt-ltb _ _ c.if-p-i.true, eq-eqb _ _ c.if-named-p-eq0.true) }

pub returns-else-named-p-eq0 : goal.returns-else-named-p-eq0
returns-else-named-p-eq0 c =
    record { value = simp (lt-ltb _ _ c.if-p-i.true, ne_eqb _ _ c.if-named-p-eq0.false); named_after = simp (lt-ltb _ _ c.if-p-i.true, ne_eqb _ _ c.if-named-p-eq0.false) }

pub returns-else-p-i : goal.returns-else-p-i
returns-else-p-i c =
    record { value = simp (le-ltb _ _ c.if-p-i.false); named_after = simp (le-ltb _ _ c.if-p-i.false) }
