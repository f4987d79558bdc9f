use borrow.Author.Tests.{eq-eqb, ne_eqb}
use Rattle.text_canonical.specs.Canonical.{round_word}
use borrow.Author.Rules.{rules}
use Rattle.text_entries.proofs.put_round_word.Goals as goal

pub put_word-requires : goal.put_word-requires
put_word-requires c =
    let pre = c.requires in pre

pub shape_of-text-then-kind-eq1 : goal.shape_of-text-then-kind-eq1
shape_of-text-then-kind-eq1 c =
    c.put_word.auto.text

pub returns-then-kind-eq1 : goal.returns-then-kind-eq1
unfolding round_word
returns-then-kind-eq1 c =
    rw (eq-eqb _ _ c.if-kind-eq1.true) c.put_word.ensures

pub put_word-requires-then-kind-eq2 : goal.put_word-requires-then-kind-eq2
put_word-requires-then-kind-eq2 c =
    let pre = c.requires in pre

pub shape_of-text-then-kind-eq2 : goal.shape_of-text-then-kind-eq2
shape_of-text-then-kind-eq2 c =
    c.put_word-then-kind-eq2.auto.text

pub returns-then-kind-eq2 : goal.returns-then-kind-eq2
unfolding round_word
returns-then-kind-eq2 c =
    rw (ne_eqb _ _ c.if-kind-eq1.false, eq-eqb _ _ c.if-kind-eq2.true) c.put_word-then-kind-eq2.ensures

pub put_word-requires-then-kind-eq3 : goal.put_word-requires-then-kind-eq3
put_word-requires-then-kind-eq3 c =
    let pre = c.requires in pre

pub shape_of-text-then-kind-eq3 : goal.shape_of-text-then-kind-eq3
shape_of-text-then-kind-eq3 c =
    c.put_word-then-kind-eq3.auto.text

pub returns-then-kind-eq3 : goal.returns-then-kind-eq3
unfolding round_word
returns-then-kind-eq3 c =
    rw (ne_eqb _ _ c.if-kind-eq1.false, ne_eqb _ _ c.if-kind-eq2.false, eq-eqb _ _ c.if-kind-eq3.true) c.put_word-then-kind-eq3.ensures

pub put_word-requires-then-kind-eq8 : goal.put_word-requires-then-kind-eq8
put_word-requires-then-kind-eq8 c =
    let pre = c.requires in pre

pub shape_of-text-then-kind-eq8 : goal.shape_of-text-then-kind-eq8
shape_of-text-then-kind-eq8 c =
    c.put_word-then-kind-eq8.auto.text

pub returns-then-kind-eq8 : goal.returns-then-kind-eq8
unfolding round_word
returns-then-kind-eq8 c =
    rw (ne_eqb _ _ c.if-kind-eq1.false, ne_eqb _ _ c.if-kind-eq2.false, ne_eqb _ _ c.if-kind-eq3.false, eq-eqb _ _ c.if-kind-eq8.true) c.put_word-then-kind-eq8.ensures

pub put_word-requires-2 : goal.put_word-requires-2
put_word-requires-2 c =
    let pre = c.requires in pre

pub shape_of-text : goal.shape_of-text
shape_of-text c =
    c.put_word-2.auto.text

pub returns : goal.returns
unfolding round_word
returns c =
    rw (ne_eqb _ _ c.if-kind-eq1.false, ne_eqb _ _ c.if-kind-eq2.false, ne_eqb _ _ c.if-kind-eq3.false, ne_eqb _ _ c.if-kind-eq8.false) c.put_word-2.ensures
